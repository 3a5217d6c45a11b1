-- The table of the records reached, and the list of calls.
use Rattle.std.proofs.Common.{◌≡◌, ℕ, zero, suc, ◌+◌, ◌<◌, Bool, true, false, cond, eqb, List, [], ◌∷◌, ◌++◌, length, get_or, set, replicate, sym, refl, ap, ◌∙◌, arith}
use native.Mathlib.Decide.{ℕ_discrete}
use Rattle.std.proofs.lemmas.List.{get_or-set_same, get_or-set_other, length-append}
use Rattle.file.specs.Chains.{has, left}

pub left_replicate : (n : ℕ) → left (replicate n false) ≡ n
unfolding left
left_replicate zero = refl
left_replicate (suc n) = ap suc (left_replicate n)

pub no_flag : (n k : ℕ) → get_or (replicate n false) k false ≡ false
no_flag zero k = refl
no_flag (suc n) zero = refl
no_flag (suc n) (suc k) = no_flag n k

-- a flag that is not set counts
pub left_some : (bs : List Bool) (k : ℕ) → k < length bs → get_or bs k false ≡ false → 0 < left bs
unfolding left
left_some [] k h e = omega arith
left_some (true ∷ bs) zero h e = let z : ◌≡◌ {A = ℕ} 0 1 = cc in omega arith
left_some (true ∷ bs) (suc k) h e = left_some bs k (omega arith) e
left_some (false ∷ bs) k h e = omega arith

-- one flag more is set
pub left_set : (bs : List Bool) (k : ℕ) → k < length bs → get_or bs k false ≡ false → left (set bs k true) + 1 ≡ left bs
unfolding left
left_set [] k h e = omega arith
left_set (true ∷ bs) zero h e = let z : ◌≡◌ {A = ℕ} 0 1 = cc in omega arith
left_set (true ∷ bs) (suc k) h e = left_set bs k (omega arith) e
left_set (false ∷ bs) zero h e = omega arith
left_set (false ∷ bs) (suc k) h e = omega (arith, left_set bs k (omega arith) e)

-- a number that is put at the end
pub has_push : (xs : List ℕ) (x k : ℕ) → has (xs ++ (x ∷ [])) k ≡ cond (eqb x k) true (has xs k)
unfolding has
has_push [] x k = refl
has_push (y ∷ xs) x k = rw (has_push xs x k) (swap (eqb y k) (eqb x k) (has xs k))
  where
    swap : (a b c : Bool) → cond a true (cond b true c) ≡ cond b true (cond a true c)
    swap true true c = refl
    swap true false c = refl
    swap false b c = refl

eqb_same : (k : ℕ) → eqb k k ≡ true
eqb_same k = grind arith

eqb_other : (k j : ℕ) → (k ≡ j → ⊥) → eqb k j ≡ false
eqb_other k j ne = grind arith

-- a flag that is not set shows that the list has room
pub room : (count : ℕ) (seen : List Bool) (k n : ℕ) → k < n → length seen ≡ n → count + left seen ≡ n → get_or seen k false ≡ false → count < n
room count seen k n h l r e = omega (arith, left_some seen k (omega arith) e)

-- one number more in the list, and one flag more in the table
pub marked : (seen : List Bool) (xs : List ℕ) (k j : ℕ) → k < length seen → get_or seen j false ≡ has xs j → get_or (set seen k true) j false ≡ has (xs ++ (k ∷ [])) j
marked seen xs k j h e =
    elim (ℕ_discrete k j) [
      | yes same ↦ rw (← same) (get_or-set_same seen k true false h ∙ sym (has_push xs k k ∙ rw (eqb_same k)))
      | no ne ↦ get_or-set_other seen k j true false (λ p. ne (sym p)) ∙ e ∙ sym (has_push xs k j ∙ rw (eqb_other k j ne))
    ]

-- number k is marked, and put at the end of the list
pub record Pushed (xs' : List ℕ) (seen : List Bool) (k n : ℕ) : Type 0 where
  pub marks : (j : ℕ) → get_or (set seen k true) j false ≡ has xs' j
  pub room : length xs' + left (set seen k true) ≡ n

pub pushed : (xs : List ℕ) (seen : List Bool) (k n : ℕ) {xs' : List ℕ} → xs' ≡ xs ++ (k ∷ []) → k < length seen → get_or seen k false ≡ false
    → ((j : ℕ) → get_or seen j false ≡ has xs j) → length xs + left seen ≡ n → Pushed xs' seen k n
pushed xs seen k n items h free marks full = record {
  marks = λ j. marked seen xs k j h (marks j) ∙ (λ i. has (sym items i) j);
  room = omega (arith, left_set seen k h free, ap length items, length-append xs (k ∷ []));
}
