-- Sequences of zeros, and arrays that a loop fills.
use Rattle.std.proofs.Common.{◌≡◌, ℕ, zero, suc, ◌<◌, ◌≤◌, Bool, true, false, cond, List, length, MatchBool, ℤ, pos, negsuc, nat_abs, sym, refl, ap, ◌∙◌, subst, arith, w64, of_z}
use native.Mathlib.Decide.{ℕ_discrete}
use Rattle.std.proofs.lemmas.Bool.{ne_eqb, eq-eqb, eqb-true}
use Rattle.std.specs.List.{AllWithin, HoldsAt}
use Rattle.family.specs.Numbers.{at, same}
use Rattle.rows.specs.Zeros.{all_zero}

-- ---- tests of a number against 0
zero_same : (z : ℤ) → nat_abs z ≤ 800000 → of_z w64 z ≡ 0 → same z (pos 0) ≡ true
zero_same (pos n) h e = eq-eqb n 0 e
zero_same (negsuc n) h e = let no : ⊥ = omega arith in elim no [ ]

other_same : (z : ℤ) → (of_z w64 z ≡ 0 → ⊥) → same z (pos 0) ≡ false
other_same (pos n) h = ne_eqb n 0 h
other_same (negsuc n) h = refl

pub is_zero : {x z : ℤ} → x ≡ z → nat_abs x ≤ 800000 → of_z w64 x ≡ 0 → same z (pos 0) ≡ true
is_zero {x} e h t = ap (λ z. same z (pos 0)) (sym e) ∙ zero_same x h t

pub not_zero : {x z : ℤ} → x ≡ z → (of_z w64 x ≡ 0 → ⊥) → same z (pos 0) ≡ false
not_zero {x} e t = ap (λ z. same z (pos 0)) (sym e) ∙ other_same x t

pub same_zero : (z : ℤ) → same z (pos 0) ≡ true → z ≡ pos 0
same_zero (pos n) e = ap pos (eqb-true n 0 e)
same_zero (negsuc n) e = let c : ◌≡◌ {A = ℕ} 0 1 = cc in let no : ⊥ = omega arith in elim no [ ]

-- ---- all zero
pub zeros_stop : (n j : ℕ) (f : ℕ → ℤ) → j < n → same (f j) (pos 0) ≡ false → all_zero n f ≡ false
unfolding all_zero
zeros_stop zero j f h e = let no : ⊥ = omega arith in elim no [ ]
zeros_stop (suc n) j f h e = elim (ℕ_discrete j n) [
  | yes p ↦ last (all_zero n f) (subst (λ k. same (f k) (pos 0) ≡ false) p e)
  | no p ↦ ap (λ b. cond b (same (f n) (pos 0)) false) (zeros_stop n j f (omega arith) e)
]
  where
    last : (b : Bool) {t : Bool} → t ≡ false → cond b t false ≡ false
    last true e = e
    last false e = refl

pub zeros_all : (n : ℕ) (f : ℕ → ℤ) → all_zero n f ≡ true → (j : ℕ) → j < n → f j ≡ pos 0
unfolding all_zero
zeros_all zero f e j h = let no : ⊥ = omega arith in elim no [ ]
zeros_all (suc n) f e j h =
    let p = parts (all_zero n f) (same (f n) (pos 0)) e in
    elim (ℕ_discrete j n) [ yes q ↦ ap f q ∙ same_zero (f n) p.1 | no q ↦ zeros_all n f p.0 j (omega arith) ]
  where
    parts : (a b : Bool) → cond a b false ≡ true → (a ≡ true) × (b ≡ true)
    parts true b e = (refl, e)
    parts false b e = let c : ◌≡◌ {A = ℕ} 0 1 = cc in let no : ⊥ = omega arith in elim no [ ]

-- the test depends on the first n numbers alone
pub zeros_same : (n : ℕ) (f g : ℕ → ℤ) → ((j : ℕ) → j < n → f j ≡ g j) → all_zero n f ≡ all_zero n g
unfolding all_zero
zeros_same zero f g h = refl
zeros_same (suc n) f g h =
    let a = zeros_same n f g (λ j l. h j (omega arith)) in
    let b = h n (omega arith) in
    λ i. cond (a i) (same (b i) (pos 0)) false

-- ---- tests of all eight numbers of an array
zeros_each : (n : ℕ) (f : ℕ → ℤ) → ((k : ℕ) → k < n → same (f k) (pos 0) ≡ true) → all_zero n f ≡ true
unfolding all_zero
zeros_each zero f h = refl
zeros_each (suc n) f h = (λ i. cond (zeros_each n f (λ k l. h k (omega arith)) i) (same (f n) (pos 0)) false) ∙ h n (omega arith)

pub zeros_decided : (xs : List ℤ) (r : Bool) → length xs ≡ 8 → MatchBool r (AllWithin (λ z. same z (pos 0) ≡ true) xs 0 (length xs)) ((k : ℕ) × (k < length xs) × HoldsAt (λ z. same z (pos 0) ≡ false) xs k) → r ≡ all_zero 8 (at xs)
zeros_decided xs true eight h = sym (zeros_each 8 (at xs) (λ k l. h k (pos 0) (omega arith) (omega arith)))
zeros_decided xs false eight h = sym (zeros_stop 8 h.0 (at xs) (omega (arith, h.1)) (h.2 (pos 0)))

-- numbers that are 0 from n on say nothing
pub zeros_beyond : (n m : ℕ) (f : ℕ → ℤ) → n ≤ m → ((j : ℕ) → n ≤ j → f j ≡ pos 0) → all_zero m f ≡ all_zero n f
unfolding all_zero
zeros_beyond n zero f h none = let e : 0 ≡ n = omega arith in ap (λ k. all_zero k f) e
zeros_beyond n (suc m) f h none = elim (ℕ_discrete n (suc m)) [
  | yes e ↦ ap (λ k. all_zero k f) (sym e)
  | no e ↦ drop (all_zero m f) (ap (λ z. same z (pos 0)) (none m (omega arith))) ∙ zeros_beyond n m f (omega arith) none
]
  where
    drop : (b : Bool) {t : Bool} → t ≡ true → cond b t false ≡ b
    drop true e = e
    drop false e = refl
