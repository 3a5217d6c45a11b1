-- The walk over a list from the left.
use Rattle.std.proofs.Common.{◌≡◌, ℕ, zero, suc, ◌+◌, ◌-◌, ◌<◌, ◌≤◌, Bool, true, false, cond, ◌&&◌, T, eqb, ltb, List, [], ◌∷◌, length, get_or, drop, ℤ, pos, negsuc, neg_ℤ, nat_abs, ◌≤ℤ◌, IsErrAnd, Some, None, Ok, Err, Option, Result, sym, refl, ap, ◌∙◌, subst, arith}
use native.Mathlib.Decide.{dec_lt}
use borrow.Author.Differences.{ints}
use lib.Signed.{le_z, le_z_yes}
use Rattle.std.proofs.lemmas.List.{at_drop_more, at_drop_all, get_or-drop, get_or_past, length-drop}
use Rattle.std.proofs.lemmas.Bool.{eqb-true, ne_eqb, le-ltb, and_parts}
use Rattle.std.proofs.lemmas.Result.{err_from_is_err_and}
use Rattle.std.specs.Result.{result_and}
use Rattle.family.specs.declared.fault.ListFault.{ListFault}
use Rattle.family.specs.declared.shape.Limits.{Limits}
use Rattle.family.specs.declared.shape.Shape.{Shape}
use Rattle.family.specs.declared.shape.Shape.TheVariants.{Point as PointShape, Proof as ProofShape}
use Rattle.family.specs.declared.fault.ListFault.TheVariants.{Length, Limit, Filler}
use Rattle.family.specs.Lists.{limits_at, around, from_to, in_use, length_of, number_fault, length_fault, numbers_fault, list_fault}
use Rattle.family.specs.Numbers.{at, Small}

-- what the exit of a `?` returns, where errors are passed on as they are
pub passed : {T E : Type 0} {d : E} (r : Result T E) → IsErrAnd r (λ y. y ≡ d) → r ≡ Err d
passed r h = let p = err_from_is_err_and r h in p.1 ∙ ap Err p.2

numbers_step : (shape : Shape) (i : ℕ) (xs : List ℤ) → i < length xs
    → numbers_fault shape i (drop i xs) ≡ result_and (number_fault (limits_at shape i) (get_or xs i (pos 0)) (i + 1)) (numbers_fault shape (i + 1) (drop (i + 1) xs))
unfolding numbers_fault
numbers_step shape i xs h = at_drop_more (numbers_fault shape i) xs i (pos 0) h

pub numbers_end : (shape : Shape) (i : ℕ) (xs : List ℤ) → length xs ≤ i → numbers_fault shape i (drop i xs) ≡ Ok tt
unfolding numbers_fault
numbers_end shape i xs h = at_drop_all (numbers_fault shape i) xs i h

module _ (shape : Shape) (i : ℕ) (xs : List ℤ) (h : i < length xs) where
  pub numbers_stop : (e : ListFault) {l : Option Limits} {z : ℤ} → l ≡ limits_at shape i → z ≡ get_or xs i (pos 0) → Err e ≡ number_fault l z (i + 1) → numbers_fault shape i (drop i xs) ≡ Err e
  numbers_stop e p q f =
      numbers_step shape i xs h ∙ ap (λ r. result_and r (numbers_fault shape (i + 1) (drop (i + 1) xs))) (sym (f ∙ (λ t. number_fault (p t) (q t) (i + 1))))

  pub numbers_go : {l : Option Limits} {z : ℤ} → l ≡ limits_at shape i → z ≡ get_or xs i (pos 0) → Ok tt ≡ number_fault l z (i + 1) → numbers_fault shape i (drop i xs) ≡ numbers_fault shape (i + 1) (drop (i + 1) xs)
  numbers_go p q f =
      numbers_step shape i xs h ∙ ap (λ r. result_and r (numbers_fault shape (i + 1) (drop (i + 1) xs))) (sym (f ∙ (λ t. number_fault (p t) (q t) (i + 1))))

-- ---- what a list without a fault holds
pub and_ok : {T E : Type 0} {y : T} (a : Result (Unit {0}) E) (b : Result T E) → result_and a b ≡ Ok y → (a ≡ Ok tt) × (b ≡ Ok y)
and_ok (Ok tt) b e = (refl, e)
and_ok (Err d) b e = let z : ◌≡◌ {A = ℕ} 0 1 = cc in let no : ⊥ = omega arith in elim no [ ]

-- the number z may stand at index k
abbrev pub Fine : Shape → ℕ → ℤ → Type 0
Fine shape k z = number_fault (limits_at shape k) z (k + 1) ≡ Ok tt

pub numbers_fine : (shape : Shape) (i : ℕ) (xs : List ℤ) → numbers_fault shape i xs ≡ Ok tt → (k : ℕ) → k < length xs → Fine shape (i + k) (at xs k)
unfolding numbers_fault
numbers_fine shape i [] e k h = let no : ⊥ = omega arith in elim no [ ]
numbers_fine shape i (x ∷ xs) e zero h = let p : i ≡ i + 0 = omega arith in subst (λ n. Fine shape n x) p (and_ok _ _ e).0
numbers_fine shape i (x ∷ xs) e (suc k) h =
    let p : i + 1 + k ≡ i + suc k = omega arith in
    subst (λ n. Fine shape n (at xs k)) p (numbers_fine shape (i + 1) xs (and_ok (number_fault (limits_at shape i) x (i + 1)) _ e).1 k (omega arith))

pub record Sound (shape : Shape) (xs : List ℤ) : Type 0 where
  pub long : length xs ≡ length_of shape
  pub fine : (k : ℕ) → k < length xs → Fine shape k (at xs k)

pub long_from : (shape : Shape) (xs : List ℤ) → length_fault shape xs ≡ Ok tt → length xs ≡ length_of shape
long_from shape xs e = eqb-true _ _ (tested (eqb (length xs) (length_of shape)) e)
  where
    tested : (b : Bool) → ◌≡◌ {A = Result (Unit {0}) ListFault} (cond b (Ok tt) (Err Length)) (Ok tt) → b ≡ true
    tested true e = refl
    tested false e = let z : ◌≡◌ {A = ℕ} 0 1 = cc in let no : ⊥ = omega arith in elim no [ ]

pub sound : (shape : Shape) (xs : List ℤ) → list_fault shape xs ≡ Ok tt → Sound shape xs
sound shape xs e =
    let p = and_ok (length_fault shape xs) (numbers_fault shape 0 xs) e in
    record {
      long = long_from shape xs p.0;
      fine = λ k h. let q : 0 + k ≡ k = omega arith in subst (λ n. Fine shape n (at xs k)) q (numbers_fine shape 0 xs p.1 k h);
    }

-- ---- what a limit says of a number
within_says : (low high z : ℤ) → (le_z low z && le_z z high) ≡ true → (low ≤ℤ z) × (z ≤ℤ high)
within_says low high z e = let p = and_parts (le_z low z) (le_z z high) e in (le_z_yes (subst T (sym p.0) tt), le_z_yes (subst T (sym p.1) tt))

pub fine_within : (low high z : ℤ) (place : ℕ) → number_fault (Some (from_to low high)) z place ≡ Ok tt → (low ≤ℤ z) × (z ≤ℤ high)
fine_within low high z place e = within_says low high z (tested (le_z low z && le_z z high) e)
  where
    tested : (b : Bool) → ◌≡◌ {A = Result (Unit {0}) ListFault} (cond b (Ok tt) (Err (Limit place))) (Ok tt) → b ≡ true
    tested true e = refl
    tested false e = let z : ◌≡◌ {A = ℕ} 0 1 = cc in let no : ⊥ = omega arith in elim no [ ]

fine_zero : (z : ℤ) (place : ℕ) → number_fault None z place ≡ Ok tt → z ≡ pos 0
fine_zero (pos n) place e = ap pos (eqb-true n 0 (tested (eqb n 0) e))
  where
    tested : (b : Bool) → ◌≡◌ {A = Result (Unit {0}) ListFault} (cond b (Ok tt) (Err (Filler place))) (Ok tt) → b ≡ true
    tested true e = refl
    tested false e = let z : ◌≡◌ {A = ℕ} 0 1 = cc in let no : ⊥ = omega arith in elim no [ ]
fine_zero (negsuc n) place e = let z : ◌≡◌ {A = ℕ} 0 1 = cc in let no : ⊥ = omega arith in elim no [ ]

pub fine_in_use : (b first count index : ℕ) (z : ℤ) (place : ℕ) → number_fault (in_use first count index (pos b)) z place ≡ Ok tt → nat_abs z ≤ b
fine_in_use b first count index z place e = by (ltb (index - first) count) e
  where
    by : (t : Bool) → number_fault (cond t (Some (around (pos b))) None) z place ≡ Ok tt → nat_abs z ≤ b
    by true e = omega (arith, ints, fine_within (neg_ℤ (pos b)) (pos b) z place e)
    by false e = omega (arith, ints, fine_zero z place e)

-- a fact of the numbers in a list is one of every index, since 0 stands past the end
pub small_all : (b n : ℕ) (xs : List ℤ) → length xs ≤ n → ((k : ℕ) → k < n → nat_abs (at xs k) ≤ b) → Small b xs
small_all b n xs h f k =
    elim (dec_lt k n) [ yes l ↦ f k l | no m ↦ subst (λ x. nat_abs x ≤ b) (sym (get_or_past xs k (pos 0) (omega arith))) (omega arith) ]

-- 0 stands past the end
pub past : (xs : List ℤ) (k : ℕ) → length xs ≤ k → pos 0 ≡ at xs k
past xs k h = sym (get_or_past xs k (pos 0) h)

-- the numbers of a list from the index first on, of which count are in use, around 0, and the others are fillers
pub record Used (b first size count : ℕ) (xs : List ℤ) : Type 0 where
  pub long : length (drop first xs) ≡ size
  pub small : Small b (drop first xs)
  pub filler : (j : ℕ) → count ≤ j → at (drop first xs) j ≡ pos 0

filler_zero : (b first count index : ℕ) (z : ℤ) (place : ℕ) → count ≤ index - first → number_fault (in_use first count index (pos b)) z place ≡ Ok tt → z ≡ pos 0
filler_zero b first count index z place h e = by (ltb (index - first) count) (le-ltb (index - first) count h) e
  where
    by : (t : Bool) → t ≡ false → number_fault (cond t (Some (around (pos b))) None) z place ≡ Ok tt → z ≡ pos 0
    by true f e = let z : ◌≡◌ {A = ℕ} 0 1 = cc in let no : ⊥ = omega arith in elim no [ ]
    by false f e = fine_zero z place e

pub used : (shape : Shape) (b first size count : ℕ) (xs : List ℤ) → length_of shape ≡ first + size
    → ((k : ℕ) → limits_at shape (first + k) ≡ in_use first count (first + k) (pos b)) → Sound shape xs → Used b first size count xs
used shape b first size count xs long limits s =
    let whole : length xs ≡ first + size = s.long ∙ long in
    let rest : length (drop first xs) ≡ size = omega (arith, length-drop first xs) in
    let stands : (k : ℕ) → k < size → number_fault (in_use first count (first + k) (pos b)) (at xs (first + k)) (first + k + 1) ≡ Ok tt =
    λ k h. subst (λ l. number_fault l (at xs (first + k)) (first + k + 1) ≡ Ok tt) (limits k) (s.fine (first + k) (omega arith)) in
    let here : (k : ℕ) → at (drop first xs) k ≡ at xs (first + k) = λ k. get_or-drop first xs k (pos 0) in
    record {
      long = rest;
      small = small_all b size (drop first xs) (omega arith) (λ k h. subst (λ x. nat_abs x ≤ b) (sym (here k)) (fine_in_use b first count (first + k) (at xs (first + k)) (first + k + 1) (stands k h)));
      filler = λ j h. elim (dec_lt j size) [
        | yes l ↦ here j ∙ filler_zero b first count (first + j) (at xs (first + j)) (first + j + 1) (omega arith) (stands j l)
        | no m ↦ sym (past (drop first xs) j (omega arith))
      ];
    }

-- ---- points and proofs: a denominator, and then numerators of at most b in absolute value
pub record Offerable (b size : ℕ) (xs : List ℤ) : Type 0 where
  pub long : length (drop 1 xs) ≡ size
  pub positive : pos 1 ≤ℤ at xs 0
  pub fine : at xs 0 ≤ℤ pos 1000
  pub near : Small b (drop 1 xs)

offerable : (shape : Shape) (b size count : ℕ) (xs : List ℤ) → length_of shape ≡ 1 + size → limits_at shape 0 ≡ Some (from_to (pos 1) (pos 1000))
    → ((k : ℕ) → limits_at shape (1 + k) ≡ in_use 1 count (1 + k) (pos b)) → Sound shape xs → Offerable b size xs
offerable shape b size count xs long first others s =
    let some : 0 < length xs = omega (arith, s.long) in
    let head = fine_within (pos 1) (pos 1000) (at xs 0) 1 (subst (λ l. number_fault l (at xs 0) (0 + 1) ≡ Ok tt) first (s.fine 0 some)) in
    let rest = used shape b 1 size count xs long others s in
    record { long = rest.long; positive = head.0; fine = head.1; near = rest.small }

after_head : (k : ℕ) → eqb (1 + k) 0 ≡ false
after_head k = ne_eqb (1 + k) 0 (λ e. omega arith)

pub point_read : (n : ℕ) (xs : List ℤ) → Ok tt ≡ list_fault (PointShape n) xs → Offerable 1000000 8 xs
point_read n xs e =
    offerable (PointShape n) 1000000 8 n xs refl refl (λ k. ap (λ b. cond b (Some (from_to (pos 1) (pos 1000))) (in_use 1 n (1 + k) (pos 1000000))) (after_head k)) (sound (PointShape n) xs (sym e))

pub proof_read : (m : ℕ) (xs : List ℤ) → Ok tt ≡ list_fault (ProofShape m) xs → Offerable 1000 16 xs
proof_read m xs e =
    offerable (ProofShape m) 1000 16 m xs refl refl (λ k. ap (λ b. cond b (Some (from_to (pos 1) (pos 1000))) (in_use 1 m (1 + k) (pos 1000))) (after_head k)) (sound (ProofShape m) xs (sym e))
