-- The lists that a draft is written as have no fault.
use Rattle.std.proofs.Common.{◌≡◌, ℕ, zero, suc, ◌+◌, ◌-◌, ◌*◌, ◌%◌, ◌<◌, ◌≤◌, Bool, true, false, cond, ◌&&◌, eqb, ltb, List, [], ◌∷◌, length, drop, replicate, ℤ, pos, neg_ℤ, nat_abs, ◌≤ℤ◌, Some, None, Ok, Err, sym, refl, ap, ◌∙◌, subst, arith}
use native.Mathlib.Decide.{dec_lt}
use borrow.Author.Differences.{ints}
use lib.Signed.{le_z}
use Rattle.std.proofs.lemmas.List.{get_or-take, get_or-drop}
use Rattle.std.proofs.lemmas.Bool.{lt-ltb, le-ltb, eq-eqb, ne_eqb}
use Rattle.std.specs.Result.{result_and}
use Rattle.family.specs.declared.fault.ListFault.TheVariants.{Length, Limit, Filler, Ends, Kind as UnknownKind}
use Rattle.family.specs.declared.shape.Shape.{Shape}
use Rattle.family.specs.declared.shape.Shape.TheVariants.{Header as HeaderShape, Row as RowShape}
use Rattle.family.specs.Lists.{length_of, limits_at, from_to, around, in_use, is_zero, number_fault, length_fault, numbers_fault}
use Rattle.family.specs.Numbers.{at, Small}
use Rattle.family.proofs.Scans.{Fine}
use Rattle.problem.specs.declared.draft.Draft.{Draft}
use Rattle.problem.specs.declared.kind.Kind.{Kind}
use Rattle.problem.specs.declared.kind.Kind.TheVariants.{Plain, Switch}
use Rattle.problem.specs.Calls.{Data, data_of}
use Rattle.problem.specs.Drafts.{ProblemData}
use Rattle.problem.specs.Headers.{header_fault}
use Rattle.problem.specs.Kinds.{kind_number}
use Rattle.problem.specs.Listings.{rates_kept, header_list, coefficients_of, listed_row}
use Rattle.problem.specs.NewRows.{known_kind, ends_fault, row_fault}
use Rattle.problem.specs.Tables.{RowData, row_at, cell, row_cells}
use Rattle.problem.proofs.Cells.{zeros}
use Rattle.problem.proofs.Rows.{ends_of}

-- what every draft keeps
pub record Sound {C : Type 0} (d : Data C) : Type 0 where
  pub some : 1 ≤ d.problem.n
  pub few : d.problem.n ≤ 8
  pub fits : d.problem.m ≤ 16
  pub gap : d.gap ≤ 1000000
  pub rates : Small 50 d.rates
  pub beyond : (j : ℕ) → d.problem.n ≤ j → at d.rates j ≡ pos 0
  pub low : (i : ℕ) → nat_abs (row_at d.problem.rows i).lo ≤ 10000
  pub high : (i : ℕ) → nat_abs (row_at d.problem.rows i).hi ≤ 10000
  pub ordered : (i : ℕ) → (row_at d.problem.rows i).lo ≤ℤ (row_at d.problem.rows i).hi
  pub small : Small 50 d.problem.cells
  pub fillers : (k : ℕ) → d.problem.n ≤ k % 8 → at d.problem.cells k ≡ pos 0

pub draft_sound : {C : Type 0} (d : Draft C) → Sound (data_of d)
draft_sound d = record {
  some = d.problem.some;
  few = d.problem.few;
  fits = d.problem.fits;
  gap = d.gap.small;
  rates = d.rates.small;
  beyond = d.fillers;
  low = λ i. (ends_of d.problem.rows i).low;
  high = λ i. (ends_of d.problem.rows i).high;
  ordered = λ i. (ends_of d.problem.rows i).ordered;
  small = d.problem.matrix.small;
  fillers = d.problem.fillers;
}

-- ---- numbers that may stand where they stand
pub numbers_all : (shape : Shape) (i : ℕ) (xs : List ℤ) → ((k : ℕ) → k < length xs → Fine shape (i + k) (at xs k)) → numbers_fault shape i xs ≡ Ok tt
unfolding numbers_fault
numbers_all shape i [] h = refl
numbers_all shape i (x ∷ xs) h =
    let none : i + 0 ≡ i = omega arith in
    let first : number_fault (limits_at shape i) x (i + 1) ≡ Ok tt = subst (λ n. Fine shape n x) none (h 0 (omega arith)) in
    let more : (k : ℕ) → i + suc k ≡ i + 1 + k = λ k. omega arith in
    (λ t. result_and (first t) (numbers_fault shape (i + 1) xs)) ∙ numbers_all shape (i + 1) xs (λ k l. subst (λ n. Fine shape n (at xs k)) (more k) (h (suc k) (omega arith)))

within_fine : (low high z : ℤ) (place : ℕ) → low ≤ℤ z → z ≤ℤ high → number_fault (Some (from_to low high)) z place ≡ Ok tt
within_fine low high z place h k = let is : (le_z low z && le_z z high) ≡ true = grind (arith, ints) in ap (λ b. cond b (Ok tt) (Err (Limit place))) is

around_fine : (b : ℕ) (z : ℤ) (place : ℕ) → nat_abs z ≤ b → number_fault (Some (around (pos b))) z place ≡ Ok tt
around_fine b z place h = within_fine (neg_ℤ (pos b)) (pos b) z place (omega (arith, ints)) (omega (arith, ints))

use_fine : (b first count index : ℕ) (z : ℤ) (place : ℕ) → nat_abs z ≤ b → (count ≤ index - first → z ≡ pos 0) → number_fault (in_use first count index (pos b)) z place ≡ Ok tt
use_fine b first count index z place h f = elim (dec_lt (index - first) count) [
  | yes l ↦ (λ t. number_fault (cond (lt-ltb (index - first) count l t) (Some (around (pos b))) None) z place) ∙ around_fine b z place h
  | no m ↦
      let le : count ≤ index - first = omega arith in
      (λ t. number_fault (cond (le-ltb (index - first) count le t) (Some (around (pos b))) None) z place) ∙ (λ t. cond (is_zero (f le t)) (Ok tt) (Err (Filler place)))
]

length_fine : (shape : Shape) (xs : List ℤ) → length xs ≡ length_of shape → length_fault shape xs ≡ Ok tt
length_fine shape xs e = ap (λ b. cond b (Ok tt) (Err Length)) (eq-eqb (length xs) (length_of shape) e)

-- ---- the header
rates_limits : (k j : ℕ) → limits_at (HeaderShape k) (suc (suc j)) ≡ in_use 2 k (suc (suc j)) (pos 50)
rates_limits k j =
    ap (λ b. cond b (Some (from_to (pos 1) (pos 8))) (cond (eqb (suc (suc j)) 1) (Some (from_to (pos 0) (pos 1000000))) (in_use 2 k (suc (suc j)) (pos 50)))) (ne_eqb (suc (suc j)) 0 (λ e. omega arith))
    ∙ ap (λ b. cond b (Some (from_to (pos 0) (pos 1000000))) (in_use 2 k (suc (suc j)) (pos 50))) (ne_eqb (suc (suc j)) 1 (λ e. omega arith))

kept_small : {C : Type 0} (rated : Bool) (d : Data C) → Sound d → Small 50 (rates_kept rated d)
kept_small true d s = s.rates
kept_small false d s = λ k. subst (λ x. nat_abs x ≤ 50) (sym (zeros 8 k)) (omega arith)

kept_beyond : {C : Type 0} (rated : Bool) (d : Data C) → Sound d → (j : ℕ) → cond rated d.problem.n 0 ≤ j → at (rates_kept rated d) j ≡ pos 0
kept_beyond true d s j h = s.beyond j h
kept_beyond false d s j h = zeros 8 j

pub header_accepted : {C : Type 0} (rated : Bool) (d : Data C) → Sound d → length (header_list rated d) ≡ 10 → header_fault rated (header_list rated d) ≡ Ok tt
header_accepted rated d s l =
    (λ t. result_and (length_fine shape list l t) (numbers_fault shape 0 list))
    ∙ numbers_all shape 0 list (λ k h. let same : k ≡ 0 + k = omega arith in subst (λ n. Fine shape n (at list k)) same (fine k))
  where
    list : List ℤ
    list = header_list rated d

    count : ℕ
    count = cond rated d.problem.n 0

    shape : Shape
    shape = HeaderShape count

    fine : (k : ℕ) → Fine shape k (at list k)
    fine zero = within_fine (pos 1) (pos 8) (pos d.problem.n) 1 (omega (arith, ints, s.some)) (omega (arith, ints, s.few))
    fine (suc zero) = within_fine (pos 0) (pos 1000000) (pos d.gap) 2 (omega (arith, ints)) (omega (arith, ints, s.gap))
    fine (suc (suc j)) =
        (λ t. number_fault (rates_limits count j t) (at (rates_kept rated d) j) (suc (suc j) + 1))
        ∙ use_fine 50 2 count (suc (suc j)) (at (rates_kept rated d) j) (suc (suc j) + 1) (kept_small rated d s j) (λ h. kept_beyond rated d s j (omega arith))

-- ---- a row
pub coefficient_at : (p : ProblemData) (i j : ℕ) → i < 16 → j < 8 → at (coefficients_of p i) j ≡ cell p.cells i j
coefficient_at p i j h l =
    (λ t. at (cond (lt-ltb i 16 h t) (row_cells p.cells i) (replicate 8 (pos 0))) j)
    ∙ get_or-take 8 (drop (8 * i) p.cells) j (pos 0) l
    ∙ get_or-drop (8 * i) p.cells j (pos 0)

row_limits : (n j : ℕ) → limits_at (RowShape n) (suc (suc (suc j))) ≡ in_use 3 n (suc (suc (suc j))) (pos 50)
row_limits n j =
    ap (λ b. cond b (Some (from_to (pos 1) (pos 2))) (cond (ltb (suc (suc (suc j))) 3) (Some (around (pos 10000))) (in_use 3 n (suc (suc (suc j))) (pos 50)))) (ne_eqb (suc (suc (suc j))) 0 (λ e. omega arith))
    ∙ ap (λ b. cond b (Some (around (pos 10000))) (in_use 3 n (suc (suc (suc j))) (pos 50))) (le-ltb (suc (suc (suc j))) 3 (omega arith))

kind_known : (k : Kind) → known_kind (pos (kind_number k)) ≡ true
kind_known Plain = refl
kind_known Switch = refl

kind_fine : (k : Kind) → number_fault (Some (from_to (pos 1) (pos 2))) (pos (kind_number k)) 1 ≡ Ok tt
kind_fine Plain = refl
kind_fine Switch = refl

pub row_accepted : {C : Type 0} (d : Data C) (i : ℕ) → Sound d → i < 16 → length (listed_row d i) ≡ 11 → row_fault d.problem.n (listed_row d i) ≡ Ok tt
row_accepted d i s lt l =
    (λ t. result_and (length_fine shape list l t) (result_and (cond (kind_known r.kind t) (Ok tt) (Err UnknownKind)) (result_and (numbers t) (ends_fault r.lo r.hi))))
    ∙ ap (λ b. cond b (Ok tt) (Err Ends)) order
  where
    list : List ℤ
    list = listed_row d i

    n : ℕ
    n = d.problem.n

    shape : Shape
    shape = RowShape n

    r : RowData
    r = row_at d.problem.rows i

    order : le_z r.lo r.hi ≡ true
    order = let o = s.ordered i in grind (arith, ints)

    fine : (k : ℕ) → k < length list → Fine shape k (at list k)
    fine zero h = kind_fine r.kind
    fine (suc zero) h = around_fine 10000 r.lo 2 (s.low i)
    fine (suc (suc zero)) h = around_fine 10000 r.hi 3 (s.high i)
    fine (suc (suc (suc j))) h =
        let few : j < 8 = omega arith in
        let is = coefficient_at d.problem i j lt few in
        (λ t. number_fault (row_limits n j t) (at (coefficients_of d.problem i) j) (suc (suc (suc j)) + 1))
        ∙ use_fine 50 3 n (suc (suc (suc j))) (at (coefficients_of d.problem i) j) (suc (suc (suc j)) + 1) (subst (λ z. nat_abs z ≤ 50) (sym is) (s.small (8 * i + j)))
        (λ le. is ∙ s.fillers (8 * i + j) (omega arith))

    numbers : numbers_fault shape 0 list ≡ Ok tt
    numbers = numbers_all shape 0 list (λ k h. let same : k ≡ 0 + k = omega arith in subst (λ n. Fine shape n (at list k)) same (fine k h))
