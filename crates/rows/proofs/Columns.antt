-- The column sums that the code holds: those of columns that are not in use are 0.
use Rattle.std.proofs.Common.{◌≡◌, ℕ, suc, zero, ◌+◌, ◌*◌, ◌%◌, ◌<◌, ◌≤◌, Bool, true, false, cond, ltb, ◌&&◌, List, length, Option, ℤ, pos, ◌*ℤ◌, nat_abs, sym, refl, ap, ◌∙◌, subst, arith}
use native.Mathlib.Decide.{dec_lt, ℕ_discrete}
use borrow.Author.Differences.{ints}
use lib.IntN.{zero-*ℤ}
use lib.Signed.{lt_z}
use Rattle.std.proofs.lemmas.Bool.{ltb-true}
use Rattle.std.proofs.lemmas.List.{get_or_past}
use Rattle.family.specs.declared.side.Side.{Side}
use Rattle.family.specs.Numbers.{at}
use Rattle.problem.specs.declared.table.Problem.{Problem}
use Rattle.problem.specs.Programs.{program}
use Rattle.problem.specs.Tables.{cell}
use Rattle.sums.specs.Sums.{total, dot}
use Rattle.sums.proofs.Totals.{total_same, total_zero}
use Rattle.rows.specs.Duals.{column_sum, level_of, is_void}
use Rattle.rows.specs.Zeros.{all_zero}
use Rattle.rows.proofs.Zeros.{zeros_same, zeros_beyond}

blank_coefficient : (p : Problem) (i j : ℕ) → p.n ≤ j → (program p).coefficient i j ≡ pos 0
blank_coefficient p i j h = by (ltb j 8) (ltb-true j 8)
  where
    column : (j : ℕ) → j < 8 → j ≡ (8 * i + j) % 8
    column j h = omega arith

    by : (t : Bool) → (t ≡ true → j < 8) → cond t (cell p.matrix.cells i j) (pos 0) ≡ pos 0
    by true l = let e = column j (l refl) in p.fillers (8 * i + j) (omega arith)
    by false l = refl

pub blank_column : (p : Problem) (y : ℕ → ℤ) (j : ℕ) → p.n ≤ j → column_sum (program p) y j ≡ pos 0
blank_column p y j h =
    total_same p.m (λ i. (program p).coefficient i j *ℤ y i) (λ i. pos 0) (λ i l. ap (λ a. a *ℤ y i) (blank_coefficient p i j h) ∙ zero-*ℤ (y i))
    ∙ total_zero p.m

-- terms that are 0 from n on say nothing
total_beyond : (n m : ℕ) (f : ℕ → ℤ) → n ≤ m → ((j : ℕ) → n ≤ j → f j ≡ pos 0) → total m f ≡ total n f
total_beyond n zero f h none = let e : 0 ≡ n = omega arith in ap (λ k. total k f) e
total_beyond n (suc m) f h none = elim (ℕ_discrete n (suc m)) [
  | yes e ↦ ap (λ k. total k f) (sym e)
  | no e ↦ omega (arith, ints, none m (omega arith), total_beyond n m f (omega arith) none)
]

-- eight numbers, of which each is the sum of its column
module _ (p : Problem) (y : ℕ → ℤ) (sums : List ℤ) where
  pub columns_read : length sums ≡ 8 → ((j : ℕ) → j < 8 → at sums j ≡ column_sum (program p) y j) → (j : ℕ) → at sums j ≡ column_sum (program p) y j
  columns_read eight h j = elim (dec_lt j 8) [
    | yes l ↦ h j l
    | no l ↦ get_or_past sums j (pos 0) (omega (arith, eight)) ∙ sym (blank_column p y j (omega (arith, p.few)))
  ]

  pub columns_near : length sums ≡ 8 → ((j : ℕ) → j < 8 → nat_abs (at sums j) ≤ 800000) → (j : ℕ) → nat_abs (at sums j) ≤ 800000
  columns_near eight h j = elim (dec_lt j 8) [
    | yes l ↦ h j l
    | no l ↦ subst (λ z. nat_abs z ≤ 800000) (sym (get_or_past sums j (pos 0) (omega (arith, eight)))) (omega arith)
  ]

  -- sums that are those of the rules, of all columns
  module _ (columns : (j : ℕ) → at sums j ≡ column_sum (program p) y j) where
    pub void_read : (s : ℕ → Option Side) {l : ℤ} → l ≡ level_of (program p) s y → (all_zero 8 (at sums) && lt_z l (pos 0)) ≡ is_void (program p) s y
    void_read s level =
        let same = zeros_same 8 (at sums) (column_sum (program p) y) (λ j h. columns j) in
        let fewer = zeros_beyond p.n 8 (column_sum (program p) y) p.few (blank_column p y) in
        let z = same ∙ fewer in
        λ i. z i && lt_z (level i) (pos 0)

    pub squares_read : dot 8 (at sums) (at sums) ≡ dot p.n (column_sum (program p) y) (column_sum (program p) y)
    squares_read =
        total_same 8 (λ j. at sums j *ℤ at sums j) (λ j. column_sum (program p) y j *ℤ column_sum (program p) y j) (λ j h. λ i. columns j i *ℤ columns j i)
        ∙ total_beyond p.n 8 (λ j. column_sum (program p) y j *ℤ column_sum (program p) y j) p.few (λ j h. ap (λ z. z *ℤ column_sum (program p) y j) (blank_column p y j h) ∙ zero-*ℤ (column_sum (program p) y j))
