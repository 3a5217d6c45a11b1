-- The draft that HEADER and ADD ROW make of the lists of another.
use Rattle.std.proofs.Common.{◌≡◌, ℕ, zero, suc, ◌+◌, ◌-◌, ◌*◌, ◌<◌, ◌≤◌, Bool, ◌≢◌, List, ◌++◌, length, take, drop, set, ℤ, pos, sym, refl, ap, ◌∙◌, add-one, arith, length-drop, length-set, length-take}
use native.Mathlib.Decide.{dec_lt}
use lib.ListN.{length-replicate}
use Rattle.std.proofs.lemmas.List.{length-append, get_or-set_same, get_or-set_other}
use Rattle.family.specs.Numbers.{at}
use Rattle.problem.specs.declared.kind.Kind.{Kind}
use Rattle.problem.specs.declared.kind.Kind.TheVariants.{Plain, Switch}
use Rattle.problem.specs.Calls.{Data, fresh_draft, with_header, with_listed_row, kind_of}
use Rattle.problem.specs.Kinds.{kind_number}
use Rattle.problem.specs.Listings.{rates_kept, header_list, coefficients_of, listed_row}
use Rattle.problem.specs.Tables.{RowData, blank, row_at, cell, with_row}
use Rattle.problem.proofs.Cells.{row_before, row_here}
use Rattle.file.specs.Trips.{Same}
use Rattle.file.proofs.Accepted.{coefficient_at}

-- the header and the first k rows of d
unfoldable pub rebuilt : {C : Type 0} → C → Bool → Data C → ℕ → Data C
rebuilt cost rated d zero = with_header (fresh_draft cost) (header_list rated d)
rebuilt cost rated d (suc k) = with_listed_row (rebuilt cost rated d k) (listed_row d k)

-- x has the header and the first k rows of d
pub record Upto {C : Type 0} (rated : Bool) (d x : Data C) (k : ℕ) : Type 0 where
  pub n : x.problem.n ≡ d.problem.n
  pub m : x.problem.m ≡ k
  pub gap : x.gap ≡ d.gap
  pub rates : x.rates ≡ rates_kept rated d
  pub sixteen : length x.problem.rows ≡ 16
  pub whole : length x.problem.cells ≡ 128
  pub row : (i : ℕ) → i < k → row_at x.problem.rows i ≡ row_at d.problem.rows i
  pub coefficient : (i j : ℕ) → i < k → j < 8 → cell x.problem.cells i j ≡ cell d.problem.cells i j

kind_same : (k : Kind) → kind_of (pos (kind_number k)) ≡ k
kind_same Plain = refl
kind_same Switch = refl

row_same : (r : RowData) → ◌≡◌ {A = RowData} (record { kind = kind_of (pos (kind_number r.kind)); lo = r.lo; hi = r.hi }) r
row_same r = λ t. record { kind = kind_same r.kind t; lo = r.lo; hi = r.hi }

length_with_row : (cells : List ℤ) (r : ℕ) (ys : List ℤ) → 8 * r + 8 ≤ length cells → length ys ≡ 8 → length (with_row cells r ys) ≡ length cells
length_with_row cells r ys room eight =
    omega (arith, length-append (take (8 * r) cells) (ys ++ drop (8 * r + 8) cells), length-append ys (drop (8 * r + 8) cells), length-take (8 * r) cells, length-drop (8 * r + 8) cells)

header_upto : {C : Type 0} (cost : C) (rated : Bool) (d : Data C) → Upto rated d (with_header (fresh_draft cost) (header_list rated d)) 0
header_upto cost rated d = record {
  n = refl;
  m = refl;
  gap = refl;
  rates = refl;
  sixteen = length-replicate 16 blank;
  whole = length-replicate 128 (pos 0);
  row = λ i h. let no : ⊥ = omega arith in elim no [ ];
  coefficient = λ i j h l. let no : ⊥ = omega arith in elim no [ ];
}

module _ {C : Type 0} (rated : Bool) (d x : Data C) (k : ℕ) (u : Upto rated d x k) (room : k < 16) (eight : length (coefficients_of d.problem k) ≡ 8) where
  abbrev rows : List RowData
  rows = x.problem.rows

  abbrev cells : List ℤ
  cells = x.problem.cells

  abbrev new : RowData
  new = record { kind = kind_of (pos (kind_number (row_at d.problem.rows k).kind)); lo = (row_at d.problem.rows k).lo; hi = (row_at d.problem.rows k).hi }

  abbrev ys : List ℤ
  ys = coefficients_of d.problem k

  wide : 8 * x.problem.m + 8 ≤ length cells
  wide = let e = u.m in let w = u.whole in omega arith

  row_more : (i : ℕ) → i < suc k → row_at (set rows x.problem.m new) i ≡ row_at d.problem.rows i
  row_more i h = elim (dec_lt i k) [
    | yes l ↦ let ne : i ≢ x.problem.m = λ e. omega (arith, u.m) in get_or-set_other rows x.problem.m i new blank ne ∙ u.row i l
    | no g ↦
        let here : i ≡ k = omega arith in
        let same : i ≡ x.problem.m = omega (arith, u.m) in
        (λ t. row_at (set rows x.problem.m new) (same t))
        ∙ get_or-set_same rows x.problem.m new blank (omega (arith, u.m, u.sixteen))
        ∙ row_same (row_at d.problem.rows k)
        ∙ (λ t. row_at d.problem.rows (sym here t))
  ]

  coefficient_more : (i j : ℕ) → i < suc k → j < 8 → cell (with_row cells x.problem.m ys) i j ≡ cell d.problem.cells i j
  coefficient_more i j h l = elim (dec_lt i k) [
    | yes lt ↦ row_before cells x.problem.m ys wide eight (8 * i + j) (omega (arith, u.m)) ∙ u.coefficient i j lt l
    | no g ↦
        let here : i ≡ k = omega arith in
        let back : 8 * i + j - 8 * x.problem.m ≡ j = omega (arith, u.m) in
        row_here cells x.problem.m ys wide eight (8 * i + j) (omega (arith, u.m)) (omega (arith, u.m))
        ∙ (λ t. at ys (back t))
        ∙ coefficient_at d.problem k j room l
        ∙ (λ t. cell d.problem.cells (sym here t) j)
  ]

  row_upto : Upto rated d (with_listed_row x (listed_row d k)) (suc k)
  row_upto = record {
    n = u.n;
    m = ap (λ a. a + 1) u.m ∙ add-one k;
    gap = u.gap;
    rates = u.rates;
    sixteen = length-set rows x.problem.m new ∙ u.sixteen;
    whole = length_with_row cells x.problem.m ys wide eight ∙ u.whole;
    row = row_more;
    coefficient = coefficient_more;
  }

module _ {C : Type 0} (cost : C) (rated : Bool) (d : Data C) (m : ℕ) (few : m ≤ 16) (eights : (i : ℕ) → i < m → length (coefficients_of d.problem i) ≡ 8) where
  pub rebuilt_upto : (k : ℕ) → k ≤ m → Upto rated d (rebuilt cost rated d k) k
  unfolding rebuilt
  rebuilt_upto zero h = header_upto cost rated d
  rebuilt_upto (suc k) h = row_upto rated d (rebuilt cost rated d k) k (rebuilt_upto k (omega arith)) (omega arith) (eights k (omega arith))

pub upto_same : {C : Type 0} (rated : Bool) (d x : Data C) → Upto rated d x d.problem.m → Same rated d x
upto_same rated d x u = record { n = u.n; m = u.m; gap = u.gap; rates = u.rates; row = u.row; coefficient = u.coefficient }
