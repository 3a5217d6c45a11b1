-- The table of rows and the flat matrix of coefficients. Rows and columns are counted from 0.
use Rattle.std.specs.Prelude.{ℕ, ◌+◌, ◌*◌, List, ◌++◌, take, drop, ℤ, pos, slice_index_or}
use Rattle.family.specs.Numbers.{at}
use Rattle.problem.specs.declared.kind.Kind.{Kind}
use Rattle.problem.specs.declared.kind.Kind.TheVariants.{Plain}
use Rattle.problem.specs.declared.row.Row.{Row}

-- a kind and two ends, of any size and in any order
pub record RowData : Type 0 where
  pub kind : Kind
  pub lo : ℤ
  pub hi : ℤ

abbrev pub row_data : Row → RowData
row_data r = record { kind = r.kind; lo = r.lo; hi = r.hi }

-- a row that is not in use
abbrev pub blank : RowData
blank = record { kind = Plain; lo = pos 0; hi = pos 0 }

abbrev pub row_at : List RowData → ℕ → RowData
row_at rows i = slice_index_or rows i blank

-- row r, column j of the flat matrix
abbrev pub cell : List ℤ → ℕ → ℕ → ℤ
cell cells r j = at cells (8 * r + j)

-- the eight coefficients of row r
abbrev pub row_cells : List ℤ → ℕ → List ℤ
row_cells cells r = take 8 (drop (8 * r) cells)

-- the flat matrix with eight new coefficients in row r
abbrev pub with_row : List ℤ → ℕ → List ℤ → List ℤ
with_row cells r coefficients = take (8 * r) cells ++ (coefficients ++ drop (8 * r + 8) cells)
