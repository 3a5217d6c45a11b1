-- What holds of every row of a table, and of the blank row beyond it.
use Rattle.std.proofs.Common.{◌≡◌, ℕ, zero, suc, ◌≤◌, List, [], ◌∷◌, map, length, nat_abs, ◌≤ℤ◌, sym, arith}
use borrow.Author.Differences.{ints}
use Rattle.std.proofs.lemmas.List.{get_or_past}
use Rattle.problem.specs.declared.row.Row.{Row}
use Rattle.problem.specs.Tables.{RowData, blank, row_data, row_at}

pub record Ends (r : RowData) : Type 0 where
  pub low : nat_abs r.lo ≤ 10000
  pub high : nat_abs r.hi ≤ 10000
  pub ordered : r.lo ≤ℤ r.hi

pub ends_of : (rows : List Row) (i : ℕ) → Ends (row_at (map row_data rows) i)
ends_of [] i = record { low = omega arith; high = omega arith; ordered = omega (arith, ints) }
ends_of (r ∷ rows) zero = record { low = r.low; high = r.high; ordered = r.ordered }
ends_of (r ∷ rows) (suc i) = ends_of rows i

-- a row beyond the table is blank
pub past_rows : (rows : List RowData) (i : ℕ) → length rows ≤ i → blank ≡ row_at rows i
past_rows rows i h = sym (get_or_past rows i blank h)
