-- A problem as the rules speak of it: a mixed-integer program of n quantities and m rows. Rows are counted
-- by i < m and quantities by j < n; what stands beyond says nothing.
use Rattle.std.specs.Prelude.{ℕ, cond, ℤ, pos, map, nat_lt}
use Rattle.problem.specs.declared.kind.Kind.{Kind}
use Rattle.problem.specs.declared.table.Problem.{Problem}
use Rattle.problem.specs.Tables.{row_data, row_at, cell}

pub record Program : Type 0 where
  pub n : ℕ
  pub m : ℕ
  pub kind : ℕ → Kind
  pub lo : ℕ → ℤ
  pub hi : ℕ → ℤ
  pub coefficient : ℕ → ℕ → ℤ

-- the program that a problem holds: a reading, not a fact of a type, so that contracts speak of values
abbrev pub program : Problem → Program
program p = record {
  n = p.n;
  m = p.m;
  kind = λ i. (row_at (map row_data p.rows) i).kind;
  lo = λ i. (row_at (map row_data p.rows) i).lo;
  hi = λ i. (row_at (map row_data p.rows) i).hi;
  coefficient = λ i j. cond (nat_lt j 8) (cell p.matrix.cells i j) (pos 0);
}
