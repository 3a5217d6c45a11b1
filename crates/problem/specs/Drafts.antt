-- What a draft holds, and what HEADER and ADD ROW make of it.
use Rattle.std.specs.Prelude.{◌≡◌, ℕ, ◌+◌, cond, List, replicate, ℤ, pos, is_ok, Ok, Err, Result, map, nat_lt, slice_set}
use Rattle.family.specs.declared.fault.StateFault.{StateFault}
use Rattle.family.specs.declared.fault.StateFault.TheVariants.{Full}
use Rattle.problem.specs.declared.table.Problem.{Problem}
use Rattle.problem.specs.Tables.{RowData, row_data, blank, with_row}

-- the numbers of a problem: quantities, rows in use, the table and the flat matrix
pub record ProblemData : Type 0 where
  pub n : ℕ
  pub m : ℕ
  pub rows : List RowData
  pub cells : List ℤ

abbrev pub problem_data : Problem → ProblemData
problem_data p = record { n = p.n; m = p.m; rows = map row_data p.rows; cells = p.matrix.cells }

-- one quantity and no rows
abbrev pub fresh_problem : ProblemData
fresh_problem = record { n = 1; m = 0; rows = replicate 16 blank; cells = replicate 128 (pos 0) }

abbrev pub with_quantities : ProblemData → ℕ → ProblemData
with_quantities d n = record { n = n; m = d.m; rows = d.rows; cells = d.cells }

-- the next free row is filled, and every other is left
abbrev pub with_new_row : ProblemData → RowData → List ℤ → ProblemData
with_new_row d row coefficients = record {
  n = d.n;
  m = d.m + 1;
  rows = slice_set d.rows d.m row;
  cells = with_row d.cells d.m coefficients;
}

abbrev pub push_answer : ProblemData → Result (Unit {0}) StateFault
push_answer d = cond (nat_lt d.m 16) (Ok tt) (Err Full)

-- an accepted call leads from before to next, and a denied one leaves before
abbrev pub Grown : {X T E : Type 0} → Result T E → X → X → X → Type 0
Grown r before after next = after ≡ cond (is_ok r) next before
