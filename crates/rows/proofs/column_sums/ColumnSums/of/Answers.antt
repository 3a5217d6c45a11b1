use Rattle.std.proofs.Common.{◌≡◌, ℕ, ◌<◌, ◌≤◌, pos, nat_abs, ◌∙◌, rules}
use Rattle.family.specs.Numbers.{at}
use Rattle.family.specs.Points.{numerator_of}
use Rattle.problem.specs.Programs.{program}
use Rattle.rows.specs.Duals.{column_sum}
use Rattle.rows.proofs.Columns.{columns_read, columns_near, blank_column}
use Rattle.rows.proofs.column_sums.ColumnSums.of.Goals as goal

pub invariant_of-result : goal.invariant_of-result
invariant_of-result c =
    let near : (j : ℕ) → j < 8 → nat_abs (at c.from_fn.result j) ≤ 800000 = λ j h. let call = c.from_fn.ensures.items.at j (pos 0) h in search rules in
    record { near = columns_near c.args.problem.now (numerator_of c.args.proof.now) c.from_fn.result c.from_fn.ensures.items.long near }

pub returns-clause-sums : goal.returns-clause-sums
returns-clause-sums c =
    let y = numerator_of c.args.proof.now in
    let each : (j : ℕ) → j < 8 → at c.from_fn.result j ≡ column_sum (program c.args.problem.now) y j = λ j h. let call = c.from_fn.ensures.items.at j (pos 0) h in search rules in
    columns_read c.args.problem.now y c.from_fn.result c.from_fn.ensures.items.long each

pub returns-clause-fillers : goal.returns-clause-fillers
returns-clause-fillers c = λ j h. returns-clause-sums c j ∙ blank_column c.args.problem.now (numerator_of c.args.proof.now) j h
