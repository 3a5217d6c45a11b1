use Rattle.std.proofs.Common.{ℕ, ◌≤◌, sym, ap, ◌∙◌, arith, rules}
use Rattle.family.specs.Points.{numerator_of}
use Rattle.family.proofs.Casts.{result_back}
use Rattle.problem.specs.Programs.{program}
use Rattle.sums.specs.Sums.{dot}
use Rattle.rows.proofs.Columns.{blank_column}
use Rattle.rows.proofs.column_sums.column_sum.Goals as goal

pub returns-clause-value : goal.returns-clause-value
returns-clause-value c =
    let P = program c.args.problem.now in
    let f = λ (i : ℕ). P.coefficient i c.args.column in
    let y = numerator_of c.args.proof.now in
    result_back 800000 (c.dot.ensures.value f y (λ k x h p. search rules) (λ k x h p. search rules) ∙ ap (λ n. dot n f y) c.row_count.ensures.value) (omega (arith, c.dot.ensures.near)) (omega arith)

pub returns-then-column-quantities-clause-value : goal.returns-then-column-quantities-clause-value
returns-then-column-quantities-clause-value c =
    let beyond : c.args.problem.now.n ≤ c.args.column = search rules in
    sym (blank_column c.args.problem.now (numerator_of c.args.proof.now) c.args.column beyond)
