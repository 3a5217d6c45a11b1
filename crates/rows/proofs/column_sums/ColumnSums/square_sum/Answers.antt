use Rattle.std.proofs.Common.{arith, rules}
use Rattle.family.specs.Numbers.{at}
use Rattle.family.proofs.Casts.{result_back}
use Rattle.rows.proofs.column_sums.ColumnSums.square_sum.Goals as goal

pub returns-clause-value : goal.returns-clause-value
returns-clause-value c =
    let sums = at c.args.self.now.sums in
    result_back 5120000000000 (c.dot.ensures.value sums sums (λ k x h p. search rules) (λ k x h p. search rules)) (omega (arith, c.dot.ensures.near)) (omega arith)
