use Rattle.std.proofs.Common.{arith}
use borrow.Author.Differences.{ints}
use Rattle.rows.proofs.Turns.{product_of}
use Rattle.linear.proofs.linear_costs.LinearCosts.balancing.Goals as goal

pub returns-clause-near : goal.returns-clause-near
returns-clause-near c =
    let t = product_of 1000 50 c.denominator.ensures.value c.denominator.ensures.small c.rate.ensures.value c.rate.ensures.small (omega arith) (omega arith) (omega arith) in
    omega (arith, ints, t.near)
