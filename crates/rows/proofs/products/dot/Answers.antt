use Rattle.std.proofs.Common.{◌≡◌, ℤ, arith}
use Rattle.rows.proofs.Turns.{Summed, summed_none, summed_all, Turn, turn}
use Rattle.rows.proofs.products.dot.Goals as goal
use Rattle.rows.proofs.products.dot.Goals.{After-right}
use Rattle.rows.proofs.products.dot.Given.{Over}

-- the turn at an index, whose sum so far a goal has as z
step : (g : Over) (c : After-right g) {z : ℤ} → z ≡ c.loop-index.sum
    → Summed g.row.LEFT g.row.RIGHT c.args.count (λ k x. g.F.Fn.post c.args.left (k, tt) x) (λ k x. g.G.Fn.post c.args.right (k, tt) x) c.loop-index.index z
    → Turn g.row.LEFT g.row.RIGHT c.args.count (λ k x. g.F.Fn.post c.args.left (k, tt) x) (λ k x. g.G.Fn.post c.args.right (k, tt) x) c.loop-index.index z c.left.result c.right.result
step g c is inv =
    turn g.row.LEFT g.row.RIGHT c.args.count _ _ c.requires.few c.requires.left_small c.requires.right_small c.loop-index.index is inv c.loop-index-test.true
    c.left.ensures (c.requires.left_near _ _ c.loop-index-test.true c.left.ensures) c.right.ensures (c.requires.right_near _ _ c.loop-index-test.true c.right.ensures)

pub loop-index-init : goal.loop-index-init
loop-index-init g c = summed_none _ _ _ _ _

pub overflow_mul-sum : goal.overflow_mul-sum
overflow_mul-sum g c = (step g c c.loop-index.sum-is c.loop-index.invariant).product

pub overflow_add-sum : goal.overflow_add-sum
overflow_add-sum g c = (step g c c.loop-index.sum-is c.loop-index.invariant).fits

pub loop-index-preserved : goal.loop-index-preserved
loop-index-preserved g c = (step g c c.loop-index.sum-is c.loop-index.invariant).again

pub returns-clause-value : goal.returns-clause-value
returns-clause-value g c = λ f f' h h'.
    let all : c.loop-index.index ≡ c.args.count = omega arith in
    (summed_all c.loop-index.invariant all).is f f' h h'

pub returns-clause-near : goal.returns-clause-near
returns-clause-near g c =
    let all : c.loop-index.index ≡ c.args.count = omega arith in
    (summed_all c.loop-index.invariant all).close
