use Rattle.rows.proofs.Turns.{Summed}
use Rattle.rows.proofs.products.dot.Given as goal

abbrev pub invariant-loop-index : goal.invariant-loop-index
invariant-loop-index g l = Summed g.row.LEFT g.row.RIGHT l.count (λ k x. g.F.Fn.post l.left (k, tt) x) (λ k x. g.G.Fn.post l.right (k, tt) x) l.index l.sum
