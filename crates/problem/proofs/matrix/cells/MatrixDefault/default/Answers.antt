use Rattle.std.proofs.Common.{◌≤◌, nat_abs, sym, subst, arith}
use Rattle.problem.proofs.Cells.{zeros}
use Rattle.problem.proofs.matrix.cells.MatrixDefault.default.Goals as goal

pub invariant_of-result : goal.invariant_of-result
invariant_of-result c = record { small = λ k. subst (λ x. nat_abs x ≤ 50) (sym (zeros 128 k)) (omega arith) }
