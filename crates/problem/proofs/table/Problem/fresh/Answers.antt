use Rattle.std.proofs.Common.{◌≡◌, ℕ, pos, sym, subst, arith}
use Rattle.family.specs.Numbers.{at}
use Rattle.problem.proofs.Cells.{zeros}
use Rattle.problem.proofs.table.Problem.fresh.Goals as goal

pub invariant_of-result : goal.invariant_of-result
invariant_of-result c =
    let blank : (k : ℕ) → at c.default-2.result.cells k ≡ pos 0 = λ k. subst (λ cells. at cells k ≡ pos 0) (sym c.default-2.ensures) (zeros 128 k) in
    record { some = omega arith; few = omega arith; fits = omega arith; unused = λ k h. blank k; fillers = λ k h. blank k }
