use Rattle.std.proofs.Common.{◌≡◌, ℕ, ◌+◌, ◌*◌, ◌%◌, ◌≤◌, length, List, ℤ, pos, sym, subst, arith, rules}
use Rattle.std.proofs.lemmas.List.{map-set}
use Rattle.family.specs.Numbers.{at}
use Rattle.problem.specs.Tables.{row_data}
use Rattle.problem.proofs.Cells.{unused_more, fillers_more}
use Rattle.problem.proofs.table.Problem.push.Goals as goal

pub invariant_of-self : goal.invariant_of-self
invariant_of-self c =
    let p = c.args.self.now in
    let ys = c.args.new.coefficients.numbers in
    let room : 8 * p.m + 8 ≤ length p.matrix.cells = search rules in
    let eight : length ys ≡ 8 = search rules in
    let unused = unused_more p.n p.m p.matrix.cells ys room eight p.unused in
    let fillers = fillers_more p.n p.m p.matrix.cells ys room eight p.fillers c.requires in
    record {
      some = p.some;
      few = p.few;
      fits = omega arith;
      unused = subst (λ (cells : List ℤ). (k : ℕ) → 8 * (p.m + 1) ≤ k → at cells k ≡ pos 0) (sym c.write_row.ensures) unused;
      fillers = subst (λ (cells : List ℤ). (k : ℕ) → p.n ≤ k % 8 → at cells k ≡ pos 0) (sym c.write_row.ensures) fillers;
    }

pub returns-clause-after : goal.returns-clause-after
returns-clause-after c =
    let p = c.args.self.now in
    λ i. record { n = p.n; m = p.m + 1; rows = map-set row_data p.rows p.m c.args.new.row i; cells = c.write_row.ensures i }
