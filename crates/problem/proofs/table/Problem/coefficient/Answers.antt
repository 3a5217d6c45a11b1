use Rattle.std.proofs.Common.{◌≡◌, ◌≤◌, cond, ltb, pos, nat_abs, sym, subst, rules, w64}
use Rattle.family.proofs.Casts.{back}
use Rattle.problem.specs.Tables.{cell}
use Rattle.problem.proofs.Cells.{cell_near}
use Rattle.problem.proofs.table.Problem.coefficient.Goals as goal

pub returns-clause-small : goal.returns-clause-small
returns-clause-small c =
    let cells = c.args.self.now.matrix.cells in
    let value : back w64 c.cell.result ≡ cond (ltb c.args.column 8) (cell cells c.args.row c.args.column) (pos 0) = search rules in
    subst (λ z. nat_abs z ≤ 50) (sym value) (cell_near 50 cells c.args.row c.args.column c.args.self.now.matrix.small)
