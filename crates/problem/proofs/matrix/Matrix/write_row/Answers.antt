use Rattle.std.proofs.Common.{◌≡◌, ◌+◌, ◌*◌, ◌≤◌, length, sym, subst, rules}
use Rattle.family.specs.Numbers.{Small}
use Rattle.problem.proofs.Cells.{written, row_small}
use Rattle.problem.proofs.matrix.Matrix.write_row.Goals as goal

pub invariant_of-self : goal.invariant_of-self
invariant_of-self c =
    let room : 8 * c.args.row + 8 ≤ length c.args.self.now.cells = search rules in
    let eight : length c.args.coefficients.now.numbers ≡ 8 = search rules in
    record {
      small = subst (Small 50) (sym (written c.args.self.now.cells c.args.row c.copy_from_slice.ensures.after))
          (row_small c.args.self.now.cells c.args.row c.args.coefficients.now.numbers room eight 50 c.args.self.now.small c.args.coefficients.now.small);
    }

pub returns : goal.returns
returns c = written c.args.self.now.cells c.args.row c.copy_from_slice.ensures.after
