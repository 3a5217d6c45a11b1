use Rattle.std.proofs.Common.{◌≡◌, Ok, subst}
use Rattle.problem.specs.NewRows.{row_fault}
use Rattle.problem.proofs.Readings.{row_filler}
use Rattle.problem.proofs.draft.Draft.add_row.Goals as goal

pub push-requires : goal.push-requires
push-requires g c =
    let n = c.args.self.now.problem.n in
    let xs = c.args.list.now in
    let e = c.in_ok-new.ensures in
    row_filler n xs (subst (λ k. row_fault k xs ≡ Ok tt) c.quantities.ensures.value e.0) e.1.coefficients
