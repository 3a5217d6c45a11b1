use Rattle.std.proofs.Common.{◌≡◌, pos, ap, ◌∙◌}
use Rattle.problem.specs.Drafts.{ProblemData}
use Rattle.problem.proofs.Readings.{header_filler}
use Rattle.problem.proofs.draft.Draft.header.Goals as goal

pub invariant_of-self : goal.invariant_of-self
invariant_of-self g c =
    let e = c.in_ok-header.ensures in
    let n : c.set_quantities.new.self.n ≡ c.in_ok-header.header.n = ap (λ (d : ProblemData). d.n) c.set_quantities.ensures in
    record { fillers = header_filler _ c.args.list.now e.0 (ap pos n ∙ e.1.n) e.1.rates }
