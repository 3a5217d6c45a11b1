use Rattle.std.proofs.Common.{◌∙◌}
use Rattle.family.specs.Reading.{gap_value}
use Rattle.search.proofs.Ending.{ended_as}
use Rattle.search.proofs.stopped.Stopped.read.Goals as goal

pub returns-clause-ends : goal.returns-clause-ends
returns-clause-ends g c =
    let s = c.args.self.now.search in
    ended_as (g.F.Family.meaning s.family) (g.met.F.Family.kept s.family) (gap_value s.gap) s.inner c.report.result c.copy_from_slice.new.self c.report.ensures (c.copy_from_slice.ensures.after ∙ c.numbers-numbers.ensures)
