use Rattle.family.specs.Reading.{gap_value}
use Rattle.search.proofs.Ending.{ended}
use Rattle.search.proofs.search.Search.stop.Goals as goal

pub returns-clause-ends : goal.returns-clause-ends
returns-clause-ends g c =
    let s = c.args.self in
    ended (g.F.Family.meaning s.family) (g.met.F.Family.kept s.family) (gap_value s.gap) s.inner
