use Rattle.family.specs.Reading.{side_of}
use Rattle.search.proofs.Judging.{cost_fair}
use Rattle.search.proofs.search.Search.point_cost.Goals as goal

pub of-requires : goal.of-requires
of-requires g c =
    let f = c.args.self.now.family in
    cost_fair (g.F.Family.meaning f) (g.met.F.Family.kept f) c.size-n.result.0 c.size-n.ensures.quantities c.args.list.now c.in_ok-point.point (side_of c.all_free.result) c.all_free.ensures c.in_ok-point.ensures c.in_ok-cost.cost c.in_ok-cost.ensures
