use Rattle.family.proofs.Scans.{passed}
use Rattle.search.specs.Ratios.{pair_of}
use Rattle.search.proofs.Following.{point_denied, point_kept, point_taken}
use Rattle.search.proofs.search.Search.point.Goals as goal

pub returns-in_err-cost : goal.returns-in_err-cost
returns-in_err-cost g c =
    point_denied g.F.Family.meaning c.args.self.now c.args.list.now c.in_err-cost.field-0.0 c.from_residual.result (passed c.from_residual.result c.from_residual.ensures.1) c.in_err-cost.ensures

pub returns-then-not-is_beaten_by : goal.returns-then-not-is_beaten_by
returns-then-not-is_beaten_by g c =
    rw c.pair.ensures (point_kept g.F.Family.meaning c.args.self.now c.args.list.now (pair_of c.in_ok-cost.cost) c.in_ok-cost.ensures c.if-not-is_beaten_by.ensures)

pub returns : goal.returns
returns g c =
    rw c.pair-2.ensures (point_taken g.F.Family.meaning c.args.self.now c.args.list.now (pair_of c.in_ok-cost.cost) c.hold.new.self c.in_ok-cost.ensures c.if-not-is_beaten_by.ensures c.hold.ensures)
