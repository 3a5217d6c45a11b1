use Rattle.std.proofs.Common.{arith}
use Rattle.family.proofs.Scans.{point_read}
use Rattle.family.proofs.point.reading.Point.read.Goals as goal

pub of-requires : goal.of-requires
of-requires c =
    let r = point_read c.args.n c.args.list.now c.in_ok-judge.ensures in
    (omega arith, (r.long, (r.positive, (r.fine, r.near))))
