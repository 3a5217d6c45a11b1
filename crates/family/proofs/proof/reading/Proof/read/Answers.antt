use Rattle.std.proofs.Common.{arith}
use Rattle.family.proofs.Scans.{proof_read}
use Rattle.family.proofs.proof.reading.Proof.read.Goals as goal

pub of-requires : goal.of-requires
of-requires c =
    let r = proof_read c.args.m c.args.list.now c.in_ok-judge.ensures in
    (omega arith, (r.long, (r.positive, (r.fine, r.near))))
