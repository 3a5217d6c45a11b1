use Rattle.std.proofs.Common.{◌<◌, rules}
use Rattle.std.proofs.lemmas.Nat.{one_shl}
use Rattle.family.proofs.Bits.{Moved, to_lower, to_upper, on_way}
use Rattle.family.proofs.sides.Sides.set.Goals as goal
use Rattle.family.proofs.sides.Sides.set.Goals.{in-Lower, in-Upper, Joined-side, at-returns}

-- either way
moved : (c : Joined-side) → Moved c.args.self.lower c.args.self.upper c.match-side.result.0 c.match-side.result.1.0 c.args.row c.args.side
moved c =
    let a = c.args.self.lower in
    let b = c.args.self.upper in
    let r = c.args.row in
    let one = one_shl r 16 c.requires in
    let small : a < 65536 = search rules in
    let large : b < 65536 = search rules in
    elim c.match-side.branch [
      | in-Lower w ↦ on_way w.result-is w.in-Lower.is (to_lower a b r _ one small large c.requires c.args.self.apart)
      | in-Upper w ↦ on_way w.result-is w.in-Upper.is (to_upper a b r _ one small large c.requires c.args.self.apart)
    ]

pub invariant_of-result : goal.invariant_of-result
invariant_of-result c = record { apart = (moved c).apart }

pub returns : goal.returns
returns c = (moved (at-returns c).Joined-side).reads
