use Rattle.std.proofs.Common.{arith}
use Rattle.std.proofs.lemmas.Int.{ints}
use Rattle.family.proofs.Casts.{times, arg_back}
use Rattle.search.proofs.ratio.Ratio.scaled.Goals as goal

pub returns : goal.returns
returns c =
    let f = c.args.self.fair in
    (times 9000000000000 1000000 (arg_back 9000000000000 c.args.number c.requires (omega arith)) (arg_back 1000000 c.args.self.denominator (omega (arith, ints, f.positive, f.denominator)) (omega arith)) c.requires (omega (arith, ints, f.positive, f.denominator)) (omega arith)).is
