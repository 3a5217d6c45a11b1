use Rattle.std.proofs.Common.{◌-◌, ◌*◌, length, arith, rules}
use Rattle.file.proofs.Bytes.{get_four}
use Rattle.file.proofs.words.get.Goals as goal

pub returns : goal.returns
returns c =
    let bs = c.args.bytes.now in
    get_four bs c.in-Some.word.now c.args.k (length bs - 4 * c.args.k) (search rules) (omega (arith, c.requires)) c.in-Some.ensures.cases.same c.from_le_bytes.ensures
