use Rattle.std.proofs.Common.{◌<◌, sym, rules}
use Rattle.family.proofs.Bits.{beyond}
use Rattle.family.proofs.sides.Sides.side.Goals as goal

pub returns-then-row-ge-ROWS : goal.returns-then-row-ge-ROWS
returns-then-row-ge-ROWS c =
    let small : c.args.self.lower < 65536 = search rules in
    let large : c.args.self.upper < 65536 = search rules in
    sym (beyond _ _ c.args.row small large c.if-row-ge-ROWS.true)
