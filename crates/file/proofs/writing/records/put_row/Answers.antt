use Rattle.std.proofs.Common.{rules}
use Rattle.file.proofs.Puttings.{row_puts}
use Rattle.file.proofs.writing.records.put_row.Goals as goal

pub returns : goal.returns
returns c =
    row_puts _ _ _ _ c.args.i c.args.m c.args.list.now c.requires.eleven c.put.ensures (search rules) c.put_list.ensures c.put_list-2.ensures
