use Rattle.std.proofs.Common.{pos, refl, rules}
use Rattle.file.specs.Kinds.{family_number}
use Rattle.file.proofs.Puttings.{head_puts}
use Rattle.file.proofs.writing.records.put_head.Goals as goal

pub returns : goal.returns
returns c =
    head_puts _ _ _ _ _ _ c.args.m (pos (family_number c.args.family)) c.args.header.now c.requires.ten c.put.ensures (search rules) c.put-2.ensures refl c.put-3.ensures (search rules)
    c.put_list.ensures c.put_list-2.ensures
