use Rattle.std.proofs.Common.{◌≡◌, pos, ap, sym, ◌∙◌, rules}
use Rattle.file.specs.Kinds.{call_number}
use Rattle.file.specs.Records.{cell}
use Rattle.file.specs.Walks.{words_of}
use Rattle.file.proofs.Bytes.{read_back}
use Rattle.file.proofs.Known.{call_unknown, call_split}
use Rattle.file.proofs.chains.growing.call.Goals as goal

pub returns-in_ok-row-in-Ok-Split : goal.returns-in_ok-row-in-Ok-Split
returns-in_ok-row-in-Ok-Split c =
    let kind : pos 5 ≡ cell (words_of c.args.entry.now) c.args.entry.now.at 1 = ap (λ kind. pos (call_number kind)) (sym c.in-Ok-Split.field-0-is) ∙ c.in-Ok-Split.ensures ∙ read_back c.word.ensures c.word.type_inv in
    call_split (words_of c.args.entry.now) c.args.entry.now.at kind c.in_ok-row-in-Ok-Split.ensures (search rules) (search rules)

pub returns-in-Err : goal.returns-in-Err
returns-in-Err c = call_unknown (words_of c.args.entry.now) c.args.entry.now.at (λ kind e. c.in-Err.ensures kind (e ∙ sym (read_back c.word.ensures c.word.type_inv)))
