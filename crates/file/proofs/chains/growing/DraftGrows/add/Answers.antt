use Rattle.std.proofs.Common.{sym}
use Rattle.problem.specs.Calls.{data_of}
use Rattle.file.specs.Walks.{words_of}
use Rattle.file.proofs.Bytes.{read_back}
use Rattle.file.proofs.Exits.{row_comes, row_unknown}
use Rattle.file.proofs.Known.{known, unknown, listed_is}
use Rattle.file.proofs.chains.growing.DraftGrows.add.Goals as goal

pub returns-then-is_err-clause-comes : goal.returns-then-is_err-clause-comes
returns-then-is_err-clause-comes g c =
    row_unknown (words_of c.args.entry.now) c.args.entry.now.at (data_of c.args.self.now) (read_back c.word.ensures c.word.type_inv) (unknown _ _ c.try_from.ensures c.if-is_err.ensures.negation)

pub returns-clause-comes : goal.returns-clause-comes
returns-clause-comes g c =
    let f = words_of c.args.entry.now in
    let l = listed_is f c.args.entry.now.at 1 11 c.in_ok-list.ensures in
    row_comes f c.args.entry.now.at (data_of c.args.self.now) (data_of c.add_row.new.self) _ _ c.add_row.result c.in_record.result
    (read_back c.word.ensures c.word.type_inv) (known _ _ c.try_from.ensures c.if-is_err.ensures.negation) (sym l.0) l.1 c.add_row.ensures.answer c.add_row.ensures.after c.in_record.ensures
