use Rattle.std.proofs.Common.{◌≡◌, true, false, rules}
use borrow.Author.Tests.{tests}
use Rattle.std.proofs.lemmas.Iterator.{first_from_Range}
use Rattle.file.specs.Records.{is, cell}
use Rattle.file.specs.Walks.{words_of}
use Rattle.file.proofs.Scans.{unused_at}
use Rattle.file.proofs.records.Record.first_used.Goals as goal

pub returns : goal.returns
returns c =
    let f = words_of c.args.self.now in
    let at = c.args.self.now.at in
    unused_at f at c.args.from c.find.result c.requires
    (first_from_Range _ _ _ _ (λ w. is 0 (cell f at w) ≡ false) (λ w. is 0 (cell f at w) ≡ true) c.find.ensures.ran
    (λ x q k. search (rules, tests)) (λ x q k. search (rules, tests)))
