use Rattle.std.proofs.Common.{◌≡◌, true, false, pos, length, rules, tests}
use Rattle.std.proofs.lemmas.Iterator.{cases_from_all, YieldsList-from_slice}
use Rattle.family.specs.Numbers.{same}
use Rattle.rows.proofs.Zeros.{zeros_decided}
use Rattle.rows.proofs.column_sums.ColumnSums.all_zero.Goals as goal

pub returns : goal.returns
returns c =
    let sums = c.args.self.now.sums in
    let eight : length sums ≡ 8 = search rules in
    zeros_decided sums c.all.result eight
    (cases_from_all _ _ _ (λ z. same z (pos 0) ≡ true) (λ z. same z (pos 0) ≡ false) c.all.ensures.ran (YieldsList-from_slice sums cc) (λ x q k. (search rules, search (rules, tests))) (λ x q k. search (rules, tests)))
