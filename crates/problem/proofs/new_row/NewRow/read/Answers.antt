use Rattle.std.proofs.Common.{◌≡◌, ◌≤◌, true, nat_abs, sym, ◌∙◌, subst, w32, to_z, of_z, rules}
use lib.Signed.{le_z}
use Rattle.std.proofs.lemmas.List.{take_rest}
use Rattle.family.specs.Numbers.{at, Small}
use Rattle.problem.proofs.Readings.{row_sound, row_unknown, row_whole}
use Rattle.problem.proofs.new_row.NewRow.read.Goals as goal

pub returns-in_err-kind : goal.returns-in_err-kind
returns-in_err-kind c =
    let xs = c.args.list.now in
    let same : to_z w32 (of_z w32 (at xs 0)) ≡ at xs 0 = search rules in
    let unknown = row_unknown c.args.n xs c.in_ok-judge_length.ensures same c.in_err-kind.ensures.1 in
    let fault = c.in_err-kind.ensures.0 in
    search rules

pub of-requires-clause-small : goal.of-requires-clause-small
of-requires-clause-small c =
    let xs = c.args.list.now in
    let h = row_sound c.args.n xs c.in_ok-judge_length.ensures c.in_ok-judge_numbers.ensures in
    subst (Small 50) (sym (take_rest xs 3)) h.coefficients.small

pub invariant_of-result : goal.invariant_of-result
invariant_of-result c =
    let xs = c.args.list.now in
    let lo : to_z w32 (of_z w32 (at xs 1)) ≡ at xs 1 = search rules in
    let hi : to_z w32 (of_z w32 (at xs 2)) ≡ at xs 2 = search rules in
    let h = row_sound c.args.n xs c.in_ok-judge_length.ensures c.in_ok-judge_numbers.ensures in
    record {
      low = subst (λ z. nat_abs z ≤ 10000) (sym lo) h.low;
      high = subst (λ z. nat_abs z ≤ 10000) (sym hi) h.high;
      ordered = search rules;
    }

pub returns : goal.returns
returns c =
    let xs = c.args.list.now in
    let kind : to_z w32 (of_z w32 (at xs 0)) ≡ at xs 0 = search rules in
    let lo : to_z w32 (of_z w32 (at xs 1)) ≡ at xs 1 = search rules in
    let hi : to_z w32 (of_z w32 (at xs 2)) ≡ at xs 2 = search rules in
    let ordered : le_z (at xs 1) (at xs 2) ≡ true = search rules in (
      row_whole c.args.n xs c.in_ok-judge_length.ensures c.in_ok-kind.kind kind c.in_ok-kind.ensures c.in_ok-judge_numbers.ensures ordered,
      record { kind = c.in_ok-kind.ensures ∙ kind; lo = lo; hi = hi; coefficients = c.of.ensures ∙ take_rest xs 3 },
    )
