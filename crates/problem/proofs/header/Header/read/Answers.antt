use Rattle.std.proofs.Common.{◌≡◌, ◌≤◌, option_map, pos, nat_abs, sym, ap, ◌∙◌, subst, w32, to_z, of_z, rules}
use Rattle.std.proofs.lemmas.List.{take_rest}
use Rattle.family.specs.declared.shape.Shape.TheVariants.{Header as HeaderShape}
use Rattle.family.specs.Lists.{list_fault}
use Rattle.family.specs.Numbers.{at, Small}
use Rattle.family.specs.Reading.{gap_value}
use Rattle.problem.proofs.Readings.{header_sound, gap_is, gap_there}
use Rattle.problem.proofs.header.Header.read.Goals as goal

pub returns-in_err-ok_or : goal.returns-in_err-ok_or
returns-in_err-ok_or c =
    let xs = c.args.list.now in
    let same : to_z w32 (of_z w32 (at xs 1)) ≡ at xs 1 = search rules in
    let h = header_sound c.rates_in_use-rates.result xs c.in_ok-judge.ensures in
    let no : ⊥ = gap_there same h.gap_in (ap (option_map gap_value) (sym c.in_err-ok_or.ensures.ok_part) ∙ c.new.ensures) in
    elim no [ ]

pub of-requires-clause-small : goal.of-requires-clause-small
of-requires-clause-small c =
    let xs = c.args.list.now in
    let h = header_sound c.rates_in_use-rates.result xs c.in_ok-judge.ensures in
    subst (Small 50) (sym (take_rest xs 2)) h.rates.small

pub invariant_of-result : goal.invariant_of-result
invariant_of-result c =
    let xs = c.args.list.now in
    let n : c.unsigned_abs.result ≡ nat_abs (at xs 0) = search rules in
    let h = header_sound c.rates_in_use-rates.result xs c.in_ok-judge.ensures in
    record { some = subst (λ n. 1 ≤ n) (sym n) h.some; few = subst (λ n. n ≤ 8) (sym n) h.few }

pub returns : goal.returns
returns c =
    let xs = c.args.list.now in
    let n : c.unsigned_abs.result ≡ nat_abs (at xs 0) = search rules in
    let same : to_z w32 (of_z w32 (at xs 1)) ≡ at xs 1 = search rules in
    let h = header_sound c.rates_in_use-rates.result xs c.in_ok-judge.ensures in (
      sym (c.in_ok-judge.ensures ∙ ap (λ k. list_fault (HeaderShape k) xs) c.rates_in_use-rates.ensures),
      record { n = ap pos n ∙ h.n_is; gap = gap_is c.in_ok-ok_or.field-0.value same (ap (option_map gap_value) (sym c.in_ok-ok_or.ensures.ok_part) ∙ c.new.ensures); rates = c.of.ensures ∙ take_rest xs 2 },
    )
