use Rattle.std.proofs.Common.{◌≡◌, ℕ, Bool, true, false, ap, ◌∙◌, rules, tests}
use Rattle.std.proofs.lemmas.Iterator.{first_from_Range}
use Rattle.family.specs.Numbers.{at, same}
use Rattle.family.specs.Points.{denominator_of}
use Rattle.rows.specs.Searches.{first_failing}
use Rattle.rows.proofs.Searches.{found}
use Rattle.linear.specs.Bounds.{balancing}
use Rattle.linear.proofs.linear_costs.LinearCosts.off_balance.Goals as goal

pub returns-clause-least : goal.returns-clause-least
returns-clause-least c =
    let test : ℕ → Bool = λ j. same (at c.args.columns.now.sums j) (balancing (denominator_of c.args.proof.now) (at c.args.self.now.rates.numbers) j) in
    found test c.quantities.result c.find.result
    (first_from_Range _ _ _ c.find.result (λ i. test i ≡ false) (λ i. test i ≡ true) c.find.ensures.ran (λ x q k. search (rules, tests)) (λ x q k. (search rules, search (rules, tests))))
    ∙ ap (first_failing test 0) c.quantities.ensures.value
