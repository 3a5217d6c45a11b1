use Rattle.std.proofs.Common.{◌≡◌, true, false, ap, ◌∙◌, rules, tests}
use Rattle.std.proofs.lemmas.Iterator.{first_from_Range}
use Rattle.family.specs.Points.{any_point}
use Rattle.family.specs.Reading.{side_of}
use Rattle.problem.specs.Programs.{program}
use Rattle.rows.specs.Rules.{passes}
use Rattle.rows.specs.Searches.{first_failing}
use Rattle.rows.proofs.Searches.{found}
use Rattle.rows.proofs.restriction.Restriction.stopper.Goals as goal

pub returns-clause-least : goal.returns-clause-least
returns-clause-least c =
    let test = passes (program c.args.self.now.problem.now) (side_of c.args.self.now.sides) (any_point c.args.point.now) in
    found test c.row_count.result c.find.result
    (first_from_Range _ _ _ c.find.result (λ i. test i ≡ false) (λ i. test i ≡ true) c.find.ensures.ran (λ x q k. search (rules, tests)) (λ x q k. (search rules, search (rules, tests))))
    ∙ ap (first_failing test 0) c.row_count.ensures.value
