use Rattle.std.proofs.Common.{ap, ◌∙◌, arith, rules}
use Rattle.family.specs.Points.{numerator_of}
use Rattle.family.specs.Reading.{side_of}
use Rattle.family.proofs.Casts.{result_back}
use Rattle.problem.specs.Programs.{program}
use Rattle.rows.specs.Duals.{met_end}
use Rattle.sums.specs.Sums.{dot}
use Rattle.rows.proofs.restriction.Restriction.level.Goals as goal

pub returns-clause-value : goal.returns-clause-value
returns-clause-value c =
    let y = numerator_of c.args.proof.now in
    let met = met_end (program c.args.self.now.problem.now) (side_of c.args.self.now.sides) y in
    result_back 160000000 (c.dot.ensures.value y met (λ k x h p. search rules) (λ k x h p. search rules) ∙ ap (λ n. dot n y met) c.row_count.ensures.value) (omega (arith, c.dot.ensures.near)) (omega arith)
