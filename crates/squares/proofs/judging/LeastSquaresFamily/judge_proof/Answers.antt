use Rattle.std.proofs.Common.{rules}
use Rattle.family.specs.Points.{denominator_of, numerator_of}
use Rattle.family.specs.Reading.{side_of}
use Rattle.squares.proofs.Judged.{judged}
use Rattle.squares.proofs.judging.LeastSquaresFamily.judge_proof.Goals as goal

pub returns : goal.returns
returns c =
    judged c.args.self.now.problem (side_of c.args.sides) (denominator_of c.args.proof.now) (numerator_of c.args.proof.now) _ c.duals.result _ c.duals.ensures c.map_or-judgement.ensures (λ d p. search rules)
