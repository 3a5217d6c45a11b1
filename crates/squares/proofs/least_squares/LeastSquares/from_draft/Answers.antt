use Rattle.std.proofs.Common.{subst}
use Rattle.problem.specs.declared.table.Problem.{Problem}
use Rattle.problem.specs.Programs.{program}
use Rattle.rows.specs.Claims.{PlainMeaning}
use Rattle.squares.specs.Bounds.{meaning_of}
use Rattle.squares.specs.Laws.{plain}
use Rattle.squares.proofs.least_squares.LeastSquares.from_draft.Goals as goal

pub returns-clause-plain : goal.returns-clause-plain
returns-clause-plain c =
    let p = c.into_parts.result.0 in
    subst (λ (q : Problem). PlainMeaning (meaning_of (program p)) (program q)) c.into_parts.ensures.problem (plain (program p))
