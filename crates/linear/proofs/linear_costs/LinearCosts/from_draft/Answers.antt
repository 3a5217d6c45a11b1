use Rattle.std.proofs.Common.{subst}
use Rattle.family.specs.Numbers.{at}
use Rattle.problem.specs.declared.table.Problem.{Problem}
use Rattle.problem.specs.Programs.{program}
use Rattle.rows.specs.Claims.{PlainMeaning}
use Rattle.linear.specs.Bounds.{meaning_of}
use Rattle.linear.specs.Laws.{plain}
use Rattle.linear.proofs.linear_costs.LinearCosts.from_draft.Goals as goal

pub returns-clause-plain : goal.returns-clause-plain
returns-clause-plain c =
    let p = c.into_parts.result.0 in
    let rates = at c.into_parts.result.1.numbers in
    subst (λ (q : Problem). PlainMeaning (meaning_of (program p) rates) (program q)) c.into_parts.ensures.problem (plain (program p) rates)
