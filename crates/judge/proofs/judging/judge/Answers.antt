use Rattle.std.proofs.Common.{Ok, sym, ap, ◌∙◌}
use Rattle.file.specs.declared.contents.AnyDraft.{AnyDraft}
use Rattle.file.specs.Contents.{calls_of, any_data}
use Rattle.file.specs.Files.{reading}
use Rattle.judge.proofs.Judgings.{squares_judged, linear_judged}
use Rattle.judge.proofs.judging.judge.Goals as goal

pub returns-in-Squares : goal.returns-in-Squares
returns-in-Squares c =
    squares_judged (reading c.args.bytes.now) c.in-Squares.draft (calls_of c.in_ok-draft.field-0.calls) c.from_draft.result.0.problem c.from_draft.result.1 c.judge_calls.result
    (ap (λ (d : AnyDraft). Ok (any_data d, calls_of c.in_ok-draft.field-0.calls)) (sym c.in-Squares.is) ∙ c.in_ok-draft.ensures) c.from_draft.ensures.problem c.from_draft.ensures.gap c.from_draft.ensures.plain c.judge_calls.ensures

pub returns-in-Linear : goal.returns-in-Linear
returns-in-Linear c =
    linear_judged (reading c.args.bytes.now) c.in-Linear.draft (calls_of c.in_ok-draft.field-0.calls) c.from_draft-in-Linear.result.0.problem c.from_draft-in-Linear.result.0.rates c.from_draft-in-Linear.result.1 c.judge_calls-in-Linear.result
    (ap (λ (d : AnyDraft). Ok (any_data d, calls_of c.in_ok-draft.field-0.calls)) (sym c.in-Linear.is) ∙ c.in_ok-draft.ensures) c.from_draft-in-Linear.ensures.problem c.from_draft-in-Linear.ensures.rates c.from_draft-in-Linear.ensures.gap c.from_draft-in-Linear.ensures.plain c.judge_calls-in-Linear.ensures
