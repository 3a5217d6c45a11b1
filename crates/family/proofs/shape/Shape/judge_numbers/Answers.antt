use Rattle.std.proofs.Common.{sym, ◌∙◌, rules}
use Rattle.family.proofs.Scans.{passed, numbers_stop, numbers_go, numbers_end}
use Rattle.family.proofs.shape.Shape.judge_numbers.Goals as goal

pub returns-in_err-judge_number : goal.returns-in_err-judge_number
returns-in_err-judge_number c =
    passed c.from_residual.result c.from_residual.ensures.1
    ∙ sym (c.loop-index.invariant ∙ numbers_stop c.args.self c.loop-index.index c.args.list.now c.loop-index-test.true c.in_err-judge_number.field-0.0 c.limits.ensures (search rules) c.in_err-judge_number.ensures)

pub loop-index-preserved : goal.loop-index-preserved
loop-index-preserved c =
    c.loop-index.invariant ∙ numbers_go c.args.self c.loop-index.index c.args.list.now c.loop-index-test.true c.limits.ensures (search rules) c.in_ok-judge_number.ensures

pub returns : goal.returns
returns c = sym (c.loop-index.invariant ∙ numbers_end c.args.self c.loop-index.index c.args.list.now c.loop-index-test.false)
