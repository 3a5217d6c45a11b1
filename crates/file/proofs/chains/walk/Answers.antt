use Rattle.std.proofs.Common.{Ok, sym, ap, ◌∙◌, arith}
use Rattle.file.specs.Walks.{reached_in, words_in}
use Rattle.file.proofs.Turns.{same_added, chained_end, chained_fault, there, turn, turn_fault, both_longer, stopped}
use Rattle.file.proofs.chains.walk.Goals as goal

pub returns-in_err-k : goal.returns-in_err-k
returns-in_err-k g c =
    let l = c.loop-k in
    let f = words_in c.args.records.now in
    stopped _ _ c.from_residual.result c.in_err-k.field-0.0
    (l.invariant.3 ∙ chained_fault (g.T.Grows.added f) f c.args.records.now.count (reached_in l.reached) (g.T.Grows.seen l.into) l.r l.w _ _ c.in_err-k.ensures.value)
    c.from_residual.ensures.1

pub returns-in_err-add : goal.returns-in_err-add
returns-in_err-add g c =
    let l = c.loop-k in
    let f = words_in c.args.records.now in
    let n = c.in_ok-k.ensures in
    stopped _ _ c.from_residual-in_err-add.result c.in_err-add.field-0.0
    (l.invariant.3 ∙ turn_fault (g.T.Grows.added f) f c.args.records.now.count (reached_in l.reached) (g.T.Grows.seen l.into) l.r l.w c.in-Some.k c.in-Some.is n.value n.new (sym (same_added g.T.Grows.added c.record.ensures) ∙ c.in_err-add.ensures.comes))
    c.from_residual-in_err-add.ensures.1

pub loop-k-preserved : goal.loop-k-preserved
loop-k-preserved g c =
    let l = c.loop-k in
    let f = words_in c.args.records.now in
    let n = c.in_ok-k.ensures in (
      (there c.args.records.now.count (reached_in l.reached) c.in-Some.k c.in-Some.is n.new).0,
      omega arith,
      both_longer (reached_in l.reached) c.in-Some.k l.invariant.2 c.in_ok-add.ensures.grows c.push.ensures,
      l.invariant.3 ∙ turn (g.T.Grows.added f) f c.args.records.now.count (reached_in l.reached) (g.T.Grows.seen l.into) l.r l.w c.in-Some.k c.in-Some.is n.value n.new (sym (same_added g.T.Grows.added c.record.ensures) ∙ c.in_ok-add.ensures.comes) c.push.ensures,
    )

pub returns : goal.returns
returns g c =
    let l = c.loop-k in
    let f = words_in c.args.records.now in
    l.invariant.3 ∙ chained_end (g.T.Grows.added f) f c.args.records.now.count (reached_in l.reached) (g.T.Grows.seen l.into) l.r l.w _ (ap Ok (sym c.in_default.is) ∙ c.in_ok-k.ensures.value)
