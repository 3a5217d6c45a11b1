use Rattle.std.proofs.Common.{◌+◌, length, ap, ◌∙◌, arith, rules}
use Rattle.search.specs.Runs.{calls_in}
use Rattle.judge.specs.Problems.{calls_made}
use Rattle.judge.proofs.Offering.{one_more, all_made}
use Rattle.judge.proofs.making.offers_of.Goals as goal

pub loop-call-init : goal.loop-call-init
loop-call-init c = (ap length c.new-offers.ensures, ap calls_in c.new-offers.ensures)

pub push-requires : goal.push-requires
push-requires c = search rules

pub loop-call-preserved : goal.loop-call-preserved
loop-call-preserved c =
    let inv = c.loop-call.invariant in (
      c.push.ensures.len ∙ ap (λ n. n + 1) inv.0,
      one_more c.loop-call.offers.items c.push.new.self.items c.as_slice-call-items.result.now c.loop-call.call-index c.offer_of.result _ c.push.ensures.items c.loop-call-test.true c.offer_of.ensures inv.1,
    )

pub returns : goal.returns
returns c =
    all_made c.loop-call.offers.items c.as_slice-call-items.result.now c.loop-call.call-index (omega arith) c.loop-call.invariant.1
    ∙ ap calls_made c.as_slice-call-items.ensures.value
