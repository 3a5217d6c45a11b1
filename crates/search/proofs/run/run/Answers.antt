use Rattle.std.proofs.Common.{◌≡◌, ◌<◌, [], length, get_or, ap, ◌∙◌, arith, length-set, rules}
use Rattle.family.specs.Reading.{gap_value}
use Rattle.search.specs.declared.offer.Offer.{Offer}
use Rattle.search.specs.declared.search.Search.{Search}
use Rattle.search.specs.Runs.{call_of, calls_in}
use Rattle.search.specs.Shows.{report_in, numbers_in}
use Rattle.search.proofs.Steps.{ok_same}
use Rattle.search.proofs.Turns.{once_more, follows_at, all_done, ran_at}
use Rattle.search.proofs.run.run.Goals as goal

pub loop-index-preserved : goal.loop-index-preserved
loop-index-preserved g c =
    let m = g.F.Family.meaning in
    let s = c.loop-index.search in
    let s' = c.offer.new.self in
    let s₀ = c.open-search.result in
    let i = c.loop-index.index in
    let inv = c.loop-index.invariant in
    let offers = c.args.offers.now in
    let d : Offer = Offer.Point record { ref_ptr = (0, 0); now = [] } in
    let h : i < length c.loop-index.outcomes = search rules in
    let f = follows_at m s.family s₀.family s.gap s₀.gap s.inner s'.inner (call_of (get_or offers i d)) c.offer.result inv.1 inv.2 c.offer.ensures.follows in (
      length-set c.loop-index.outcomes i c.offer.result ∙ inv.0,
      c.offer.ensures.family ∙ inv.1,
      c.offer.ensures.gap ∙ inv.2,
      once_more (m s₀.family) (gap_value s₀.gap) offers i d c.loop-index-test.true s.inner s'.inner c.offer.result c.loop-index.outcomes h f inv.3,
    )

pub returns-clause-ran : goal.returns-clause-ran
returns-clause-ran g c =
    let m = g.F.Family.meaning in
    let s = c.loop-index.search in
    let s₀ = c.open-search.result in
    let inv = c.loop-index.invariant in
    let offers = c.args.offers.now in
    let i = c.loop-index.index in
    let e : i ≡ length offers = omega arith in
    let told : c.in_ok-report.report ≡ report_in s.inner = ok_same c.in_ok-report.ensures.answer ∙ ap (λ (x : Search g.row.F.Denot). report_in x.inner) c.stop-stopped.ensures.same in
    let filled : c.read.new.place ≡ numbers_in s.inner = c.read.ensures.place ∙ ap (λ (x : Search g.row.F.Denot). numbers_in x.inner) c.stop-stopped.ensures.same in
    ran_at m s₀.family c.args.family s₀.gap c.args.gap (calls_in offers) c.in_ok-report.report c.read.new.place c.loop-index.outcomes c.open-search.ensures.family c.open-search.ensures.gap
    (all_done (m s₀.family) (g.met.F.Family.kept s₀.family) (gap_value s₀.gap) offers i s.inner c.loop-index.outcomes c.in_ok-report.report c.read.new.place e inv.0 told filled inv.3)
