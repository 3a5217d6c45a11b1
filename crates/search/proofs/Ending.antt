-- What a stopped search tells is what its tally tells.
use Rattle.std.proofs.Common.{◌≡◌, ℕ, List, length, ℤ, sym, ap, subst}
use Rattle.family.specs.Meaning.{Meaning, Laws}
use Rattle.search.specs.declared.inner.Inner.{Inner}
use Rattle.search.specs.declared.report.Report.{Report}
use Rattle.search.specs.Claims.{Told}
use Rattle.search.specs.Shows.{Shows, report_in, numbers_in, AfterAny}
use Rattle.search.specs.Tally.{Tally, fresh, after, verdict_of, cost_of, numbers_of, report_of}
use Rattle.search.proofs.Telling.{told}

pub report_is : (s : Inner) (t : Tally) → Shows s t → report_of t ≡ report_in s
report_is s t sh = sym (λ i. record {
  verdict = verdict_of (sh.nodes i) (sh.held i);
  cost = cost_of (sh.held i);
  «open» = length (sh.nodes i);
  splits = sh.splits i;
  closed = sh.closed i;
})

pub numbers_are : (s : Inner) (t : Tally) → Shows s t → numbers_of t.held ≡ numbers_in s
numbers_are s t sh = sym (ap numbers_of sh.held)

pub ended : (M : Meaning) → Laws M → (gap : ℕ) (s : Inner) → AfterAny M gap s (report_in s) (numbers_in s)
ended M laws gap s calls sh =
    let t = after M gap fresh calls in
    subst (λ r. Told M gap calls r (numbers_in s)) (report_is s t sh) (subst (Told M gap calls (report_of t)) (numbers_are s t sh) (told M laws gap calls))

-- the same for a report and numbers that are those
pub ended_as : (M : Meaning) → Laws M → (gap : ℕ) (s : Inner) (report : Report) (numbers : List ℤ) → report ≡ report_in s → numbers ≡ numbers_in s → AfterAny M gap s report numbers
ended_as M laws gap s report numbers p q = subst (λ r. AfterAny M gap s r numbers) (sym p) (subst (AfterAny M gap s (report_in s)) (sym q) (ended M laws gap s))
