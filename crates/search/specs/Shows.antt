-- How the state of a search stands for a tally, and what it is to follow the tally.
use Rattle.std.specs.Prelude.{◌≡◌, ℕ, List, length, ℤ, Some, Option, Result}
use Rattle.std.specs.Option.{option_map}
use Rattle.family.specs.declared.fault.Fault.{Fault}
use Rattle.family.specs.declared.judgement.Judgement.{Judgement}
use Rattle.family.specs.declared.judgement.Judgement.TheVariants.{Void, Bound}
use Rattle.family.specs.Fractions.{Fraction, Fair}
use Rattle.family.specs.Meaning.{Meaning}
use Rattle.search.specs.declared.held.Held as code
use Rattle.search.specs.declared.inner.Inner.{Inner}
use Rattle.search.specs.declared.outcome.Accepted.{Accepted}
use Rattle.search.specs.declared.report.Report.{Report}
use Rattle.search.specs.Claims.{Told}
use Rattle.search.specs.Ratios.{pair_of}
use Rattle.search.specs.Tally.{Held, Tally, Call, fresh, answer, step, after, verdict_of, cost_of, numbers_of}
use Rattle.search.specs.View.{nodes_of, closed_of, splits_of}

-- the held point as the tally has it
abbrev pub held_of : Option code.Held → Option Held
held_of held = option_map (λ (h : code.Held). record { numbers = h.point; cost = pair_of h.cost }) held

-- a bound within the limits of what a family answers
abbrev pub FairJudgement : Judgement → Type 0
FairJudgement Void = Unit {0}
FairJudgement (Bound bound) = Fair bound

-- this point is held, and the open nodes stay
pub record Holding (numbers : List ℤ) (cost : Fraction) (s s' : Inner) : Type 0 where
  pub held : held_of s'.held ≡ Some (record { numbers = numbers; cost = cost })
  pub same : s'.frontier ≡ s.frontier

-- the state is that of the tally
pub record Shows (s : Inner) (t : Tally) : Type 0 where
  pub nodes : nodes_of s.frontier ≡ t.pending
  pub closed : closed_of s.frontier ≡ length t.closed
  pub splits : splits_of s.frontier ≡ t.splits
  pub held : held_of s.held ≡ t.held

-- from whatever tally is shown before, the call leads to the tally's next one, and its answer is the tally's
abbrev pub Follows : Meaning → ℕ → Inner → Call → Inner → Result Accepted Fault → Type 0
Follows M gap s call s' r = (t : Tally) → Shows s t → Shows s' (step M gap t call) × (r ≡ answer M gap t call)

-- what a state reports
abbrev pub report_in : Inner → Report
report_in s = record {
  verdict = verdict_of (nodes_of s.frontier) (held_of s.held);
  cost = cost_of (held_of s.held);
  «open» = length (nodes_of s.frontier);
  splits = splits_of s.frontier;
  closed = closed_of s.frontier;
}

abbrev pub numbers_in : Inner → List ℤ
numbers_in s = numbers_of (held_of s.held)

-- after whatever calls the state has come about, all that is claimed of them holds of a report and of numbers
abbrev pub AfterAny : Meaning → ℕ → Inner → Report → List ℤ → Type 0
AfterAny M gap s report numbers = (calls : List Call) → Shows s (after M gap fresh calls) → Told M gap calls report numbers
