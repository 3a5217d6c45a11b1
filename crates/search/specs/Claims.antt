-- What is claimed of the tally after any calls, denied ones included, and of the report and the nine numbers that
-- a stopped search gives.
use Rattle.std.specs.Prelude.{◌≡◌, ℕ, zero, suc, ◌+◌, ◌<◌, Bool, true, false, cond, not, ◌&&◌, ◌||◌, List, [], ◌∷◌, ◌++◌, ℤ, IfOk, Some, None, Ok, Err, Option, Result}
use Rattle.family.specs.declared.fault.Fault.{Fault}
use Rattle.family.specs.declared.judgement.Judgement.{Judgement}
use Rattle.family.specs.declared.shape.Shape.TheVariants.{Point as PointShape}
use Rattle.family.specs.declared.side.Side.{Side}
use Rattle.family.specs.Fractions.{Fraction, at_most, cheaper, lessened}
use Rattle.family.specs.Lists.{list_fault}
use Rattle.family.specs.Meaning.{Meaning}
use Rattle.family.specs.Points.{AnyPoint, point_in, proof_in}
use Rattle.search.specs.declared.outcome.Accepted.{Accepted}
use Rattle.search.specs.declared.report.Report.{Report}
use Rattle.search.specs.declared.report.Verdict.{Verdict}
use Rattle.search.specs.declared.report.Verdict.TheVariants.{Stopped, Best, Nothing}
use Rattle.search.specs.Tally.{Sides, all_free, Call, point, proof, split, Held, Tally, fresh, point_cost, shuts, same_side, after, answer, answers, numbers_of, report_of}

-- ---- a verdict is never false
-- every admitted point, of any size, costs at least this cost less the gap
abbrev pub BoundsAll : Meaning → ℕ → Fraction → Type 0
BoundsAll M gap cost =
    (x : AnyPoint) → 0 < x.q → M.admits all_free x → at_most (lessened gap cost) (M.cost all_free x) ≡ true

abbrev pub NoneAdmitted : Meaning → Type 0
NoneAdmitted M = (x : AnyPoint) → 0 < x.q → M.admits all_free x → ⊥

-- the numbers are those of an admitted point within the limits, and this is its cost
pub record AdmittedAt (M : Meaning) (cost : Fraction) (numbers : List ℤ) : Type 0 where
  pub fine : list_fault (PointShape M.n) numbers ≡ Ok tt
  pub admitted : M.admits all_free (point_in numbers)
  pub at_cost : cost ≡ M.cost all_free (point_in numbers)

abbrev pub Says : Meaning → ℕ → Verdict → Option Fraction → List ℤ → Type 0
Says M gap Stopped cost numbers = Unit {0}
Says M gap Best None numbers = ⊥
Says M gap Best (Some cost) numbers = AdmittedAt M cost numbers × BoundsAll M gap cost
Says M gap Nothing cost numbers = NoneAdmitted M

abbrev pub Sound : Meaning → ℕ → Report → List ℤ → Type 0
Sound M gap report numbers = Says M gap report.verdict report.cost numbers

-- ---- the open and the closed nodes part the settings
-- a setting chooses a side for each switch row and for no other
pub record Setting (M : Meaning) : Type 0 where
  pub choice : ℕ → Option Side
  pub chosen : (r : ℕ) → M.switch r ≡ true → (d : Side) × (choice r ≡ Some d)
  pub only : (r : ℕ) → M.switch r ≡ false → choice r ≡ None

-- whether a node's side of a row agrees with a choice
abbrev pub agrees : Option Side → Option Side → Bool
agrees None choice = true
agrees (Some d) None = false
agrees (Some d) (Some e) = same_side d e

-- whether a setting lies under a node, as far as the first n rows tell: every fixed switch agrees with it
abbrev pub under : Meaning → (ℕ → Option Side) → ℕ → Sides → Bool
under M choice zero s = true
under M choice (suc n) s = (not (M.switch n) || agrees (s n) (choice n)) && under M choice n s

abbrev pub count : {T : Type 0} → (T → Bool) → List T → ℕ
count p [] = 0
count p (x ∷ xs) = cond (p x) 1 0 + count p xs

-- each setting lies under exactly one node, open or closed
abbrev pub Parted : Meaning → Tally → Type 0
Parted M t = (w : Setting M) → count (under M w.choice M.m) t.pending + count (under M w.choice M.m) t.closed ≡ 1

-- ---- the held point
-- P of the cost of each admitted point among the calls
abbrev pub EachCost : Meaning → (Fraction → Type 0) → List Call → Type 0
EachCost M P [] = Unit {0}
EachCost M P (point list ∷ calls) = IfOk (point_cost M list) P × EachCost M P calls
EachCost M P (proof list ∷ calls) = EachCost M P calls
EachCost M P (split row side ∷ calls) = EachCost M P calls

-- the earliest among the cheapest of the admitted points among the calls
pub record Earliest (M : Meaning) (calls : List Call) (held : Held) : Type 0 where
  pub before : List Call
  pub later : List Call
  pub here : calls ≡ before ++ (point held.numbers ∷ later)
  pub cost : point_cost M held.numbers ≡ Ok held.cost
  pub first : EachCost M (λ c. cheaper held.cost c ≡ true) before
  pub cheapest : EachCost M (λ c. at_most held.cost c ≡ true) later

abbrev pub HoldsEarliest : Meaning → List Call → Option Held → Type 0
HoldsEarliest M calls None = EachCost M (λ c. ⊥) calls
HoldsEarliest M calls (Some held) = Earliest M calls held

-- ---- the counts
abbrev pub is_closing : Result Accepted Fault → Bool
is_closing (Ok (Accepted.Taken cost)) = false
is_closing (Ok (Accepted.Kept cost)) = false
is_closing (Ok (Accepted.Closed judgement)) = true
is_closing (Ok Accepted.Split) = false
is_closing (Err fault) = false

abbrev pub is_splitting : Result Accepted Fault → Bool
is_splitting (Ok (Accepted.Taken cost)) = false
is_splitting (Ok (Accepted.Kept cost)) = false
is_splitting (Ok (Accepted.Closed judgement)) = false
is_splitting (Ok Accepted.Split) = true
is_splitting (Err fault) = false

-- ---- the closed nodes
-- among the calls is a proof that was accepted when a node with these sides was current: it is void there, or it
-- closes against the point held then
pub record HadProof (M : Meaning) (gap : ℕ) (calls : List Call) (s : Sides) : Type 0 where
  pub before : List Call
  pub list : List ℤ
  pub later : List Call
  pub judgement : Judgement
  pub others : List Sides
  pub here : calls ≡ before ++ (proof list ∷ later)
  pub current : (after M gap fresh before).pending ≡ s ∷ others
  pub accepted : answer M gap (after M gap fresh before) (proof list) ≡ Ok (Accepted.Closed judgement)
  pub shown : M.judge_proof s (proof_in list) ≡ Ok judgement
  pub shut : shuts gap (after M gap fresh before).held judgement ≡ true

abbrev pub Every : {T : Type 0} → (T → Type 0) → List T → Type 0
Every P [] = Unit {0}
Every P (x ∷ xs) = P x × Every P xs

-- ---- all that is claimed of a report, and of nine numbers, after calls
pub record Told (M : Meaning) (gap : ℕ) (calls : List Call) (report : Report) (numbers : List ℤ) : Type 0 where
  -- the verdict is true
  pub sound : Sound M gap report numbers
  -- verdict, cost and counts are the tally's, and so is the point
  pub as_tally : report ≡ report_of (after M gap fresh calls)
  pub point : numbers ≡ numbers_of (after M gap fresh calls).held
  -- open + closed = splits + 1
  pub counted : report.«open» + report.closed ≡ report.splits + 1
  -- each setting lies under exactly one node, open or closed
  pub parted : Parted M (after M gap fresh calls)
  -- the held point is the earliest among the cheapest that were offered
  pub held : HoldsEarliest M calls (after M gap fresh calls).held
  -- closed and splits count the accepted proofs and the accepted splits
  pub closings : report.closed ≡ count is_closing (answers M gap fresh calls)
  pub splittings : report.splits ≡ count is_splitting (answers M gap fresh calls)
  -- each closed node had its proof
  pub proved : Every (HadProof M gap calls) (after M gap fresh calls).closed
