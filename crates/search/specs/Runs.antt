-- A whole run: the calls that offers stand for, and what holds at the end.
use Rattle.std.specs.Prelude.{◌≡◌, ℕ, List, [], ◌∷◌, ℤ, Result}
use Rattle.family.specs.declared.fault.Fault.{Fault}
use Rattle.family.specs.Meaning.{Meaning}
use Rattle.search.specs.declared.offer.Offer.{Offer}
use Rattle.search.specs.declared.offer.Offer.TheVariants.{Point, Proof, Split}
use Rattle.search.specs.declared.outcome.Accepted.{Accepted}
use Rattle.search.specs.declared.report.Report.{Report}
use Rattle.search.specs.Claims.{Told}
use Rattle.search.specs.Tally.{Call, point, proof, split, fresh, answers}
use Rattle.search.specs.Trees.{Finds}

abbrev pub call_of : Offer → Call
call_of (Point list) = point list.now
call_of (Proof list) = proof list.now
call_of (Split row side) = split row side

abbrev pub calls_in : List Offer → List Call
calls_in [] = []
calls_in (offer ∷ offers) = call_of offer ∷ calls_in offers

-- what holds of a report, nine numbers and the outcomes after calls made one after the other to a fresh search
pub record Ran (M : Meaning) (gap : ℕ) (calls : List Call) (report : Report) (numbers : List ℤ) (outcomes : List (Result Accepted Fault)) : Type 0 where
  -- the verdict is true, and all is as the tally has it
  pub told : Told M gap calls report numbers
  -- each outcome is the tally's answer
  pub answers : outcomes ≡ answers M gap fresh calls
  -- the calls of a complete tree settle it
  pub finds : Finds M gap calls report numbers outcomes
