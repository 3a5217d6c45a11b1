-- All that is claimed of the report and of the nine numbers after any calls.
use Rattle.std.proofs.Common.{ℕ, List, refl}
use Rattle.family.specs.Meaning.{Meaning, Laws}
use Rattle.search.specs.Tally.{Call, fresh, after, answers, numbers_of, report_of}
use Rattle.search.specs.Claims.{Told}
use Rattle.search.specs.Trees.{Finds}
use Rattle.search.proofs.Soundness.{sound}
use Rattle.search.proofs.Counting.{counted}
use Rattle.search.proofs.Parting.{parted}
use Rattle.search.proofs.Earliest.{earliest}
use Rattle.search.proofs.Closings.{closings, splittings, proved}
use Rattle.search.proofs.Finding.{found}

pub told : (M : Meaning) → Laws M → (gap : ℕ) (calls : List Call)
    → Told M gap calls (report_of (after M gap fresh calls)) (numbers_of (after M gap fresh calls).held)
told M laws gap calls =
    record {
      sound = sound M laws gap calls;
      as_tally = refl;
      point = refl;
      counted = counted M gap calls;
      parted = parted M laws gap calls;
      held = earliest M laws gap calls;
      closings = closings M gap calls;
      splittings = splittings M gap calls;
      proved = proved M gap calls;
    }

pub finds : (M : Meaning) → Laws M → (gap : ℕ) (calls : List Call)
    → Finds M gap calls (report_of (after M gap fresh calls)) (numbers_of (after M gap fresh calls).held) (answers M gap fresh calls)
finds M laws gap calls = found M gap laws calls
