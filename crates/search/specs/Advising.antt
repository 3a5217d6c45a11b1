-- Which row to split at, by a point that a solver gives for the current node.
use Rattle.std.specs.Prelude.{ℕ, zero, suc, ◌+◌, cond, ◌&&◌, List, ℤ, Some, None, Ok, Option, Result}
use Rattle.std.specs.Option.{option_map, option_or}
use Rattle.std.specs.Result.{result_and}
use Rattle.family.specs.declared.fault.Fault.{Fault}
use Rattle.family.specs.declared.position.Position.{Position}
use Rattle.family.specs.declared.position.Position.TheVariants.{AtBoth, AtLower, AtUpper, NearLower, NearUpper}
use Rattle.family.specs.declared.shape.Shape.TheVariants.{Point as PointShape}
use Rattle.family.specs.declared.side.Side.{Side}
use Rattle.family.specs.declared.side.Side.TheVariants.{Lower, Upper}
use Rattle.family.specs.Lists.{list_fault}
use Rattle.family.specs.Meaning.{Meaning}
use Rattle.family.specs.Points.{AnyPoint, point_in}
use Rattle.search.specs.declared.advice.Advice.{Advice}
use Rattle.search.specs.Tally.{Sides, is_free, list_judged, at_current}

-- the nearer side of a row that stands at no end
abbrev pub nearer : Position → Option Side
nearer AtBoth = None
nearer AtLower = None
nearer AtUpper = None
nearer NearLower = Some Lower
nearer NearUpper = Some Upper

-- the side to name where the row with index r is a switch, free under the sides and at no end
abbrev pub advised_at : Meaning → Sides → AnyPoint → ℕ → Option Side
advised_at M s x r = cond (M.switch r && is_free (s r)) (nearer (M.position r x)) None

abbrev pub at_row : ℕ → Side → Advice
at_row r d = record { row = r + 1; side = d }

-- the least such row of n from index r on
unfoldable pub least_from : Meaning → Sides → AnyPoint → ℕ → ℕ → Option Advice
least_from M s x r zero = None
least_from M s x r (suc n) = option_or (option_map (at_row r) (advised_at M s x r)) (least_from M s x (r + 1) n)

abbrev pub advice : Meaning → List Sides → List ℤ → Result (Option Advice) Fault
advice M nodes list =
    result_and (list_judged (list_fault (PointShape M.n) list))
    (at_current nodes (λ s. Ok (least_from M s (point_in list) 0 M.m)))
