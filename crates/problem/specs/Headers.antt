-- The list of a header: the number of quantities, the gap and eight cost rates.
use Rattle.std.specs.Prelude.{◌≡◌, ℕ, Bool, cond, List, drop, ℤ, pos, Result, unsigned_abs}
use Rattle.family.specs.declared.fault.ListFault.{ListFault}
use Rattle.family.specs.declared.shape.Shape.TheVariants.{Header as HeaderShape}
use Rattle.family.specs.Lists.{list_fault}
use Rattle.family.specs.Numbers.{at}
use Rattle.problem.specs.declared.header.Header.{Header}

-- how many of the eight rates are no fillers: those of the list's own quantities, and none where costs have no rates
abbrev pub rates_in_use : Bool → List ℤ → ℕ
rates_in_use rated list = cond rated (unsigned_abs (at list 0)) 0

abbrev pub header_fault : Bool → List ℤ → Result (Unit {0}) ListFault
header_fault rated list = list_fault (HeaderShape (rates_in_use rated list)) list

-- a list holds the number of quantities, the gap and then the rates
pub record HasHeader (list : List ℤ) (h : Header) : Type 0 where
  pub n : pos h.n ≡ at list 0
  pub gap : pos h.gap.value ≡ at list 1
  pub rates : h.rates.numbers ≡ drop 2 list
