-- The list of a row: a kind, two ends and eight coefficients.
use Rattle.std.specs.Prelude.{◌≡◌, ℕ, Bool, false, cond, ◌||◌, List, drop, ℤ, pos, negsuc, Ok, Err, Result, ◌==◌, int_le}
use Rattle.std.specs.Result.{result_and}
use Rattle.family.specs.declared.fault.ListFault.{ListFault}
use Rattle.family.specs.declared.fault.ListFault.TheVariants.{Ends, Kind as UnknownKind}
use Rattle.family.specs.declared.shape.Shape.TheVariants.{Row as RowShape}
use Rattle.family.specs.Lists.{length_fault, numbers_fault}
use Rattle.family.specs.Numbers.{at}
use Rattle.problem.specs.declared.new_row.NewRow.{NewRow}
use Rattle.problem.specs.declared.kind.Kind.TheVariants.{Plain, Switch}
use Rattle.problem.specs.Kinds.{kind_number}

-- whether a number stands for a kind
abbrev pub known_kind : ℤ → Bool
known_kind (pos n) = n == kind_number Plain || n == kind_number Switch
known_kind (negsuc n) = false

abbrev pub kind_fault : ℤ → Result (Unit {0}) ListFault
kind_fault z = cond (known_kind z) (Ok tt) (Err UnknownKind)

abbrev pub ends_fault : ℤ → ℤ → Result (Unit {0}) ListFault
ends_fault lo hi = cond (int_le lo hi) (Ok tt) (Err Ends)

-- the fault of a row's list: its length, its kind, its numbers, the order of its ends
abbrev pub row_fault : ℕ → List ℤ → Result (Unit {0}) ListFault
row_fault n list =
    result_and (length_fault (RowShape n) list)
    (result_and (kind_fault (at list 0)) (result_and (numbers_fault (RowShape n) 0 list) (ends_fault (at list 1) (at list 2))))

-- a list holds a kind, the ends and then the coefficients
pub record HasRow (list : List ℤ) (r : NewRow) : Type 0 where
  pub kind : pos (kind_number r.row.kind) ≡ at list 0
  pub lo : r.row.lo ≡ at list 1
  pub hi : r.row.hi ≡ at list 2
  pub coefficients : r.coefficients.numbers ≡ drop 3 list
