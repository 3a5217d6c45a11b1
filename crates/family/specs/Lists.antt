-- What may stand in each list, and the fault of a list: the first faulty number from the left decides.
-- Numbers of a list go by their index, counted from 0; a fault tells the place, which is the index and 1.
use Rattle.std.specs.Prelude.{◌≡◌, ℕ, ◌+◌, ◌-◌, Bool, false, cond, ◌&&◌, List, [], ◌∷◌, length, ℤ, pos, negsuc, neg_ℤ, Some, None, Ok, Err, Option, Result, MatchResult, ◌==◌, int_le, nat_lt}
use Rattle.std.specs.Result.{result_and}
use Rattle.family.specs.declared.fault.ListFault.{ListFault}
use Rattle.family.specs.declared.fault.ListFault.TheVariants.{Length, Limit, Filler}
use Rattle.family.specs.declared.shape.Limits.{Limits}
use Rattle.family.specs.declared.shape.Shape.{Shape}
use Rattle.family.specs.declared.shape.Shape.TheVariants.{Point, Proof, Header, Row}

abbrev pub length_of : Shape → ℕ
length_of (Point quantities) = 9
length_of (Proof rows) = 17
length_of (Header rates) = 10
length_of (Row quantities) = 11

abbrev pub from_to : ℤ → ℤ → Limits
from_to low high = record { low = low; high = high }

-- from -bound to bound
abbrev pub around : ℤ → Limits
around bound = from_to (neg_ℤ bound) bound

-- limits for count places from the index first on, and fillers after those
abbrev pub in_use : ℕ → ℕ → ℕ → ℤ → Option Limits
in_use first count index bound = cond (nat_lt (index - first) count) (Some (around bound)) None

-- what may stand at an index of a list; None for a filler
abbrev pub limits_at : Shape → ℕ → Option Limits
limits_at (Point quantities) index =
    cond (index == 0) (Some (from_to (pos 1) (pos 1000))) (in_use 1 quantities index (pos 1000000))
limits_at (Proof rows) index =
    cond (index == 0) (Some (from_to (pos 1) (pos 1000))) (in_use 1 rows index (pos 1000))
limits_at (Header rates) index =
    cond (index == 0) (Some (from_to (pos 1) (pos 8)))
    (cond (index == 1) (Some (from_to (pos 0) (pos 1000000))) (in_use 2 rates index (pos 50)))
limits_at (Row quantities) index =
    cond (index == 0) (Some (from_to (pos 1) (pos 2)))
    (cond (nat_lt index 3) (Some (around (pos 10000))) (in_use 3 quantities index (pos 50)))

abbrev pub within : Limits → ℤ → Bool
within limits z = int_le limits.low z && int_le z limits.high

abbrev pub is_zero : ℤ → Bool
is_zero (pos n) = n == 0
is_zero (negsuc n) = false

-- the fault of one number
abbrev pub number_fault : Option Limits → ℤ → ℕ → Result (Unit {0}) ListFault
number_fault None z place = cond (is_zero z) (Ok tt) (Err (Filler place))
number_fault (Some limits) z place = cond (within limits z) (Ok tt) (Err (Limit place))

abbrev pub length_fault : Shape → List ℤ → Result (Unit {0}) ListFault
length_fault shape list = cond (length list == length_of shape) (Ok tt) (Err Length)

-- the first fault among numbers of which the first has this index
unfoldable pub numbers_fault : Shape → ℕ → List ℤ → Result (Unit {0}) ListFault
numbers_fault shape index [] = Ok tt
numbers_fault shape index (z ∷ zs) =
    result_and (number_fault (limits_at shape index) z (index + 1)) (numbers_fault shape (index + 1) zs)

-- the fault of a list: its length, then its numbers
abbrev pub list_fault : Shape → List ℤ → Result (Unit {0}) ListFault
list_fault shape list = result_and (length_fault shape list) (numbers_fault shape 0 list)

-- a list without a fault is read as a value x with P x, and any other is answered by its fault
abbrev pub Read : {T : Type 0} → Result (Unit {0}) ListFault → (T → Type 0) → Result T ListFault → Type 0
Read fault P r = MatchResult r (λ x. (fault ≡ Ok tt) × P x) (λ e. fault ≡ Err e)
