-- The kinds of rows.
use Rattle.std.specs.Prelude.{◌≡◌, ℕ, Bool, true, false, ℤ, pos, Result, MatchResult, ◌≢◌}
use Rattle.family.specs.declared.fault.ListFault.{ListFault}
use Rattle.family.specs.declared.fault.ListFault.TheVariants.{Kind as UnknownKind}
use Rattle.problem.specs.declared.kind.Kind.{Kind}
use Rattle.problem.specs.declared.kind.Kind.TheVariants.{Plain, Switch}

-- the number that stands for a kind in a list
abbrev pub kind_number : Kind → ℕ
kind_number Plain = 1
kind_number Switch = 2

abbrev pub is_switch : Kind → Bool
is_switch Plain = false
is_switch Switch = true

-- r is the kind that has the number z, or the fault of a row whose kind is unknown where no kind has it
abbrev pub KindRead : ℤ → Result Kind ListFault → Type 0
KindRead z r = MatchResult r (λ kind. pos (kind_number kind) ≡ z) (λ fault. (fault ≡ UnknownKind) × ((kind : Kind) → pos (kind_number kind) ≢ z))
