-- The numbers of families and of kinds of calls.
use Rattle.std.specs.Prelude.{ℕ}
use Rattle.file.specs.declared.kinds.CallKind.{CallKind}
use Rattle.file.specs.declared.kinds.CallKind.TheVariants.{Point, Proof, Split}
use Rattle.file.specs.declared.kinds.FamilyKind.{FamilyKind}
use Rattle.file.specs.declared.kinds.FamilyKind.TheVariants.{Squares, Linear}

abbrev pub family_number : FamilyKind → ℕ
family_number Squares = 1
family_number Linear = 2

abbrev pub call_number : CallKind → ℕ
call_number Point = 3
call_number Proof = 4
call_number Split = 5
