-- What each fault of a file tells: its number, its record, its place and its layer.
use Rattle.std.specs.Prelude.{ℕ, List, ◌++◌, codes, decimal}
use Rattle.family.specs.declared.fault.Layer.{Layer}
use Rattle.family.specs.declared.fault.Layer.TheVariants.{File as in_file}
use Rattle.family.specs.Denials.{denial_of}
use Rattle.file.specs.declared.fault.FileFault.{FileFault}
use Rattle.file.specs.declared.fault.FileFault.TheVariants.{Length, Unused, Kind, Family, Link, Inside}
use Rattle.file.specs.declared.fault.Refusal.{Refusal}

abbrev pub told : ℕ → ℕ → ℕ → Layer → Refusal
told number at place layer = record { number = number; at = at; place = place; layer = layer }

-- what the reader itself finds is of the layer file, and its places are words from 0; a fault below keeps its own
abbrev pub refusal_of : FileFault → Refusal
refusal_of Length = told 1 0 0 in_file
refusal_of (Unused at word) = told 3 at word in_file
refusal_of (Kind at) = told 5 at 1 in_file
refusal_of Family = told 5 0 2 in_file
refusal_of (Link at word) = told 6 at word in_file
refusal_of (Inside inside) =
    let below = denial_of inside.fault in
    told below.number inside.at below.place below.layer

-- what is printed of a file that is refused
abbrev pub refused_text : FileFault → List ℕ
refused_text fault =
    codes "refused " ++ (decimal (refusal_of fault).number ++ (codes " " ++ (decimal (refusal_of fault).at ++ (codes " " ++ decimal (refusal_of fault).place))))
