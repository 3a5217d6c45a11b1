-- What each fault tells: its number, its place (0 where there is none) and its layer.
use Rattle.std.specs.Prelude.{ℕ, List, ◌++◌, codes, decimal}
use Rattle.family.specs.declared.fault.ListFault.TheVariants.{Length, Limit, Filler, Ends, Kind}
use Rattle.family.specs.declared.fault.PointFault.TheVariants.{NotAdmitted}
use Rattle.family.specs.declared.fault.ProofFault.TheVariants.{NotBalanced}
use Rattle.family.specs.declared.fault.StateFault.TheVariants.{NotSwitch, HasRows, Full, NoNode, AlreadyFixed, Weak}
use Rattle.family.specs.declared.fault.Fault.{Fault}
use Rattle.family.specs.declared.fault.Fault.TheVariants.{List as list, Point as point, Proof as proof, State as state}
use Rattle.family.specs.declared.fault.Layer.{Layer}
use Rattle.family.specs.declared.fault.Layer.TheVariants.{List as in_list, Family as in_family, Search as in_search}
use Rattle.family.specs.declared.fault.Denial.{Denial}

abbrev pub told : ℕ → ℕ → Layer → Denial
told number place layer = record { number = number; place = place; layer = layer }

abbrev pub denial_of : Fault → Denial
denial_of (list Length) = told 1 0 in_list
denial_of (list (Limit place)) = told 2 place in_list
denial_of (list (Filler place)) = told 3 place in_list
denial_of (list Ends) = told 4 3 in_list
denial_of (list Kind) = told 5 1 in_list
denial_of (point (NotAdmitted row)) = told 7 row in_family
denial_of (proof (NotBalanced column)) = told 8 column in_family
denial_of (state NotSwitch) = told 9 1 in_search
denial_of (state HasRows) = told 10 0 in_search
denial_of (state Full) = told 11 0 in_search
denial_of (state NoNode) = told 12 0 in_search
denial_of (state AlreadyFixed) = told 13 1 in_search
denial_of (state Weak) = told 14 0 in_search

-- what is printed of a denial
abbrev pub denial_text : Denial → List ℕ
denial_text d = codes "denied " ++ (decimal d.number ++ (codes " " ++ decimal d.place))
