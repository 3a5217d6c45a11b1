use mathlib.Core.Path.{refl}
use Rattle.sums.proofs.Dual.{by_columns, weak_duality}
use Rattle.sums.proofs.duality_holds.Goals as goal

pub returns : goal.returns
returns c = record { exchange = by_columns; weak = weak_duality; answer = refl }
