-- The squares cost: the full sum of squares of the quantities, twice the usual half-norm objective.
use Rattle.std.specs.Prelude.{ℕ, ◌*◌, ℤ, pos, Ok, Option, Result}
use Rattle.std.specs.Result.{result_and}
use Rattle.sums.specs.Sums.{dot}
use Rattle.family.specs.declared.fault.PointFault.{PointFault}
use Rattle.family.specs.declared.side.Side.{Side}
use Rattle.family.specs.Fractions.{Fraction}
use Rattle.family.specs.Points.{AnyPoint}
use Rattle.problem.specs.Programs.{Program}
use Rattle.rows.specs.Rules.{admission}

-- the sum of p_j squared
abbrev pub square_sum : Program → AnyPoint → ℤ
square_sum P x = dot P.n x.p x.p

-- the cost of a point, over q squared
abbrev pub cost : Program → AnyPoint → Fraction
cost P x = (square_sum P x, pos (x.q * x.q))

-- a point that is admitted under sides has its cost, and any other is answered by the least row that stops it
abbrev pub price : Program → (ℕ → Option Side) → AnyPoint → Result Fraction PointFault
price P s x = result_and (admission P s x) (Ok (cost P x))
