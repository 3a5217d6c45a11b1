-- The linear cost: the sum of rate times quantity. The rates are counted by j < n.
use Rattle.std.specs.Prelude.{ℕ, ℤ, pos, Ok, Option, Result}
use Rattle.std.specs.Result.{result_and}
use Rattle.sums.specs.Sums.{dot}
use Rattle.family.specs.declared.fault.PointFault.{PointFault}
use Rattle.family.specs.declared.side.Side.{Side}
use Rattle.family.specs.Fractions.{Fraction}
use Rattle.family.specs.Points.{AnyPoint}
use Rattle.problem.specs.Programs.{Program}
use Rattle.rows.specs.Rules.{admission}

-- the sum of c_j times p_j
abbrev pub rated_sum : Program → (ℕ → ℤ) → AnyPoint → ℤ
rated_sum P rates x = dot P.n rates x.p

-- the cost of a point, over q
abbrev pub cost : Program → (ℕ → ℤ) → AnyPoint → Fraction
cost P rates x = (rated_sum P rates x, pos x.q)

-- a point that is admitted under sides has its cost, and any other is answered by the least row that stops it
abbrev pub price : Program → (ℕ → ℤ) → (ℕ → Option Side) → AnyPoint → Result Fraction PointFault
price P rates s x = result_and (admission P s x) (Ok (cost P rates x))
