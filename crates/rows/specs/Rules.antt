-- The rules of rows: values, ends, positions, and which points are admitted. Rows are counted by i < m and
-- quantities by j < n. Sides tell for each row whether it is free (None) or at which end it is fixed; what
-- they tell of a row that is no switch says nothing.
use Rattle.std.specs.Prelude.{◌≡◌, ℕ, ◌+◌, ◌<◌, Bool, true, false, cond, ◌&&◌, ℤ, pos, ◌*ℤ◌, Some, None, Ok, Err, Option, Result, nat_lt}
use Rattle.family.specs.declared.fault.PointFault.{PointFault}
use Rattle.family.specs.declared.fault.PointFault.TheVariants.{NotAdmitted}
use Rattle.family.specs.declared.position.Position.{Position}
use Rattle.family.specs.declared.side.Side.{Side}
use Rattle.family.specs.declared.side.Side.TheVariants.{Lower, Upper}
use Rattle.family.specs.Points.{AnyPoint}
use Rattle.problem.specs.declared.kind.Kind.{Kind}
use Rattle.problem.specs.declared.kind.Kind.TheVariants.{Plain, Switch}
use Rattle.problem.specs.Kinds.{is_switch}
use Rattle.problem.specs.Programs.{Program}
use Rattle.sums.specs.Sums.{dot}
use Rattle.rows.specs.Searches.{first_failing}
use Rattle.rows.specs.Standings.{between, settled, position_of}

-- whether row i is a switch of the problem
abbrev pub switch_at : Program → ℕ → Bool
switch_at P i = cond (nat_lt i P.m) (is_switch (P.kind i)) false

-- V: the value of row i at a point
abbrev pub value : Program → ℕ → AnyPoint → ℤ
value P i x = dot P.n (P.coefficient i) x.p

-- q times an end
abbrev pub scaled : AnyPoint → ℤ → ℤ
scaled x end = pos x.q *ℤ end

-- a point keeps row i when its value lies between q times the ends
abbrev pub keeps : Program → ℕ → AnyPoint → Bool
keeps P i x = between (value P i x) (scaled x (P.lo i)) (scaled x (P.hi i))

-- row i lets the point through: it is kept, and a switch is at an end, a fixed one at its fixed end
abbrev pub lets : Program → ℕ → AnyPoint → Kind → Option Side → Bool
lets P i x Plain side = keeps P i x
lets P i x Switch side = keeps P i x && settled (value P i x) (scaled x (P.lo i)) (scaled x (P.hi i)) side

abbrev pub passes : Program → (ℕ → Option Side) → AnyPoint → ℕ → Bool
passes P s x i = lets P i x (P.kind i) (s i)

-- every row lets the point through
abbrev pub Admitted : Program → (ℕ → Option Side) → AnyPoint → Type 0
Admitted P s x = (i : ℕ) → i < P.m → passes P s x i ≡ true

-- the least of count rows from row i on that stops the point
abbrev pub stopper : Program → (ℕ → Option Side) → AnyPoint → ℕ → ℕ → Option ℕ
stopper P s x = first_failing (passes P s x)

-- a point is admitted, or the least row that stops it is told, counted from 1
abbrev pub told : Option ℕ → Result (Unit {0}) PointFault
told None = Ok tt
told (Some i) = Err (NotAdmitted (i + 1))

abbrev pub admission : Program → (ℕ → Option Side) → AnyPoint → Result (Unit {0}) PointFault
admission P s x = told (stopper P s x 0 P.m)

-- where a switch row stands at a point
abbrev pub position : Program → ℕ → AnyPoint → Position
position P i x = position_of (value P i x) (scaled x (P.lo i)) (scaled x (P.hi i))

-- the ends of row i under sides: both ends of a fixed switch count as its fixed end
abbrev pub fixed_end : Kind → Option Side → ℤ → ℤ → ℤ → ℤ
fixed_end Plain side lo hi free = free
fixed_end Switch None lo hi free = free
fixed_end Switch (Some Lower) lo hi free = lo
fixed_end Switch (Some Upper) lo hi free = hi

abbrev pub low_end : Program → (ℕ → Option Side) → ℕ → ℤ
low_end P s i = fixed_end (P.kind i) (s i) (P.lo i) (P.hi i) (P.lo i)

abbrev pub high_end : Program → (ℕ → Option Side) → ℕ → ℤ
high_end P s i = fixed_end (P.kind i) (s i) (P.lo i) (P.hi i) (P.hi i)
