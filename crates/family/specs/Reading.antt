-- How the rules read the values of this crate. These are words for clauses, and no model in the place of the values: that a denied call leaves
-- a value "equal to what it was" is said of the value itself, which is more than its reading.
use Rattle.std.specs.Prelude.{ℕ, cond, ◌&&◌, ℤ, pos, Some, None, Option, int_le, unsigned_abs}
use Rattle.family.specs.declared.gap.Gap.{Gap}
use Rattle.family.specs.declared.side.Side.{Side}
use Rattle.family.specs.declared.sides.Sides.{Sides}
use Rattle.family.specs.Sides.{side_at}

-- where the row with index k stands fixed; None is free
abbrev pub side_of : Sides → ℕ → Option Side
side_of s k = side_at s.lower s.upper k

abbrev pub gap_value : Gap → ℕ
gap_value g = g.value

-- the gap that a number names
abbrev pub gap_of : ℤ → Option ℕ
gap_of z = cond (int_le (pos 0) z && int_le z (pos 1000000)) (Some (unsigned_abs z)) None
