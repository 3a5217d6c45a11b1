-- Where a value v stands between low and high.
use Rattle.std.specs.Prelude.{Bool, cond, ◌&&◌, ◌||◌, ℤ, pos, ◌+ℤ◌, ◌*ℤ◌, Some, None, Option, int_le}
use Rattle.family.specs.declared.position.Position.{Position}
use Rattle.family.specs.declared.position.Position.TheVariants.{AtBoth, AtLower, AtUpper, NearLower, NearUpper}
use Rattle.family.specs.declared.side.Side.{Side}
use Rattle.family.specs.declared.side.Side.TheVariants.{Lower, Upper}
use Rattle.family.specs.Numbers.{same}

-- v lies between them
abbrev pub between : ℤ → ℤ → ℤ → Bool
between v low high = int_le low v && int_le v high

-- v is at an end
abbrev pub at_end : ℤ → ℤ → ℤ → Side → Bool
at_end v low high Lower = same v low
at_end v low high Upper = same v high

-- v is where a switch has to be: at an end where it is free (None), at its fixed end where it is fixed
abbrev pub settled : ℤ → ℤ → ℤ → Option Side → Bool
settled v low high None = same v low || same v high
settled v low high (Some side) = at_end v low high side

-- at both ends, at lower only, at upper only, else nearer lower when v is at most half way, else nearer upper
abbrev pub position_of : ℤ → ℤ → ℤ → Position
position_of v low high =
    cond (same v low) (cond (same v high) AtBoth AtLower)
    (cond (same v high) AtUpper (cond (int_le (pos 2 *ℤ v) (low +ℤ high)) NearLower NearUpper))
