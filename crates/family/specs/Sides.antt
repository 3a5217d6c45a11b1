-- The side of a row by two masks of sixteen bits.
use Rattle.std.specs.Prelude.{ℕ, ◌/◌, ◌%◌, ◌^◌, cond, Some, None, Option, ◌==◌}
use Rattle.family.specs.declared.side.Side.{Side}
use Rattle.family.specs.declared.side.Side.TheVariants.{Lower, Upper}

-- the number that stands for a side in an offer
abbrev pub side_number : Side → ℕ
side_number Lower = 0
side_number Upper = 1

-- bit k of n, 0 or 1
abbrev pub bit : ℕ → ℕ → ℕ
bit n k = n / 2 ^ k % 2

abbrev pub by_bits : ℕ → ℕ → Option Side
by_bits l u = cond (l == 1) (Some Lower) (cond (u == 1) (Some Upper) None)

-- what the masks lower and upper say of the row with index k
abbrev pub side_at : ℕ → ℕ → ℕ → Option Side
side_at lower upper k = by_bits (bit lower k) (bit upper k)

-- sides, as a choice for each row, with the row r fixed at d
abbrev pub fixed : (ℕ → Option Side) → ℕ → Side → ℕ → Option Side
fixed s r d k = cond (k == r) (Some d) (s k)
