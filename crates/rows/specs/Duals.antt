-- The dual quantities of a proof under sides: column sums, level, and when a proof is void.
use Rattle.std.specs.Prelude.{ℕ, Bool, ◌&&◌, ℤ, pos, Option, int_lt}
use Rattle.family.specs.declared.side.Side.{Side}
use Rattle.problem.specs.Programs.{Program}
use Rattle.sums.specs.Duality.{column, met, level}
use Rattle.rows.specs.Rules.{low_end, high_end}
use Rattle.rows.specs.Zeros.{all_zero}

-- S_j: the sum over the rows of coefficient times multiplier in column j
abbrev pub column_sum : Program → (ℕ → ℤ) → ℕ → ℤ
column_sum P y j = column P.m P.coefficient y j

-- the end of row i under sides that its multiplier meets
abbrev pub met_end : Program → (ℕ → Option Side) → (ℕ → ℤ) → ℕ → ℤ
met_end P s y i = met (y i) (low_end P s i) (high_end P s i)

-- L: the sum over the rows of multiplier times the end that it meets, ends under sides
abbrev pub level_of : Program → (ℕ → Option Side) → (ℕ → ℤ) → ℤ
level_of P s y = level P.m (low_end P s) (high_end P s) y

-- a proof is void when every column sum is 0 and the level is below 0
abbrev pub is_void : Program → (ℕ → Option Side) → (ℕ → ℤ) → Bool
is_void P s y = all_zero P.n (column_sum P y) && int_lt (level_of P s y) (pos 0)
