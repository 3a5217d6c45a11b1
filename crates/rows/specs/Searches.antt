-- The first number at which a test fails.
use Rattle.std.specs.Prelude.{ℕ, zero, suc, ◌+◌, Bool, cond, Some, None, Option}

-- the least of count numbers from i on at which a test fails
unfoldable pub first_failing : (ℕ → Bool) → ℕ → ℕ → Option ℕ
first_failing test i zero = None
first_failing test i (suc count) = cond (test i) (first_failing test (i + 1) count) (Some i)
