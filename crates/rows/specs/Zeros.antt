-- Tests of the first n numbers of a sequence.
use Rattle.std.specs.Prelude.{ℕ, zero, suc, Bool, true, false, cond, ℤ, pos}
use Rattle.family.specs.Numbers.{same}

-- the first n numbers are 0
unfoldable pub all_zero : ℕ → (ℕ → ℤ) → Bool
all_zero zero f = true
all_zero (suc n) f = cond (all_zero n f) (same (f n) (pos 0)) false
