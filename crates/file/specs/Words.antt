-- The words of a list of bytes: four bytes each, low byte first, in two's complement.
use Rattle.std.specs.Prelude.{ℕ, zero, suc, ◌+◌, ◌*◌, List, [], ◌∷◌, ◌++◌, ℤ, slice_index}
use Rattle.std.specs.Int.{w32, cast_signed}

unfoldable pub of_bytes : ℕ → ℕ → ℕ → ℕ → ℤ
of_bytes a b c d = cast_signed w32 (a + b * 256 + c * 65536 + d * 16777216)

-- word k
abbrev pub word : List ℕ → ℕ → ℤ
word bs k = of_bytes (slice_index bs (4 * k)) (slice_index bs (4 * k + 1)) (slice_index bs (4 * k + 2)) (slice_index bs (4 * k + 3))

-- n words from word k on
unfoldable pub span : (ℕ → ℤ) → ℕ → ℕ → List ℤ
span f k zero = []
span f k (suc n) = span f k n ++ (f (k + n) ∷ [])
