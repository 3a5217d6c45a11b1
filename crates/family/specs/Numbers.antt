-- Lists of whole numbers as functions of an index.
use Rattle.std.specs.Prelude.{◌≡◌, ℕ, ◌≤◌, Bool, false, List, ℤ, pos, negsuc, Result, MatchResult, ◌==◌, ◌≢◌, slice_index_or, unsigned_abs}

-- what stands at index k, and 0 past the end
abbrev pub at : List ℤ → ℕ → ℤ
at xs k = slice_index_or xs k (pos 0)

-- no number of xs is larger than b in absolute value
abbrev pub Small : ℕ → List ℤ → Type 0
Small b xs = (k : ℕ) → unsigned_abs (at xs k) ≤ b

-- r is the case of an enumeration that has the number z; an error where no case has it
abbrev pub Numbered : {T E : Type 0} → (T → ℕ) → ℤ → Result T E → Type 0
Numbered {T} number z r = MatchResult r (λ x. pos (number x) ≡ z) (λ _. (x : T) → pos (number x) ≢ z)

-- whether two numbers are equal
abbrev pub same : ℤ → ℤ → Bool
same (pos a) (pos b) = a == b
same (pos a) (negsuc b) = false
same (negsuc a) (pos b) = false
same (negsuc a) (negsuc b) = a == b
