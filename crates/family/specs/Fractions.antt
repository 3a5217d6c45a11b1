-- Costs and bounds are fractions: a pair of a numerator and a positive denominator, not reduced. They are
-- compared by cross products.
use Rattle.std.specs.Fmt.{signed_decimal}
use Rattle.std.specs.Prelude.{ℕ, ◌≤◌, List, ◌++◌, codes, Bool, ℤ, pos, ◌-ℤ◌, ◌*ℤ◌, ◌≤ℤ◌, int_le, int_lt, unsigned_abs}

abbrev pub Fraction : Type 0
Fraction = ℤ × ℤ

-- a is at most b
abbrev pub at_most : Fraction → Fraction → Bool
at_most a b = int_le (a.0 *ℤ b.1) (b.0 *ℤ a.1)

-- a is strictly cheaper than b
abbrev pub cheaper : Fraction → Fraction → Bool
cheaper a b = int_lt (a.0 *ℤ b.1) (b.0 *ℤ a.1)

-- a cost less the gap g
abbrev pub lessened : ℕ → Fraction → Fraction
lessened g c = (c.0 -ℤ pos g *ℤ c.1, c.1)

-- a bound closes a node against a held cost: it is at least that cost less the gap
abbrev pub closes : ℕ → Fraction → Fraction → Bool
closes g bound held = at_most (lessened g held) bound

-- within the limits of what a family answers to an offer
pub record Fair (c : Fraction) : Type 0 where
  pub numerator : unsigned_abs c.0 ≤ 8000000000000
  pub positive : pos 1 ≤ℤ c.1
  pub denominator : c.1 ≤ℤ pos 1000000

-- what is printed of a cost or a bound
abbrev pub fraction_text : Fraction → List ℕ
fraction_text x = signed_decimal x.0 ++ (codes "/" ++ signed_decimal x.1)
