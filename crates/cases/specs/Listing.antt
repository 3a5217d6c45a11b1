-- The examples. Rows are numbered from 1 in the comments and from 0 in `at_lower` and `at_upper`.
use Rattle.std.specs.Prelude.{◌≡◌, ℕ, true, false, List, [], ◌∷◌, ℤ, pos, negsuc, None, Option}
use Rattle.family.specs.declared.side.Side.{Side}
use Rattle.family.specs.declared.side.Side.TheVariants.{Lower, Upper}
use Rattle.family.specs.Fractions.{Fraction}
use Rattle.family.specs.Sides.{fixed}
use Rattle.problem.specs.Programs.{Program}
use Rattle.cases.specs.Samples.{sample, Costs, squares, rated, Question, price, beats, show, shuts, Answer, costs, bounds, void, denied, decided, answer}

pub record Example : Type 0 where
  pub problem : Program
  pub family : Costs
  pub sides : ℕ → Option Side
  pub question : Question
  pub expected : Answer

abbrev root : ℕ → Option Side
root i = None

abbrev at_lower : ℕ → ℕ → Option Side
at_lower r = fixed root r Lower

abbrev at_upper : ℕ → ℕ → Option Side
at_upper r = fixed root r Upper

abbrev example : ℤ → Costs → (ℕ → Option Side) → Question → Answer → Example
example start family sides question expected = record { problem = sample start; family = family; sides = sides; question = question; expected = expected }

-- rates 2 and 1
abbrev two_one : Costs
two_one = rated (pos 2 ∷ (pos 1 ∷ []))

abbrev over : ℤ → ℤ → Fraction
over a b = (a, b)

abbrev one : ℤ → List ℤ
one a = a ∷ []

abbrev two : ℤ → ℤ → List ℤ
two a b = a ∷ (b ∷ [])

abbrev three : ℤ → ℤ → ℤ → List ℤ
three a b c = a ∷ (b ∷ (c ∷ []))

abbrev four : ℤ → ℤ → ℤ → ℤ → List ℤ
four a b c d = a ∷ (b ∷ (c ∷ (d ∷ [])))

abbrev pub listing : List Example
listing =
    -- the least-squares sample
    example (pos 3) squares root (price (three (pos 1) (pos 3) (pos 0))) (costs (over (pos 9) (pos 1)))
    ∷ (example (pos 3) squares root (price (three (pos 2) (pos 6) (pos 0))) (costs (over (pos 36) (pos 4)))
    ∷ (example (pos 3) squares root (beats (over (pos 9) (pos 1)) (three (pos 2) (pos 6) (pos 0))) (decided false)
    ∷ (example (pos 3) squares root (price (three (pos 1) (pos 0) (pos 0))) (denied 7 3)
    ∷ (example (pos 3) squares root (price (three (pos 2) (pos 3) (pos 3))) (denied 7 1)
    ∷ (example (pos 3) squares root (show (four (pos 2) (pos 0) (pos 0) (negsuc 2))) (bounds (over (pos 18) (pos 4)))
    ∷ (example (pos 3) squares root (shuts 4 (over (pos 9) (pos 1)) (four (pos 2) (pos 0) (pos 0) (negsuc 2))) (decided false)
    ∷ (example (pos 3) squares root (shuts 5 (over (pos 9) (pos 1)) (four (pos 2) (pos 0) (pos 0) (negsuc 2))) (decided true)
    ∷ (example (pos 3) squares root (show (four (pos 1) (pos 3) (pos 0) (negsuc 2))) (bounds (over (negsuc 8) (pos 1)))
    ∷ (example (pos 3) squares (at_lower 0) (show (four (pos 1) (pos 3) (pos 0) (negsuc 2))) (bounds (over (pos 9) (pos 1)))
    ∷ (example (pos 3) squares root (show (two (pos 1) (negsuc 2))) (bounds (over (negsuc 8) (pos 1)))
    ∷ (example (pos 3) squares (at_upper 0) (show (two (pos 1) (negsuc 2))) (bounds (over (pos 9) (pos 1)))
    ∷ (example (pos 8) squares root (show (four (pos 1) (pos 1) (pos 1) (negsuc 0))) void
    ∷ (example (pos 7) squares root (show (four (pos 1) (pos 1) (pos 1) (negsuc 0))) (bounds (over (pos 0) (pos 1)))
    -- the sample with linear costs, rates 2 and 1
    ∷ (example (pos 3) two_one root (price (three (pos 1) (pos 0) (pos 4))) (costs (over (pos 4) (pos 1)))
    ∷ (example (pos 3) two_one root (show (four (pos 1) (negsuc 0) (pos 0) (negsuc 0))) (bounds (over (pos 3) (pos 1)))
    ∷ (example (pos 3) two_one root (show (one (pos 1))) (denied 8 1)
    ∷ (example (pos 3) two_one (at_lower 1) (show (four (pos 1) (pos 0) (pos 1) (negsuc 1))) (bounds (over (pos 6) (pos 1)))
    ∷ (example (pos 3) two_one root (show (three (pos 1) (negsuc 1) (negsuc 0))) (bounds (over (pos 0) (pos 1)))
    ∷ (example (pos 3) two_one (at_upper 1) (show (three (pos 1) (negsuc 1) (negsuc 0))) (bounds (over (pos 4) (pos 1)))
    -- the scale's limits
    ∷ (example (pos 3) squares root (show (one (pos 1000))) (bounds (over (pos 0) (pos 1000000)))
    ∷ (example (pos 3) squares root (show (one (pos 0))) (denied 2 1)
    ∷ (example (pos 3) squares root (show (one (pos 1001))) (denied 2 1)
    ∷ (example (pos 3) two_one root (show (one (pos 0))) (denied 2 1)
    ∷ (example (pos 3) two_one root (show (one (pos 1001))) (denied 2 1)
    ∷ []))))))))))))))))))))))))

-- every example of a list holds of the definitions
abbrev pub Hold : List Example → Type 0
Hold [] = Unit {0}
Hold (e ∷ es) = (answer e.family e.problem e.sides e.question ≡ e.expected) × Hold es

abbrev pub ExamplesHold : Type 0
ExamplesHold = Hold listing
