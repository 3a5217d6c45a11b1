-- The quantities of a point, as they are printed.
use Rattle.std.specs.Prelude.{ℕ, List, ℤ, Some, None, codes, Option}
use Rattle.judge.specs.declared.text.Quantities.{Quantities}
use Rattle.judge.specs.declared.text.Quantity.{Quantity}
use Rattle.judge.specs.Texts.{quantity_in, quantities_text}

abbrev pub quantity_of : ℕ → List ℤ → ℕ → Quantity
quantity_of n numbers j = record { 0 = quantity_in n numbers j }

-- a point after the word, or a dash
abbrev pub told_point : Option Quantities → List ℕ
told_point None = codes " -"
told_point (Some x) = quantities_text x.count x.point
