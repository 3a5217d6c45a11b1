-- The pair that a cost or a bound stands for.
use Rattle.family.specs.Fractions.{Fraction}
use Rattle.search.specs.declared.ratio.Ratio.{Ratio}

abbrev pub pair_of : Ratio → Fraction
pair_of r = (r.numerator, r.denominator)
