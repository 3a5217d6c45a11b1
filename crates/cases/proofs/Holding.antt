-- Every example is computed from the definitions.
use Rattle.std.proofs.Common.{refl}
use Rattle.family.specs.Lists.{numbers_fault}
use Rattle.rows.specs.Searches.{first_failing}
use Rattle.rows.specs.Zeros.{all_zero}
use Rattle.cases.specs.Listing.{ExamplesHold}

pub all_hold : ExamplesHold
unfolding numbers_fault first_failing all_zero
all_hold = (refl, (refl, (refl, (refl, (refl, (refl, (refl, (refl, (refl, (refl, (refl, (refl, (refl, (refl, (refl, (refl, (refl, (refl, (refl, (refl, (refl, (refl, (refl, (refl, (refl, tt)))))))))))))))))))))))))
