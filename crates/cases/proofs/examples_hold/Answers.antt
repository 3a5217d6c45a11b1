use Rattle.std.proofs.Common.{refl}
use Rattle.cases.proofs.Holding.{all_hold}
use Rattle.cases.proofs.examples_hold.Goals as goal

pub returns : goal.returns
returns c = record { hold = all_hold; count = refl }
