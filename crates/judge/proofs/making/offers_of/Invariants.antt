use Rattle.std.proofs.Common.{◌≡◌, length, take}
use Rattle.search.specs.Runs.{calls_in}
use Rattle.judge.specs.Problems.{calls_made}
use Rattle.judge.proofs.making.offers_of.Given as goal

abbrev pub invariant-loop-call : goal.invariant-loop-call
invariant-loop-call l = (length l.offers.items ≡ l.call-index) × (calls_in l.offers.items ≡ calls_made (take l.call-index l.call-items))
