use Rattle.std.proofs.Common.{◌≡◌, length}
use Rattle.family.specs.Reading.{gap_value}
use Rattle.search.proofs.Turns.{SoFar}
use Rattle.search.proofs.run.run.Given as goal

abbrev pub invariant-loop-index : goal.invariant-loop-index
invariant-loop-index g l =
    (length l.outcomes ≡ length l.offers) × (l.search.family ≡ l.initial.search.family) × (l.search.gap ≡ l.initial.search.gap)
    × SoFar (g.F.Family.meaning l.initial.search.family) (gap_value l.initial.search.gap) l.offers l.index l.search.inner l.outcomes
