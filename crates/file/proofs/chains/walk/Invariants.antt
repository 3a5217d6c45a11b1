use Rattle.std.proofs.Common.{◌≡◌, ◌-◌, ◌<◌, ◌≤◌, length}
use Rattle.file.specs.Chains.{chained}
use Rattle.file.specs.Walks.{reached_in, words_in, first_word, walked}
use Rattle.file.proofs.chains.walk.Given as goal

-- the rest of the chain gives the answer, and what takes up room came with a record
abbrev pub invariant-loop-k : goal.invariant-loop-k
invariant-loop-k g l =
    (l.r < l.records.count) × (l.w < 20) × (g.T.Grows.size (g.T.Grows.seen l.into) ≤ length (reached_in l.reached))
    × (walked (g.T.Grows.added (words_in l.records)) (words_in l.records) l.records.count (reached_in l.initial.reached) (g.T.Grows.seen l.initial.into) (first_word l.fn.chain)
    ≡ chained (g.T.Grows.added (words_in l.records)) (words_in l.records) l.records.count (819 - length (reached_in l.reached)) (reached_in l.reached) (g.T.Grows.seen l.into) l.r l.w)

abbrev pub decreases-loop-k : goal.decreases-loop-k
decreases-loop-k g l = 819 - length (reached_in l.reached)
