use Rattle.std.proofs.Common.{◌≡◌, drop}
use Rattle.family.specs.Lists.{numbers_fault}
use Rattle.family.proofs.shape.Shape.judge_numbers.Given as goal

-- what is left of the list gives the answer
abbrev pub invariant-loop-index : goal.invariant-loop-index
invariant-loop-index l = numbers_fault l.self 0 l.list ≡ numbers_fault l.self l.index (drop l.index l.list)
