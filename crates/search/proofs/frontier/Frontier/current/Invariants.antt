use Rattle.std.proofs.Common.{◌≡◌}
use Rattle.family.specs.Reading.{side_of}
use Rattle.search.specs.Nodes.{trail}
use Rattle.search.proofs.frontier.Frontier.current.Given as goal

abbrev pub invariant-loop-row : goal.invariant-loop-row
invariant-loop-row l = side_of l.sides ≡ trail l.row-items l.row-index
