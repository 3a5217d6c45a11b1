use Rattle.std.proofs.Common.{refl, lit≤}
use Rattle.search.specs.Nodes.{free_rows}
use Rattle.search.specs.View.{nodes_of}
use Rattle.search.proofs.frontier.Frontier.root.Goals as goal

pub invariant_of-result-4 : goal.invariant_of-result-4
unfolding free_rows
invariant_of-result-4 c = record { low = lit≤ tt; sound = refl; weighed = lit≤ tt; counted = refl }

pub returns : goal.returns
unfolding nodes_of
returns c = record { nodes = refl; closed = refl; splits = refl }
