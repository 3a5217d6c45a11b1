-- What a frontier stands for: the list of open nodes with their full sides, the current one first.
use Rattle.std.specs.Prelude.{◌≡◌, ℕ, ◌+◌, List, [], ◌∷◌, Ok, Err, Result}
use Rattle.family.specs.declared.fault.StateFault.{StateFault}
use Rattle.family.specs.declared.fault.StateFault.TheVariants.{NoNode}
use Rattle.family.specs.declared.side.Side.{Side}
use Rattle.family.specs.declared.sides.Sides as code
use Rattle.family.specs.Reading.{side_of}
use Rattle.search.specs.declared.frontier.Frontier.{Frontier}
use Rattle.search.specs.Nodes.{nodes}
use Rattle.search.specs.Tally.{Sides, all_free, rest, branched}

unfoldable pub nodes_of : Frontier → List Sides
nodes_of f = nodes f.path f.stack f.height

abbrev pub closed_of : Frontier → ℕ
closed_of f = f.closed

abbrev pub splits_of : Frontier → ℕ
splits_of f = f.splits

pub record Rooted (f : Frontier) : Type 0 where
  pub nodes : nodes_of f ≡ all_free ∷ []
  pub closed : closed_of f ≡ 0
  pub splits : splits_of f ≡ 0

-- the current node is closed
pub record Closed (f f' : Frontier) : Type 0 where
  pub nodes : nodes_of f' ≡ rest (nodes_of f)
  pub closed : closed_of f' ≡ closed_of f + 1
  pub splits : splits_of f' ≡ splits_of f

-- the current node gives way to its children
pub record Forked (r : ℕ) (d : Side) (f f' : Frontier) : Type 0 where
  pub nodes : nodes_of f' ≡ branched r d (nodes_of f)
  pub closed : closed_of f' ≡ closed_of f
  pub splits : splits_of f' ≡ splits_of f + 1

-- the sides of the current node, or that no node is open
abbrev pub Current : List Sides → Result code.Sides StateFault → Type 0
Current nodes (Ok s) = nodes ≡ side_of s ∷ rest nodes
Current nodes (Err fault) = (nodes ≡ []) × (fault ≡ NoNode)
