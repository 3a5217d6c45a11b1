-- Trees of splits with a proof at each leaf, and what a search does with the calls of a complete one.
use Rattle.std.specs.Prelude.{◌≡◌, ℕ, ◌+◌, true, List, [], ◌∷◌, ◌++◌, reverse, ℤ, pos, IsOkAnd, Some, None, Ok, Option, Result}
use Rattle.family.specs.declared.fault.Fault.{Fault}
use Rattle.family.specs.declared.judgement.Judgement.{Judgement}
use Rattle.family.specs.declared.shape.Shape.TheVariants.{Proof as ProofShape}
use Rattle.family.specs.declared.side.Side.{Side}
use Rattle.family.specs.Lists.{list_fault}
use Rattle.family.specs.Meaning.{Meaning}
use Rattle.family.specs.Points.{proof_in}
use Rattle.family.specs.Sides.{fixed, side_number}
use Rattle.search.specs.declared.outcome.Accepted.{Accepted}
use Rattle.search.specs.declared.report.Report.{Report}
use Rattle.search.specs.Tally.{Sides, all_free, Call, point, proof, split, Held, shuts, opening_order, verdict_of, cost_of, numbers_of}
use Rattle.search.specs.Claims.{AdmittedAt, Every}

-- a leaf with a proof, or a row, the side to name and a tree for each position of the row
pub data Tree : Type 0 where
  leaf : List ℤ → Tree
  fork : ℕ → Side → (Side → Tree) → Tree

abbrev pub joined : (Side → List Call) → List Side → List Call
joined f [] = []
joined f (d ∷ ds) = f d ++ joined f ds

-- the calls of a tree: the leaf's proof, or the split and then the calls of each child as it becomes current: the
-- child opened last comes first
abbrev pub calls_of : Tree → List Call
calls_of (leaf list) = proof list ∷ []
calls_of (fork r d child) = split (pos (r + 1)) (pos (side_number d)) ∷ joined (λ e. calls_of (child e)) (reverse (opening_order d))

-- the proof in a list, within the limits, closes a node of these sides while a point, or none, is held
pub record Closes (M : Meaning) (gap : ℕ) (held : Option Held) (s : Sides) (list : List ℤ) : Type 0 where
  pub fine : list_fault (ProofShape M.m) list ≡ Ok tt
  pub judgement : Judgement
  pub shown : M.judge_proof s (proof_in list) ≡ Ok judgement
  pub shut : shuts gap held judgement ≡ true

-- a tree begun at the sides s is complete while a point, or none, is held: each fork is at a free switch row, and
-- each leaf's proof closes
abbrev pub Complete : Meaning → ℕ → Option Held → Sides → Tree → Type 0
Complete M gap held s (leaf list) = Closes M gap held s list
Complete M gap held s (fork r d child) =
    (M.switch r ≡ true) × (s r ≡ None) × ((e : Side) → Complete M gap held (fixed s r e) (child e))

-- an admitted point within the limits, or none
abbrev pub Offerable : Meaning → Option Held → Type 0
Offerable M None = Unit {0}
Offerable M (Some held) = AdmittedAt M held.cost held.numbers

-- the point, if there is one
abbrev pub offering : Option Held → List Call
offering None = []
offering (Some held) = point held.numbers ∷ []

abbrev pub Accepts : Result Accepted Fault → Type 0
Accepts r = IsOkAnd r (λ a. Unit {0})

-- the end of a search that was offered a point, or none, and a complete tree for it
pub record Settled (held : Option Held) (report : Report) (numbers : List ℤ) (answers : List (Result Accepted Fault)) : Type 0 where
  -- no call is denied
  pub accepted : Every Accepts answers
  -- best with that point, or none, and no node is open
  pub verdict : report.verdict ≡ verdict_of [] held
  pub cost : report.cost ≡ cost_of held
  pub point : numbers ≡ numbers_of held
  pub done : report.«open» ≡ 0

-- whatever complete tree the calls are of, the search ends as it should
abbrev pub Finds : Meaning → ℕ → List Call → Report → List ℤ → List (Result Accepted Fault) → Type 0
Finds M gap calls report numbers answers =
    (held : Option Held) (tree : Tree) → Offerable M held → Complete M gap held all_free tree
    → calls ≡ offering held ++ calls_of tree → Settled held report numbers answers
