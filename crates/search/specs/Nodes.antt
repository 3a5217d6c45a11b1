-- The open nodes that a stack and a path stand for.
use Rattle.std.specs.Prelude.{◌≡◌, ℕ, zero, suc, ◌+◌, ◌-◌, ◌^◌, ◌≤◌, Bool, true, cond, ◌&&◌, List, [], ◌∷◌, ℤ, pos, negsuc, ◌==◌, nat_le, slice_index_or}
use Rattle.std.proofs.Common.{lit≤}
use Rattle.family.specs.declared.side.Side.{Side}
use Rattle.family.specs.declared.side.Side.TheVariants.{Lower, Upper}
use Rattle.family.specs.Sides.{fixed}
use Rattle.search.specs.declared.frontier.node.Node.{Node}
use Rattle.search.specs.declared.frontier.signed_row.SignedRow.{SignedRow}
use Rattle.search.specs.Tally.{Sides, all_free, is_free}

-- the signed row that fixes the row with index r at a side
abbrev pub signed_row : ℕ → Side → ℤ
signed_row r Lower = negsuc r
signed_row r Upper = pos (suc r)

-- the other side
abbrev pub across : Side → Side
across Lower = Upper
across Upper = Lower

-- sides with what a signed row fixes; 0 fixes nothing
abbrev pub turned : Sides → ℤ → Sides
turned s (pos zero) = s
turned s (pos (suc r)) = fixed s r Upper
turned s (negsuc r) = fixed s r Lower

-- the signed row that fixes nothing
abbrev pub nowhere : SignedRow
nowhere = record { number = pos 0; small = lit≤ tt }

abbrev pub root : Node
root = record { row = nowhere; depth = 0; shallow = lit≤ tt }

-- what the first n signed rows of a path fix
abbrev pub trail : List SignedRow → ℕ → Sides
trail path zero = all_free
trail path (suc n) = turned (trail path n) (slice_index_or path n nowhere).number

-- the sides of a node: those of the path down to it, and its own
abbrev pub sides_at : List SignedRow → Node → Sides
sides_at path node = turned (trail path node.depth) node.row.number

-- the first n of a stack, the top first
abbrev pub nodes : List SignedRow → List Node → ℕ → List Sides
nodes path stack zero = []
nodes path stack (suc n) = sides_at path (slice_index_or stack n root) ∷ nodes path stack n

-- how many of the first n rows are free
unfoldable pub free_rows : ℕ → Sides → ℕ
free_rows zero s = 0
free_rows (suc n) s = cond (is_free (s n)) 1 0 + free_rows n s

-- each node is at least as deep as it stands high, no deeper than b or than the one above it, and has a free row
-- for each level that is left
abbrev pub Sane : List SignedRow → List Node → ℕ → ℕ → Type 0
Sane path stack b zero = Unit {0}
Sane path stack b (suc n) =
    let node = slice_index_or stack n root in
    (n ≤ node.depth) × (node.depth ≤ b) × (node.depth + free_rows 16 (sides_at path node) ≡ 16) × Sane path stack node.depth n

-- the same as a test
abbrev pub sane : List SignedRow → List Node → ℕ → ℕ → Bool
sane path stack b zero = true
sane path stack b (suc n) =
    let node = slice_index_or stack n root in
    nat_le n node.depth && (nat_le node.depth b && (node.depth + free_rows 16 (sides_at path node) == 16 && sane path stack node.depth n))

-- how many leaves the open nodes can still have
abbrev pub weight : List Node → ℕ → ℕ
weight stack zero = 0
weight stack (suc n) = 2 ^ (16 - (slice_index_or stack n root).depth) + weight stack n
