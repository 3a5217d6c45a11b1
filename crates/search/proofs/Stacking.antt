-- The stack and the path: what a write leaves, and what a close and a split do.
use Rattle.std.proofs.Common.{◌≡◌, ℕ, zero, suc, ◌+◌, ◌-◌, ◌<◌, ◌≤◌, true, ◌≢◌, List, [], ◌∷◌, length, get_or, set, take, ℤ, neg_ℤ, Some, None, sym, refl, ap, ◌∙◌, subst, ⊎_elim, arith, length-set, get_or-set_other, get_or-set_same, pow_pos}
use native.Mathlib.Nat.{pow-succ'}
use mathlib.Core.Path.{fun_ext}
use Rattle.std.proofs.lemmas.List.{get_or-take}
use Rattle.std.proofs.lemmas.Bool.{and_parts, and_from, leb-true, le-leb, eqb-true, eq-eqb, ne_eqb, cases_eq}
use Rattle.family.specs.declared.side.Side.{Side}
use Rattle.family.specs.declared.side.Side.TheVariants.{Lower, Upper}
use Rattle.family.specs.Sides.{fixed}
use Rattle.search.specs.declared.frontier.node.Node.{Node}
use Rattle.search.specs.declared.frontier.signed_row.SignedRow.{SignedRow}
use Rattle.search.specs.Nodes.{root, signed_row, across, turned, trail, sides_at, nodes, free_rows, Sane, sane, weight}
use Rattle.search.specs.Tally.{OnTop, Sides, branched, rest}

fixed_same : (s : Sides) (r : ℕ) (d : Side) → fixed s r d r ≡ Some d
fixed_same s r d = rw (eq-eqb r r refl)

fixed_other : (s : Sides) (r : ℕ) (d : Side) (k : ℕ) → (k ≡ r → ⊥) → fixed s r d k ≡ s k
fixed_other s r d k h = rw (ne_eqb k r h)

-- ---- the test and what it tests
sane_out : (path : List SignedRow) (stack : List Node) (b n : ℕ) → sane path stack b n ≡ true → Sane path stack b n
sane_out path stack b zero e = tt
sane_out path stack b (suc n) e =
    let x = and_parts _ _ e in
    let y = and_parts _ _ x.1 in
    let z = and_parts _ _ y.1 in
    (leb-true _ _ x.0, leb-true _ _ y.0, eqb-true _ _ z.0, sane_out path stack (get_or stack n root).depth n z.1)

sane_in : (path : List SignedRow) (stack : List Node) (b n : ℕ) → Sane path stack b n → sane path stack b n ≡ true
sane_in path stack b zero h = refl
sane_in path stack b (suc n) h = and_from _ _ (le-leb _ _ h.0) (and_from _ _ (le-leb _ _ h.1) (and_from _ _ (eq-eqb _ _ h.2) (sane_in path stack (get_or stack n root).depth n h.3)))

-- ---- a write past what is looked at
trail_set : (path : List SignedRow) (i n : ℕ) (z : SignedRow) → n ≤ i → trail (set path i z) n ≡ trail path n
trail_set path i zero z h = refl
trail_set path i (suc n) z h =
    let ne : n ≢ i = omega arith in
    rw (get_or-set_other, trail_set path i n z (omega arith))

nodes_set : (path : List SignedRow) (stack : List Node) (i n : ℕ) (v : Node) → n ≤ i → nodes path (set stack i v) n ≡ nodes path stack n
nodes_set path stack i zero v h = refl
nodes_set path stack i (suc n) v h =
    let ne : n ≢ i = omega arith in
    rw (get_or-set_other, nodes_set path stack i n v (omega arith))

weight_set : (stack : List Node) (i n : ℕ) (v : Node) → n ≤ i → weight (set stack i v) n ≡ weight stack n
weight_set stack i zero v h = refl
weight_set stack i (suc n) v h =
    let ne : n ≢ i = omega arith in
    rw (get_or-set_other, weight_set stack i n v (omega arith))

sane_set : (path : List SignedRow) (stack : List Node) (i b n : ℕ) (v : Node) → n ≤ i → Sane path stack b n → Sane path (set stack i v) b n
sane_set path stack i b zero v h s = tt
sane_set path stack i b (suc n) v h s =
    let ne : n ≢ i = omega arith in
    rw get_or-set_other (s.0, s.1, s.2, sane_set path stack i (get_or stack n root).depth n v (omega arith) s.3)

-- a signed row of the path at i or past it is of no concern to nodes no deeper than i
nodes_path : (path : List SignedRow) (stack : List Node) (i b n : ℕ) (z : SignedRow) → b ≤ i → Sane path stack b n → nodes (set path i z) stack n ≡ nodes path stack n
nodes_path path stack i b zero z h s = refl
nodes_path path stack i b (suc n) z h s =
    let e : trail (set path i z) (get_or stack n root).depth ≡ trail path (get_or stack n root).depth = trail_set path i (get_or stack n root).depth z (omega (arith, s.1)) in
    rw (e, nodes_path path stack i (get_or stack n root).depth n z (omega (arith, s.1)) s.3)

sane_path : (path : List SignedRow) (stack : List Node) (i b n : ℕ) (z : SignedRow) → b ≤ i → Sane path stack b n → Sane (set path i z) stack b n
sane_path path stack i b zero z h s = tt
sane_path path stack i b (suc n) z h s =
    let e : trail (set path i z) (get_or stack n root).depth ≡ trail path (get_or stack n root).depth = trail_set path i (get_or stack n root).depth z (omega (arith, s.1)) in
    rw e (s.0, s.1, s.2, sane_path path stack i (get_or stack n root).depth n z (omega (arith, s.1)) s.3)

sane_more : (path : List SignedRow) (stack : List Node) (b b' n : ℕ) → b ≤ b' → Sane path stack b n → Sane path stack b' n
sane_more path stack b b' zero h s = tt
sane_more path stack b b' (suc n) h s = (s.0, omega (arith, s.1), s.2, s.3)

-- ---- to fix a free row leaves one free row less
free_past : (n : ℕ) (s : Sides) (r : ℕ) (d : Side) → n ≤ r → free_rows n (fixed s r d) ≡ free_rows n s
unfolding free_rows
free_past zero s r d h = refl
free_past (suc n) s r d h =
    let ne : n ≡ r → ⊥ = λ e. omega arith in
    rw (fixed_other s r d n ne, free_past n s r d (omega arith))

free_here : (s : Sides) (r : ℕ) (d : Side) → s r ≡ None → free_rows (suc r) (fixed s r d) + 1 ≡ free_rows (suc r) s
unfolding free_rows
free_here s r d e =
    let le : r ≤ r = omega arith in
    rw (fixed_same s r d, free_past r s r d le, e) (omega arith)

free_there : (n : ℕ) (s : Sides) (r : ℕ) (d : Side) → (n ≡ r → ⊥) → free_rows n (fixed s r d) + 1 ≡ free_rows n s → free_rows (suc n) (fixed s r d) + 1 ≡ free_rows (suc n) s
unfolding free_rows
free_there n s r d ne h = rw (fixed_other s r d n ne) (omega arith)

free_less : (n : ℕ) (s : Sides) (r : ℕ) (d : Side) → r < n → s r ≡ None → free_rows n (fixed s r d) + 1 ≡ free_rows n s
free_less zero s r d h e = omega arith
free_less (suc n) s r d h e = ⊎_elim
    (λ q. subst (λ (k : ℕ). free_rows (suc k) (fixed s r d) + 1 ≡ free_rows (suc k) s) q (free_here s r d e))
    (λ q. free_there n s r d (λ z. q (sym z)) (free_less n s r d (omega arith) e))
    (cases_eq r n)

-- a free row leaves room for a level
free_some : (n : ℕ) (s : Sides) (r : ℕ) → r < n → s r ≡ None → 0 < free_rows n s
free_some n s r h e = omega (arith, free_less n s r Lower h e)

-- ---- what a signed row fixes
turned_signed : (s : Sides) (r : ℕ) (d : Side) → turned s (signed_row r d) ≡ fixed s r d
turned_signed s r Lower = refl
turned_signed s r Upper = refl

-- the same at the other side
pub other_side : (z : ℤ) (r : ℕ) (d : Side) → z ≡ signed_row r d → neg_ℤ z ≡ signed_row r (across d)
other_side z r Lower e = rw e
other_side z r Upper e = rw e

-- the first signed rows of a path fix what they fix alone
pub trail_take : (path : List SignedRow) (n d : ℕ) → n ≤ d → trail (take d path) n ≡ trail path n
trail_take path zero d h = refl
trail_take path (suc n) d h =
    let lt : n < d = omega arith in
    rw (get_or-take, trail_take path n d (omega arith))

-- the node's own after those of the path
pub trail_last : (path : List SignedRow) (node : Node) (s t : Sides) → s ≡ trail path node.depth → ((k : ℕ) → t k ≡ turned s node.row.number k) → t ≡ sides_at path node
trail_last path node s t h f = fun_ext f ∙ rw h

-- ---- how many nodes are open, and the current one
pub nodes_length : (path : List SignedRow) (stack : List Node) (n : ℕ) → length (nodes path stack n) ≡ n
nodes_length path stack zero = refl
nodes_length path stack (suc n) = ap suc (nodes_length path stack n)

pub nodes_none : (path : List SignedRow) (stack : List Node) (n : ℕ) → n ≡ 0 → nodes path stack n ≡ []
nodes_none path stack n e = rw e

pub nodes_some : (path : List SignedRow) (stack : List Node) (n : ℕ) (P : Sides → Type 0) → OnTop P (nodes path stack n) → 0 < n
nodes_some path stack zero P top = absurd top
nodes_some path stack (suc n) P top = omega arith

pub top_nodes : (path : List SignedRow) (stack : List Node) (h k : ℕ) → h ≡ suc k → nodes path stack h ≡ sides_at path (get_or stack k root) ∷ rest (nodes path stack h)
top_nodes path stack h k e = rw e

-- ---- a close: the top goes
pub close_sane : (path : List SignedRow) (stack : List Node) (h k : ℕ) → h ≡ suc k → sane path stack 16 h ≡ true → sane path stack 16 k ≡ true
close_sane path stack h k e s =
    let s' : sane path stack 16 (suc k) ≡ true = rw e at s in
    let t = sane_out path stack 16 (suc k) s' in
    sane_in path stack 16 k (sane_more path stack (get_or stack k root).depth 16 k t.1 t.3)

pub close_weight : (stack : List Node) (h k c : ℕ) → h ≡ suc k → c + weight stack h ≤ 65536 → c + 1 + weight stack k ≤ 65536
close_weight stack h k c e w =
    let w' : c + weight stack (suc k) ≤ 65536 = rw e at w in
    omega (arith, pow_pos (16 - (get_or stack k root).depth))

pub close_nodes : (path : List SignedRow) (stack : List Node) (h k : ℕ) → h ≡ suc k → nodes path stack k ≡ rest (nodes path stack h)
close_nodes path stack h k e = rw e

-- the node at depth d that fixes the row r at a side
pub record Child (r : ℕ) (side : Side) (d : ℕ) (node : Node) : Type 0 where
  pub row : node.row.number ≡ signed_row r side
  pub depth : node.depth ≡ d

-- ---- a split: the top's signed row goes into the path at its depth, and two deeper nodes take its place
module _ (path : List SignedRow) (stack : List Node) (k : ℕ) (a b : Node) (r : ℕ) (d : Side) where
  abbrev top : Node
  top = get_or stack k root

  abbrev path' : List SignedRow
  path' = set path top.depth top.row

  abbrev stack' : List Node
  stack' = set (set stack k b) (suc k) a

  -- a is the named child and b the other
  record Children : Type 0 where
    pub long : suc k < length stack
    pub far : top.depth < length path
    pub a_child : Child r d (top.depth + 1) a
    pub b_child : Child r (across d) (top.depth + 1) b

  trail_split : top.depth < length path → (n : ℕ) → n ≡ top.depth + 1 → trail path' n ≡ sides_at path top
  trail_split far n e =
      let e' : n ≡ suc top.depth = omega arith in
      let le : top.depth ≤ top.depth = omega arith in
      rw (e', get_or-set_same, trail_set path top.depth top.depth top.row le)

  at_a : Children → get_or stack' (suc k) root ≡ a
  at_a ch =
      let lt : suc k < length (set stack k b) = simp length-set ch.long in
      get_or-set_same (set stack k b) (suc k) a root lt

  at_b : Children → get_or stack' k root ≡ b
  at_b ch =
      let ne : k ≢ suc k = omega arith in
      let lt : k < length stack = omega (arith, ch.long) in
      rw (get_or-set_other, get_or-set_same)

  turned_a : Children → sides_at path' a ≡ fixed (sides_at path top) r d
  turned_a ch = rw (trail_split ch.far a.depth ch.a_child.depth, ch.a_child.row) (turned_signed (sides_at path top) r d)

  turned_b : Children → sides_at path' b ≡ fixed (sides_at path top) r (across d)
  turned_b ch = rw (trail_split ch.far b.depth ch.b_child.depth, ch.b_child.row) (turned_signed (sides_at path top) r (across d))

  below : Sane path stack 16 (suc k) → nodes path' stack' k ≡ nodes path stack k
  below s =
      let le : k ≤ suc k = omega arith in
      let ll : k ≤ k = omega arith in
      let dd : top.depth ≤ top.depth = omega arith in
      nodes_set path' (set stack k b) (suc k) k a le ∙ nodes_set path' stack k k b ll ∙ nodes_path path stack top.depth top.depth k top.row dd s.3

  -- the other child is opened first
  in_order : (s : Sides) (ss : List Sides) (e : Side) → branched r e (s ∷ ss) ≡ fixed s r e ∷ (fixed s r (across e) ∷ ss)
  in_order s ss Lower = refl
  in_order s ss Upper = refl

  split_nodes : Children → Sane path stack 16 (suc k) → nodes path' stack' (suc (suc k)) ≡ branched r d (nodes path stack (suc k))
  split_nodes ch s = rw (at_a ch, at_b ch, turned_a ch, turned_b ch, below s) (sym (in_order (sides_at path top) (nodes path stack k) d))

  room : Sane path stack 16 (suc k) → r < 16 → sides_at path top r ≡ None → top.depth < 16
  room s h f = omega (arith, s.2, free_some 16 (sides_at path top) r h f)

  split_sane : Children → Sane path stack 16 (suc k) → r < 16 → sides_at path top r ≡ None → Sane path' stack' 16 (suc (suc k))
  split_sane ch s h f =
      let le : k ≤ suc k = omega arith in
      let ll : k ≤ k = omega arith in
      let dd : top.depth ≤ top.depth = omega arith in
      let d1 : top.depth ≤ b.depth = omega (arith, ch.b_child.depth) in
      let rm = room s h f in
      let fa = free_less 16 (sides_at path top) r d h f in
      let fb = free_less 16 (sides_at path top) r (across d) h f in
      let low : Sane path' stack' b.depth k = sane_more path' stack' top.depth b.depth k d1 (sane_set path' (set stack k b) (suc k) top.depth k a le
      (sane_set path' stack k top.depth k b ll (sane_path path stack top.depth top.depth k top.row dd s.3))) in
      rw (at_a ch, at_b ch, turned_a ch, turned_b ch) (
        omega (arith, s.0, ch.a_child.depth),
        omega (arith, ch.a_child.depth),
        omega (arith, s.2, ch.a_child.depth),
        (omega (arith, s.0, ch.b_child.depth), omega (arith, ch.a_child.depth, ch.b_child.depth), omega (arith, s.2, ch.b_child.depth), low),
      )

  split_weight : Children → top.depth < 16 → weight stack' (suc (suc k)) ≡ weight stack (suc k)
  split_weight ch rm =
      let le : k ≤ suc k = omega arith in
      let ll : k ≤ k = omega arith in
      let e : weight stack' k ≡ weight stack k = weight_set (set stack k b) (suc k) k a le ∙ weight_set stack k k b ll in
      let p : 16 - top.depth ≡ suc (16 - (top.depth + 1)) = omega arith in
      rw (at_a ch, at_b ch, ch.a_child.depth, ch.b_child.depth, e, p) (omega (arith, pow-succ' 2 (16 - (top.depth + 1))))

-- the same over a frontier's fields, where the code has h - 1 and h + 1
module _ (path : List SignedRow) (stack : List Node) (h k : ℕ) (e : h ≡ suc k) (t : Node) (q : t ≡ get_or stack k root) (r : ℕ) (d : Side)
    (ok : sane path stack 16 h ≡ true) (w : r < 16) (loose : OnTop (λ s. s r ≡ None) (nodes path stack h)) where
  sane_k : Sane path stack 16 (suc k)
  sane_k = sane_out path stack 16 (suc k) (rw e at ok)

  loose_k : sides_at path (get_or stack k root) r ≡ None
  loose_k = subst (λ (n : ℕ). OnTop (λ s. s r ≡ None) (nodes path stack n)) e loose

  -- what is shown at suc k and at the top holds as the code has it
  moved : (P : ℕ → ℕ → Node → Type 0) → P (suc k) (suc (suc k)) (get_or stack k root) → P h (h + 1) t
  moved P x =
      let e2 : suc (suc k) ≡ h + 1 = omega arith in
      subst (λ z. P h (h + 1) z) (sym q) (subst (λ m. P h m (get_or stack k root)) e2 (subst (λ n. P n (suc (suc k)) (get_or stack k root)) (sym e) x))

  -- the current node can go a level deeper, and the stack a node higher
  pub room_at : (t.depth < 16) × (h < 17)
  room_at =
      let rm : (get_or stack k root).depth < 16 = room path stack k root root r d sane_k w loose_k in
      (rw q rm, omega (arith, sane_k.0))

  -- the named child a and the other one b
  module _ (a b : Node) (long : h < length stack) (far : t.depth < length path) (ca : Child r d (t.depth + 1) a) (cb : Child r (across d) (t.depth + 1) b) where
    children : Children path stack k a b r d
    children = record { long = omega arith; far = rw q at far; a_child = rw q at ca; b_child = rw q at cb }

    pub forked_nodes : nodes (set path t.depth t.row) (set (set stack k b) h a) (h + 1) ≡ branched r d (nodes path stack h)
    forked_nodes = moved (λ n m x. nodes (set path x.depth x.row) (set (set stack k b) n a) m ≡ branched r d (nodes path stack n)) (split_nodes path stack k a b r d children sane_k)

    pub forked_sane : sane (set path t.depth t.row) (set (set stack k b) h a) 16 (h + 1) ≡ true
    forked_sane = moved (λ n m x. sane (set path x.depth x.row) (set (set stack k b) n a) 16 m ≡ true) (sane_in _ _ 16 (suc (suc k)) (split_sane path stack k a b r d children sane_k w loose_k))

    pub forked_weight : weight (set (set stack k b) h a) (h + 1) ≡ weight stack h
    forked_weight = moved (λ n m x. weight (set (set stack k b) n a) m ≡ weight stack n) (split_weight path stack k a b r d children (room path stack k root root r d sane_k w loose_k))
