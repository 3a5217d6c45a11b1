use Rattle.std.proofs.Common.{◌≡◌, ℕ, suc, ◌+◌, ◌-◌, ◌<◌, ◌≤◌, true, List, length, get_or, set, neg_ℤ, None, refl, ◌∙◌, arith, rules}
use Rattle.family.specs.declared.side.Side.{Side}
use Rattle.search.specs.declared.frontier.Frontier.{Frontier}
use Rattle.search.specs.declared.frontier.node.Node.{Node}
use Rattle.search.specs.declared.frontier.signed_row.SignedRow.{SignedRow}
use Rattle.search.specs.Nodes.{root, signed_row, across, nodes, sane, weight}
use Rattle.search.specs.Tally.{OnTop, branched}
use Rattle.search.specs.View.{nodes_of}
use Rattle.search.proofs.Stacking.{Child, nodes_some, other_side, room_at, forked_nodes, forked_sane, forked_weight}
use Rattle.search.proofs.frontier.Frontier.split.Goals as goal

-- a node is open
high : (f : Frontier) (r : ℕ) → OnTop (λ s. s r ≡ None) (nodes_of f) → 0 < f.height
unfolding nodes_of
high f r loose = nodes_some f.path f.stack f.height (λ s. s r ≡ None) loose

-- the current node can go a level deeper, and the stack a node higher
has_room : (f : Frontier) (t : Node) (r : ℕ) (d : Side) → t ≡ get_or f.stack (f.height - 1) root → r < 16 → OnTop (λ s. s r ≡ None) (nodes_of f) → (t.depth < 16) × (f.height < 17)
unfolding nodes_of
has_room f t r d q within loose =
    let some = high f r loose in
    let e : f.height ≡ suc (f.height - 1) = omega arith in
    room_at f.path f.stack f.height (f.height - 1) e t q r d f.sound within loose

-- what is known of the path and the stack after the writes
record Forking (f : Frontier) (path : List SignedRow) (stack : List Node) (r : ℕ) (d : Side) : Type 0 where
  pub sound : sane path stack 16 (f.height + 1) ≡ true
  pub weighed : f.closed + weight stack (f.height + 1) ≤ 65536
  pub nodes : nodes path stack (f.height + 1) ≡ branched r d (nodes_of f)

-- the current node t gives way to a at the side d and to b at the other side, and i is its depth
forks : (f : Frontier) (t a b : Node) (i r : ℕ) (d : Side) → t ≡ get_or f.stack (f.height - 1) root → r < 16 → OnTop (λ s. s r ≡ None) (nodes_of f)
    → length f.stack ≡ 17 → length f.path ≡ 16 → i ≡ t.depth → a.row.number ≡ signed_row r d → b.row.number ≡ neg_ℤ a.row.number → a.depth ≡ t.depth + 1 → b.depth ≡ t.depth + 1
    → Forking f (set f.path i t.row) (set (set f.stack (f.height - 1) b) f.height a) r d
unfolding nodes_of
forks f t a b i r d q within loose tall wide here named other deep deeper =
    let some = high f r loose in
    let rm = has_room f t r d q within loose in
    let e : f.height ≡ suc (f.height - 1) = omega arith in
    let long : f.height < length f.stack = omega arith in
    let far : t.depth < length f.path = omega arith in
    let ca : Child r d (t.depth + 1) a = record { row = named; depth = deep } in
    let cb : Child r (across d) (t.depth + 1) b = record { row = other ∙ other_side a.row.number r d named; depth = deeper } in
    let w = forked_weight f.path f.stack f.height (f.height - 1) e t q r d f.sound within loose a b long far ca cb in
    rw here (record {
      sound = forked_sane f.path f.stack f.height (f.height - 1) e t q r d f.sound within loose a b long far ca cb;
      weighed = rw w f.weighed;
      nodes = forked_nodes f.path f.stack f.height (f.height - 1) e t q r d f.sound within loose a b long far ca cb;
    })

pub top-top-requires : goal.top-top-requires
top-top-requires c = high c.args.self.now c.args.row c.requires.loose

pub listed : goal.listed
listed c =
    let rm = has_room c.args.self.now c.top-top.result c.args.row c.args.side c.top-top.ensures c.requires.within c.requires.loose in
    let wide : length c.args.self.now.path ≡ 16 = search rules in
    omega (arith, c.from.ensures)

pub bounds-self-from : goal.bounds-self-from
bounds-self-from c =
    let rm = has_room c.args.self.now c.top-top.result c.args.row c.args.side c.top-top.ensures c.requires.within c.requires.loose in
    omega (arith, c.from.ensures)

pub overflow_sub-self : goal.overflow_sub-self
overflow_sub-self c = high c.args.self.now c.args.row c.requires.loose

pub invariant_of-self : goal.invariant_of-self
invariant_of-self c =
    let rm = has_room c.args.self.now c.top-top.result c.args.row c.args.side c.top-top.ensures c.requires.within c.requires.loose in
    record { shallow = omega arith }

pub listed-3 : goal.listed-3
listed-3 c =
    let rm = has_room c.args.self.now c.top-top.result c.args.row c.args.side c.top-top.ensures c.requires.within c.requires.loose in
    search rules

pub bounds-self-self-2 : goal.bounds-self-self-2
bounds-self-self-2 c = (has_room c.args.self.now c.top-top.result c.args.row c.args.side c.top-top.ensures c.requires.within c.requires.loose).1

pub invariant_of-self-3 : goal.invariant_of-self-3
invariant_of-self-3 c =
    let f = c.args.self.now in
    let rm = has_room f c.top-top.result c.args.row c.args.side c.top-top.ensures c.requires.within c.requires.loose in
    record {
      low = omega arith;
      sound = (forks f c.top-top.result _ _ c.from.result c.args.row c.args.side c.top-top.ensures c.requires.within c.requires.loose (search rules) (search rules) c.from.ensures c.of-named.ensures c.across-other.ensures refl refl).sound;
      weighed = (forks f c.top-top.result _ _ c.from.result c.args.row c.args.side c.top-top.ensures c.requires.within c.requires.loose (search rules) (search rules) c.from.ensures c.of-named.ensures c.across-other.ensures refl refl).weighed;
      counted = omega arith;
    }

pub returns : goal.returns
unfolding nodes_of
returns c =
    let f = c.args.self.now in
    record {
      nodes = (forks f c.top-top.result _ _ c.from.result c.args.row c.args.side c.top-top.ensures c.requires.within c.requires.loose (search rules) (search rules) c.from.ensures c.of-named.ensures c.across-other.ensures refl refl).nodes;
      closed = refl;
      splits = refl;
    }
