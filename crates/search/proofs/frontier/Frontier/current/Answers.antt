use Rattle.std.proofs.Common.{◌≡◌, suc, ◌-◌, ◌∷◌, sym, ap, ◌∙◌, arith, length-take-le}
use Rattle.family.specs.Reading.{side_of}
use Rattle.search.specs.Nodes.{trail, sides_at}
use Rattle.search.specs.Tally.{rest}
use Rattle.search.specs.View.{nodes_of}
use Rattle.search.proofs.Stacking.{nodes_none, top_nodes, trail_take, trail_last}
use Rattle.search.proofs.frontier.Frontier.current.Goals as goal

pub returns-then-self-eq0 : goal.returns-then-self-eq0
unfolding nodes_of
returns-then-self-eq0 c =
    let f = c.args.self.now in
    nodes_none f.path f.stack f.height c.if-self-eq0.true

pub returns : goal.returns
unfolding nodes_of
returns c =
    let f = c.args.self.now in
    let e : f.height ≡ suc (f.height - 1) = omega arith in
    let d : c.loop-row.row-index ≡ c.top-top.result.depth = omega (arith, c.from.ensures, length-take-le c.from.result f.path (omega arith)) in
    let w : side_of c.loop-row.sides ≡ trail f.path c.top-top.result.depth = c.loop-row.invariant ∙ trail_take f.path c.loop-row.row-index c.from.result (omega arith) ∙ ap (trail f.path) d in
    let l = trail_last f.path c.top-top.result (side_of c.loop-row.sides) (side_of c.turn.result) w c.turn.ensures in
    top_nodes f.path f.stack f.height (f.height - 1) e ∙ ap (λ x. x ∷ rest (nodes_of f)) (sym (l ∙ ap (sides_at f.path) c.top-top.ensures))
