use Rattle.std.proofs.Common.{◌≡◌, suc, ◌-◌, ◌<◌, length, refl, arith}
use Rattle.search.specs.declared.frontier.Frontier.{Frontier}
use Rattle.search.specs.View.{nodes_of}
use Rattle.search.proofs.Stacking.{nodes_length, close_sane, close_weight, close_nodes}
use Rattle.search.proofs.frontier.Frontier.close.Goals as goal

-- a node is open
high : (f : Frontier) → 0 < length (nodes_of f) → 0 < f.height
unfolding nodes_of
high f h = omega (arith, nodes_length f.path f.stack f.height)

pub overflow_sub-self : goal.overflow_sub-self
overflow_sub-self c = omega (arith, high c.args.self.now c.requires)

pub invariant_of-self : goal.invariant_of-self
invariant_of-self c =
    let f = c.args.self.now in
    let some = high f c.requires in
    let e : f.height ≡ suc (f.height - 1) = omega arith in
    record {
      low = omega arith;
      sound = close_sane f.path f.stack f.height (f.height - 1) e f.sound;
      weighed = close_weight f.stack f.height (f.height - 1) f.closed e f.weighed;
      counted = omega arith;
    }

pub returns : goal.returns
unfolding nodes_of
returns c =
    let f = c.args.self.now in
    let some = high f c.requires in
    let e : f.height ≡ suc (f.height - 1) = omega arith in
    record { nodes = close_nodes f.path f.stack f.height (f.height - 1) e; closed = refl; splits = refl }
