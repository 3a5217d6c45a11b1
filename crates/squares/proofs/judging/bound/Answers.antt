use Rattle.std.proofs.Common.{pos, ◌+ℤ◌, ◌*ℤ◌, neg_ℤ, ◌∙◌}
use Rattle.squares.proofs.Parts.{weighted, summed, negated_fits, negated, squared}
use Rattle.squares.proofs.judging.bound.Goals as goal

pub overflow_mul-result-2 : goal.overflow_mul-result-2
overflow_mul-result-2 c = (weighted c.denominator-scale.result c.square_sum.result c.args.duals.now.level c.denominator-scale.ensures.small c.square_sum.ensures.near c.args.duals.now.near).fits

pub overflow_add-result : goal.overflow_add-result
overflow_add-result c = (summed c.denominator-scale.result c.square_sum.result c.args.duals.now.level c.denominator-scale.ensures.small c.square_sum.ensures.near c.args.duals.now.near).fits

pub overflow_sub-result : goal.overflow_sub-result
overflow_sub-result c = negated_fits c.denominator-scale.result c.square_sum.result c.args.duals.now.level c.denominator-scale.ensures.small c.square_sum.ensures.near c.args.duals.now.near

pub returns : goal.returns
returns c =
    let level = c.args.duals.now.level in
    let top = negated c.denominator-scale.result c.square_sum.result level c.denominator-scale.ensures.small c.square_sum.ensures.near c.args.duals.now.near in
    let below = (squared c.denominator-scale.result c.square_sum.result level c.denominator-scale.ensures.small c.square_sum.ensures.near c.args.duals.now.near).is in
    let s = c.denominator-scale.ensures.value in
    let q = c.square_sum.ensures.value in
    (λ i. (top i, below i)) ∙ (λ i. (neg_ℤ (q i +ℤ (pos 2 *ℤ s i) *ℤ level), s i *ℤ s i))
