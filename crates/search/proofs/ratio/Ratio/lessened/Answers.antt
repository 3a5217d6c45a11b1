use Rattle.std.proofs.Common.{◌≡◌, ◌*◌, ℤ, pos, ap, ◌∙◌, arith, w64}
use Rattle.std.proofs.lemmas.Int.{ints}
use Rattle.family.specs.declared.gap.Gap.{Gap}
use Rattle.family.proofs.Casts.{back, Times, times, arg_back, result_back}
use Rattle.search.specs.declared.ratio.Ratio.{Ratio}
use Rattle.search.proofs.ratio.Ratio.lessened.Goals as goal

-- the gap, which the code has as x, times the denominator
cut : (r : Ratio) (gap : Gap) (x : ℤ) → x ≡ pos gap.value → Times (1000000 * 1000000) (back w64 x) (back w64 r.denominator) (pos gap.value) r.denominator
cut r gap x e = times 1000000 1000000
    (result_back 1000000 e (omega (arith, ints)) (omega arith)) (arg_back 1000000 r.denominator (omega (arith, ints)) (omega arith)) gap.small (omega (arith, ints)) (omega arith)

pub overflow_sub-result : goal.overflow_sub-result
overflow_sub-result c =
    let t = cut c.args.self c.args.gap c.from.result (c.from.ensures ∙ ap pos c.value.ensures) in
    let n = arg_back 8000000000000 c.args.self.numerator c.args.self.fair.numerator (omega arith) in
    omega (arith, ints, t.near)

pub returns : goal.returns
returns c =
    let t = cut c.args.self c.args.gap c.from.result (c.from.ensures ∙ ap pos c.value.ensures) in
    let n = arg_back 8000000000000 c.args.self.numerator c.args.self.fair.numerator (omega arith) in
    record { value = omega (arith, ints, t.near, t.is); near = omega (arith, ints, t.near) }
