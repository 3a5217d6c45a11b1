use Rattle.std.proofs.Common.{◌≡◌, Bool, true, false, not, MatchOption, sym, refl, subst, ◌∙◌, arith}
use Rattle.std.specs.Bool.{then_some}
use Rattle.family.specs.Points.{numerator_of}
use Rattle.family.specs.Reading.{side_of}
use Rattle.family.proofs.Casts.{result_back}
use Rattle.problem.specs.Programs.{program}
use Rattle.rows.specs.Duals.{is_void}
use Rattle.rows.specs.Readings.{HasDuals}
use Rattle.rows.proofs.Columns.{void_read}
use Rattle.rows.proofs.restriction.Restriction.duals.Goals as goal

-- a value that is kept unless a test holds
kept_unless : {T N : Type 0} (S : T → Type 0) (test : Bool) (x : T) → (test ≡ true → N) → (test ≡ false → S x) → MatchOption (then_some (not test) x) N S
kept_unless S true x n s = n refl
kept_unless S false x n s = s refl

pub returns : goal.returns
returns c =
    let p = c.args.self.now.problem.now in
    let s = side_of c.args.self.now.sides in
    let y = numerator_of c.args.proof.now in
    let level = result_back 160000000 c.level-level.ensures.value c.level-level.ensures.near (omega arith) in
    let void = c.is_void.ensures ∙ void_read p y c.of-columns.result.sums c.of-columns.ensures.sums s level in
    subst (λ o. MatchOption o (is_void (program p) s y ≡ true) (HasDuals (program p) s y)) (sym c.then_some.ensures)
    (kept_unless (HasDuals (program p) s y) c.is_void.result _ (λ v. sym void ∙ v) (λ v. record { unsettled = sym void ∙ v; columns = c.of-columns.ensures.sums; level = level }))
