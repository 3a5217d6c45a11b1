-- Where a value stands between two ends.
use Rattle.std.proofs.Common.{◌≡◌, ◌*◌, ◌≤◌, Bool, false, cond, ℤ, pos, ◌+ℤ◌, ◌*ℤ◌, nat_abs, sym, refl, subst, arith, w64}
use Rattle.family.proofs.Casts.{back, Times, times, plus, arg_back}
use lib.Signed.{le_z}
use Rattle.family.specs.declared.position.Position.TheVariants.{AtBoth, AtLower, AtUpper, NearLower, NearUpper}
use Rattle.family.specs.Numbers.{same}
use Rattle.rows.specs.Standings.{position_of}
use Rattle.rows.proofs.Turns.{product_of}

pub off_ends : (v low high : ℤ) (near : Bool) → same v low ≡ false → same v high ≡ false → le_z (pos 2 *ℤ v) (low +ℤ high) ≡ near → position_of v low high ≡ cond near NearLower NearUpper
off_ends v low high near p q r = λ i. cond (p i) (cond (same v high) AtBoth AtLower) (cond (q i) AtUpper (cond (r i) NearLower NearUpper))

-- the test of `2 * value <= low + high` at 64 bits
pub halfway : (v low high : ℤ) → nat_abs v ≤ 400000000 → nat_abs low ≤ 10000000 → nat_abs high ≤ 10000000
    → le_z (back w64 (pos 2 *ℤ back w64 v)) (back w64 (back w64 low +ℤ back w64 high)) ≡ le_z (pos 2 *ℤ v) (low +ℤ high)
halfway v low high a b c =
    let two : pos 2 ≡ pos 2 = refl in
    let l = (times 2 400000000 two (arg_back 400000000 v a (omega arith)) (omega arith) a (omega arith)).is in
    let r = (plus 10000000 10000000 (arg_back 10000000 low b (omega arith)) (arg_back 10000000 high c (omega arith)) b c (omega arith)).is in
    λ i. le_z (l i) (r i)

-- q times an end, of numbers that calls returned
pub end_scaled : {d lo x e : ℤ} → d ≡ x → nat_abs d ≤ 1000 → lo ≡ e → nat_abs e ≤ 10000 → Times (1000 * 10000) (back w64 d) (back w64 lo) x e
end_scaled p h q l = product_of 1000 10000 p h q (subst (λ z. nat_abs z ≤ 10000) (sym q) l) (omega arith) (omega arith) (omega arith)
