-- The numbers of a bound at 64 bits.
use Rattle.std.proofs.Common.{◌≡◌, ◌+◌, ◌*◌, ◌≤◌, ℤ, pos, ◌+ℤ◌, ◌-ℤ◌, ◌*ℤ◌, neg_ℤ, nat_abs, refl, ap, ◌∙◌, arith, w64, SFits}
use borrow.Author.Differences.{ints}
use Rattle.std.proofs.lemmas.Int.{to_z-of_z}
use Rattle.family.proofs.Casts.{back, Times, times, Plus, plus, arg_back, product_near}

module _ (scale squares level : ℤ) (s : nat_abs scale ≤ 1000) (q : nat_abs squares ≤ 5120000000000) (l : nat_abs level ≤ 160000000) where
  two : pos 2 ≡ pos 2
  two = refl

  pub doubled : Times (2 * 1000) (pos 2) (back w64 scale) (pos 2) scale
  doubled = times 2 1000 two (arg_back 1000 scale s (omega arith)) (omega arith) s (omega arith)

  pub weighted : Times (2000 * 160000000) (back w64 (pos 2 *ℤ back w64 scale)) (back w64 level) (pos 2 *ℤ scale) level
  weighted = times 2000 160000000 doubled.is (arg_back 160000000 level l (omega arith)) (product_near 2 1000 (pos 2) scale (omega arith) s) l (omega arith)

  pub summed : Plus (5120000000000 + 320000000000) (back w64 squares) (back w64 (back w64 (pos 2 *ℤ back w64 scale) *ℤ back w64 level)) squares ((pos 2 *ℤ scale) *ℤ level)
  summed =
      plus 5120000000000 320000000000 (arg_back 5120000000000 squares q (omega arith)) weighted.is q
      (product_near 2000 160000000 (pos 2 *ℤ scale) level (product_near 2 1000 (pos 2) scale (omega arith) s) l) (omega arith)

  pub negated_fits : SFits w64 (pos 0 -ℤ back w64 (back w64 squares +ℤ back w64 (back w64 (pos 2 *ℤ back w64 scale) *ℤ back w64 level)))
  negated_fits = less (back w64 (back w64 squares +ℤ back w64 (back w64 (pos 2 *ℤ back w64 scale) *ℤ back w64 level))) summed.near
    where
      less : (z : ℤ) → nat_abs z ≤ 5120000000000 + 320000000000 → SFits w64 (pos 0 -ℤ z)
      less z h = omega (arith, ints)

  pub negated : back w64 (pos 0 -ℤ back w64 (back w64 squares +ℤ back w64 (back w64 (pos 2 *ℤ back w64 scale) *ℤ back w64 level))) ≡ neg_ℤ (squares +ℤ (pos 2 *ℤ scale) *ℤ level)
  negated = to_z-of_z w64 _ negated_fits ∙ ap (λ z. pos 0 -ℤ z) summed.is ∙ minus (squares +ℤ (pos 2 *ℤ scale) *ℤ level)
    where
      minus : (z : ℤ) → pos 0 -ℤ z ≡ neg_ℤ z
      minus z = omega (arith, ints)

  pub squared : Times (1000 * 1000) (back w64 scale) (back w64 scale) scale scale
  squared = times 1000 1000 (arg_back 1000 scale s (omega arith)) (arg_back 1000 scale s (omega arith)) s s (omega arith)
