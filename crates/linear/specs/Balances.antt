-- Where two sequences differ first.
use Rattle.std.specs.Prelude.{◌≡◌, ℕ, suc, ◌+◌, ◌-◌, ◌*◌, ◌<◌, ◌≤◌, true, false, cond, ℤ, pos, ◌*ℤ◌, neg_ℤ, Some, None, unsigned_abs}
use Rattle.std.proofs.Common.{sym, ◌∙◌, ap}
use native.Mathlib.Omega.{arith}
use Rattle.std.specs.Int.{w64}
use Rattle.family.specs.Numbers.{same}
use Rattle.family.proofs.Casts.{back, Times, times, arg_back, result_back}
use Rattle.rows.specs.Searches.{first_failing}
use Rattle.linear.specs.Bounds.{first_difference, balancing}

module _ (f g : ℕ → ℤ) where
  difference_step : (j n : ℕ) → j < n → first_difference f g j (n - j) ≡ cond (same (f j) (g j)) (first_difference f g (j + 1) (n - (j + 1))) (Some j)
  unfolding first_failing
  difference_step j n h = let p : n - j ≡ suc (n - (j + 1)) = omega arith in rw p

  pub difference_stop : (j n : ℕ) {a b : ℤ} → j < n → a ≡ f j → b ≡ g j → false ≡ same a b → first_difference f g j (n - j) ≡ Some j
  difference_stop j n h p q e =
      difference_step j n h ∙ ap (λ b. cond b (first_difference f g (j + 1) (n - (j + 1))) (Some j)) (sym (e ∙ (λ i. same (p i) (q i))))

  pub difference_go : (j n : ℕ) {a b : ℤ} → j < n → a ≡ f j → b ≡ g j → true ≡ same a b → first_difference f g j (n - j) ≡ first_difference f g (j + 1) (n - (j + 1))
  difference_go j n h p q e =
      difference_step j n h ∙ ap (λ b. cond b (first_difference f g (j + 1) (n - (j + 1))) (Some j)) (sym (e ∙ (λ i. same (p i) (q i))))

  pub difference_end : (j n : ℕ) → n ≤ j → first_difference f g j (n - j) ≡ None
  unfolding first_failing
  difference_end j n h = let p : n - j ≡ 0 = omega arith in rw p

-- the code's balancing sum is that of the rules
pub balance_read : (scale : ℕ) (rates : ℕ → ℤ) (j : ℕ) {x y w : ℤ} → x ≡ pos scale → unsigned_abs x ≤ 1000 → y ≡ rates j → unsigned_abs y ≤ 50 → w ≡ neg_ℤ (back w64 x *ℤ back w64 y) → unsigned_abs w ≤ 50000
    → back w64 w ≡ balancing scale rates j
balance_read scale rates j xe xs ye ys we ws =
    let a = result_back 1000 xe xs (omega arith) in
    let b = result_back 50 ye ys (omega arith) in
    result_back 50000 (we ∙ (λ i. neg_ℤ (a i *ℤ b i))) ws (omega arith)

-- the numbers of `-(scale * rate)` at 64 bits
pub scaled_rate : (scale rate : ℤ) → unsigned_abs scale ≤ 1000 → unsigned_abs rate ≤ 50 → Times (1000 * 50) (back w64 scale) (back w64 rate) scale rate
scaled_rate scale rate s r = times 1000 50 (arg_back 1000 scale s (omega arith)) (arg_back 50 rate r (omega arith)) s r (omega arith)
