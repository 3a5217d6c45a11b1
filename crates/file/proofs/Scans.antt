-- The first of a record's words that is not in use and not 0.
use Rattle.std.proofs.Common.{◌≡◌, ℕ, zero, suc, ◌+◌, ◌-◌, ◌<◌, ◌≤◌, true, false, cond, ℤ, Some, None, Ok, Err, Option, MatchOption, ap, ◌∙◌, arith}
use Rattle.file.specs.declared.fault.FileFault.TheVariants.{Unused}
use Rattle.file.specs.Records.{is, cell, unused_from, unused}

unused_step : (f : ℕ → ℤ) (r w : ℕ) → w < 20 → unused f r w ≡ cond (is 0 (cell f r w)) (unused f r (w + 1)) (Err (Unused r w))
unfolding unused_from
unused_step f r w h = let p : 20 - w ≡ suc (20 - (w + 1)) = omega arith in λ i. unused_from f r w (p i)

pub unused_end : (f : ℕ → ℤ) (r w : ℕ) → 20 ≤ w → unused f r w ≡ Ok tt
unfolding unused_from
unused_end f r w h = let p : 20 - w ≡ 0 = omega arith in λ i. unused_from f r w (p i)

-- past words that are 0
skipped : (f : ℕ → ℤ) (r w d : ℕ) → w + d ≤ 20 → ((k : ℕ) → w ≤ k → k < w + d → is 0 (cell f r k) ≡ true) → unused f r w ≡ unused f r (w + d)
skipped f r w zero h z = ap (unused f r) (omega arith)
skipped f r w (suc d) h z =
    unused_step f r w (omega arith)
    ∙ (λ i. cond (z w (omega arith) (omega arith) i) (unused f r (w + 1)) (Err (Unused r w)))
    ∙ skipped f r (w + 1) d (omega arith) (λ k a b. z k (omega arith) (omega arith))
    ∙ ap (unused f r) (omega arith)

-- where the first word that is not 0 is found, or none
pub unused_at : (f : ℕ → ℤ) (r w : ℕ) (o : Option ℕ) → w ≤ 20
    → MatchOption o ((k : ℕ) → w ≤ k → k < 20 → is 0 (cell f r k) ≡ true)
    (λ i. (w ≤ i) × (i < 20) × (is 0 (cell f r i) ≡ false) × ((k : ℕ) → w ≤ k → k < i → is 0 (cell f r k) ≡ true))
    → MatchOption o (unused f r w ≡ Ok tt) (λ i. unused f r w ≡ Err (Unused r i))
unused_at f r w None h none =
    skipped f r w (20 - w) (omega arith) (λ k a b. none k a (omega arith)) ∙ unused_end f r (w + (20 - w)) (omega arith)
unused_at f r w (Some i) h (above, below, used, zeros) =
    skipped f r w (i - w) (omega arith) (λ k a b. zeros k a (omega arith))
    ∙ ap (unused f r) (omega arith)
    ∙ unused_step f r i below
    ∙ (λ j. cond (used j) (unused f r (i + 1)) (Err (Unused r i)))
