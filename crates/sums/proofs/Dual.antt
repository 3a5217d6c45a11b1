-- The exchange of the two sums, and S times p against q times L, for any number of rows and columns.
use Prim.Native.Nat.{ℕ, zero, suc}
use native.Mathlib.Omega.{arith}
use borrow.Author.Differences.{ints}
use mathlib.Core.Path.{◌≡◌, sym, ◌∙◌}
use lib.IntN.{ℤ, pos, negsuc, ◌*ℤ◌, *ℤ_comm, zero-*ℤ}
use lib.Signed.{◌≤ℤ◌}
use Rattle.sums.specs.Sums.{dot}
use Rattle.sums.specs.Duality.{column, met, level, Within, Exchange, WeakDuality}
use Rattle.sums.proofs.Ring.{diff_of, diff_same, as_diff, mul_le, mul_ge, swap}
use Rattle.sums.proofs.Totals.{total_le, total_scale, total_same, exchange}

-- one row: its multiplier times its value is at most q times the multiplier times the end that it meets
above_zero : (n : ℕ) (lo hi : ℤ) → met (pos (suc n)) lo hi ≡ hi
above_zero n lo hi = grind (arith, ints)

term_le : (q : ℕ) (y lo hi v : ℤ) → (pos q *ℤ lo) ≤ℤ v → v ≤ℤ (pos q *ℤ hi) → (y *ℤ v) ≤ℤ (pos q *ℤ (y *ℤ met y lo hi))
term_le q (pos zero) lo hi v l h = rw (zero-*ℤ v, zero-*ℤ lo) (omega (arith, ints))
term_le q (pos (suc n)) lo hi v l h = rw (above_zero n lo hi, swap (pos q) (pos (suc n)) hi) (mul_le (suc n) v _ h)
term_le q (negsuc n) lo hi v l h = rw (swap (pos q) (negsuc n) lo) (mul_ge n _ v l)

-- the rows together
rows_le : (m n : ℕ) (a : ℕ → ℕ → ℤ) (lo hi : ℕ → ℤ) (q : ℕ) (p y : ℕ → ℤ) → Within m n a lo hi q p → dot m y (λ i. dot n (a i) p) ≤ℤ (pos q *ℤ level m lo hi y)
rows_le m n a lo hi q p y within =
    rw (← total_scale m (pos q) (λ i. y i *ℤ met (y i) (lo i) (hi i)))
    (total_le m _ _ (λ i h. term_le q (y i) (lo i) (hi i) (dot n (a i) p) (within i h).0 (within i h).1))

regroup : (y a p : ℤ) → y *ℤ (a *ℤ p) ≡ p *ℤ (a *ℤ y)
regroup y a p = rw (diff_of y, diff_of a, diff_of p) (simp as_diff (diff_same _ _ _ _ (omega arith)))

pub by_columns : Exchange
by_columns m n a p y =
    total_same m _ _ (λ i h. sym (total_scale n (y i) (λ j. a i j *ℤ p j)))
    ∙ exchange m n (λ i j. y i *ℤ (a i j *ℤ p j))
    ∙ total_same n _ _ (λ j h. total_same m _ _ (λ i k. regroup (y i) (a i j) (p j)) ∙ total_scale m (p j) (λ i. a i j *ℤ y i) ∙ *ℤ_comm (p j) (column m a y j))

pub weak_duality : WeakDuality
weak_duality m n a lo hi q p y within = rw (← by_columns m n a p y) (rows_le m n a lo hi q p y within)
