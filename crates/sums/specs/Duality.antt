-- Rows and columns of any number: the sums behind a row's value, a proof's column sums and its level,
-- and the two facts that every bound rests on. Rows are counted by i < m, columns by j < n.
use Rattle.std.specs.Prelude.{ℕ, ◌<◌, cond, ◌≡◌, ℤ, pos, ◌*ℤ◌, ◌≤ℤ◌, int_lt}
use Rattle.sums.specs.Sums.{total, dot}

-- S_j: what the multipliers y make of column j
abbrev pub column : ℕ → (ℕ → ℕ → ℤ) → (ℕ → ℤ) → ℕ → ℤ
column m a y j = total m (λ i. a i j *ℤ y i)

-- the end of a row that its multiplier meets: the upper one where the multiplier is positive, else the lower one
abbrev pub met : ℤ → ℤ → ℤ → ℤ
met y lo hi = cond (int_lt (pos 0) y) hi lo

-- L: the level of the multipliers y over the rows' ends
abbrev pub level : ℕ → (ℕ → ℤ) → (ℕ → ℤ) → (ℕ → ℤ) → ℤ
level m lo hi y = total m (λ i. y i *ℤ met (y i) (lo i) (hi i))

-- the point p / q lies between the ends of every row
abbrev pub Within : ℕ → ℕ → (ℕ → ℕ → ℤ) → (ℕ → ℤ) → (ℕ → ℤ) → ℕ → (ℕ → ℤ) → Type 0
Within m n a lo hi q p = (i : ℕ) → i < m → ((pos q *ℤ lo i) ≤ℤ dot n (a i) p) × (dot n (a i) p ≤ℤ (pos q *ℤ hi i))

-- the sum over the rows of multiplier times value is the sum over the columns of S_j times p_j
abbrev pub Exchange : Type 0
Exchange = (m n : ℕ) (a : ℕ → ℕ → ℤ) (p y : ℕ → ℤ) → dot m y (λ i. dot n (a i) p) ≡ dot n (column m a y) p

-- S times p is at most q times L, for every point between the ends
abbrev pub WeakDuality : Type 0
WeakDuality = (m n : ℕ) (a : ℕ → ℕ → ℤ) (lo hi : ℕ → ℤ) (q : ℕ) (p y : ℕ → ℤ) → Within m n a lo hi q p
    → dot n (column m a y) p ≤ℤ (pos q *ℤ level m lo hi y)
