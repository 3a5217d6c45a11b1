-- Laws of finite sums of whole numbers, for any number of terms. Assumes nothing.
use Prim.Native.Nat.{ℕ, zero, suc, ◌+◌, ◌*◌, ◌<◌, ◌≤◌}
use native.Mathlib.Omega.{arith}
use native.Mathlib.Numerals.{add-one}
use borrow.Author.Differences.{ints}
use mathlib.Core.Path.{◌≡◌, refl, ap, sym, ◌∙◌}
use lib.IntN.{ℤ, pos, ◌+ℤ◌, ◌*ℤ◌, *ℤ-zero, nat_abs}
use lib.Signed.{◌≤ℤ◌}
use Rattle.sums.specs.Sums.{total}
use Rattle.sums.proofs.Ring.{mul_add}

pub total_more : (i : ℕ) (f : ℕ → ℤ) → total (i + 1) f ≡ total i f +ℤ f i
total_more i f = rw add-one

pub total_same : (n : ℕ) (f g : ℕ → ℤ) → ((k : ℕ) → k < n → f k ≡ g k) → total n f ≡ total n g
total_same zero f g h = refl
total_same (suc n) f g h =
    omega (arith, ints, total_same n f g (λ k l. h k (omega arith)), h n (omega arith))

pub total_le : (n : ℕ) (f g : ℕ → ℤ) → ((k : ℕ) → k < n → f k ≤ℤ g k) → total n f ≤ℤ total n g
total_le zero f g h = omega (arith, ints)
total_le (suc n) f g h =
    omega (arith, ints, total_le n f g (λ k l. h k (omega arith)), h n (omega arith))

pub total_zero : (n : ℕ) → total n (λ k. pos 0) ≡ pos 0
total_zero zero = refl
total_zero (suc n) = omega (arith, ints, total_zero n)

pub total_add : (n : ℕ) (f g : ℕ → ℤ) → total n (λ k. f k +ℤ g k) ≡ total n f +ℤ total n g
total_add zero f g = refl
total_add (suc n) f g = omega (arith, ints, total_add n f g)

pub total_scale : (n : ℕ) (c : ℤ) (f : ℕ → ℤ) → total n (λ k. c *ℤ f k) ≡ c *ℤ total n f
total_scale zero c f = sym (*ℤ-zero c)
total_scale (suc n) c f = ap (λ t. t +ℤ c *ℤ f n) (total_scale n c f) ∙ sym (mul_add c (total n f) (f n))

pub exchange : (m n : ℕ) (f : ℕ → ℕ → ℤ) → total m (λ i. total n (λ j. f i j)) ≡ total n (λ j. total m (λ i. f i j))
exchange zero n f = sym (total_zero n)
exchange (suc m) n f =
    ap (λ t. t +ℤ total n (f m)) (exchange m n f) ∙ sym (total_add n (λ j. total m (λ i. f i j)) (f m))

pub total_near : (b n : ℕ) (f : ℕ → ℤ) → ((k : ℕ) → k < n → nat_abs (f k) ≤ b) → nat_abs (total n f) ≤ n * b
total_near b zero f h = omega arith
total_near b (suc n) f h = omega (arith, ints, total_near b n f (λ k l. h k (omega arith)), h n (omega arith))
