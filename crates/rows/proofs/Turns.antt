-- The loop that adds up products at 64 bits.
use Rattle.std.proofs.Common.{◌≡◌, ℕ, ◌+◌, ◌*◌, ◌^◌, ◌<◌, ◌≤◌, ℤ, pos, ◌+ℤ◌, ◌*ℤ◌, nat_abs, sym, refl, ap, ◌∙◌, subst, arith, w64, SFits}
use Rattle.std.proofs.lemmas.Int.{to_z-of_z}
use Rattle.std.proofs.lemmas.Nat.{mul-le}
use Rattle.sums.specs.Sums.{dot}
use Rattle.sums.proofs.Totals.{total_more}
use Rattle.family.proofs.Casts.{back, fits64, near_add, Times, times, arg_back, result_back, product_near}

-- The sum of the products below j, of count in all: `Left k x` says that x is what the left number with the index k is, and
-- `Right k x` that of the right one.
pub record Summed (m n count : ℕ) (Left Right : ℕ → ℤ → Type 0) (j : ℕ) (z : ℤ) : Type 0 where
  pub is : (f g : ℕ → ℤ) → ((k : ℕ) (x : ℤ) → k < count → Left k x → x ≡ f k) → ((k : ℕ) (x : ℤ) → k < count → Right k x → x ≡ g k) → z ≡ dot j f g
  pub close : nat_abs z ≤ m * n * j

pub summed_none : (m n count : ℕ) (Left Right : ℕ → ℤ → Type 0) → Summed m n count Left Right 0 (pos 0)
summed_none m n count Left Right = record { is = λ f g h k. refl; close = omega arith }

pub summed_all : {m n count j : ℕ} {Left Right : ℕ → ℤ → Type 0} {z : ℤ} → Summed m n count Left Right j z → j ≡ count → Summed m n count Left Right count z
summed_all {m} {n} {count} {j} {Left} {Right} {z} s all = subst (λ n'. Summed m n count Left Right n' z) all s

-- One turn of the loop: x and y are the numbers of this turn.
pub record Turn (m n count : ℕ) (Left Right : ℕ → ℤ → Type 0) (j : ℕ) (z x y : ℤ) : Type 0 where
  pub product : SFits w64 (back w64 x *ℤ back w64 y)
  pub fits : SFits w64 (z +ℤ back w64 (back w64 x *ℤ back w64 y))
  pub again : Summed m n count Left Right (j + 1) (back w64 (z +ℤ back w64 (back w64 x *ℤ back w64 y)))

module _ (m n count : ℕ) (Left Right : ℕ → ℤ → Type 0) (few : count ≤ 16) (m_small : m ≤ 1000000) (n_small : n ≤ 1000000) where
  bounds : (j : ℕ) → j < count → (m * n ≤ 1000000000000) × (m * n * (j + 1) ≤ 16000000000000)
  bounds j h =
      let one = mul-le m n 1000000 1000000 m_small n_small in
      let all = mul-le (m * n) (j + 1) 1000000000000 16 (omega (arith, one)) (omega arith) in
      (omega (arith, one), omega (arith, all))

  pub turn : (j : ℕ) {z sum x y : ℤ} → z ≡ sum → Summed m n count Left Right j z → j < count → Left j x → nat_abs x ≤ m → Right j y → nat_abs y ≤ n → Turn m n count Left Right j z x y
  turn j {z} {sum} {x} {y} same old inside left x_near right y_near =
      let b = bounds j inside in
      let t = times m n (arg_back 1000000 x (omega arith) (omega arith)) (arg_back 1000000 y (omega arith) (omega arith)) x_near y_near (omega (arith, b.0)) in
      let together : nat_abs (z +ℤ x *ℤ y) ≤ m * n * (j + 1) = omega (arith, near_add (m * n * j) (m * n) z (x *ℤ y) old.close (product_near m n x y x_near y_near)) in
      let fits = subst (λ p. SFits w64 (z +ℤ p)) (sym t.is) (fits64 (m * n * (j + 1)) (z +ℤ x *ℤ y) together (omega (arith, b.1))) in
      let is = to_z-of_z w64 _ fits ∙ ap (λ p. z +ℤ p) t.is in
      record {
        product = t.fits;
        fits = fits;
        again = record {
          is = λ f g h k. is ∙ (λ i. old.is f g h k i +ℤ h j x inside left i *ℤ k j y inside right i) ∙ sym (total_more j (λ k. f k *ℤ g k));
          close = subst (λ p. nat_abs p ≤ m * n * (j + 1)) (sym is) together;
        };
      }

-- the product of two numbers that calls returned
pub product_of : (m n : ℕ) {x y a b : ℤ} → x ≡ a → nat_abs x ≤ m → y ≡ b → nat_abs y ≤ n → m < 2 ^ 63 → n < 2 ^ 63 → m * n < 2 ^ 63 → Times (m * n) (back w64 x) (back w64 y) a b
product_of m n xe xs ye ys mf nf small =
    times m n (result_back m xe xs mf) (result_back n ye ys nf) (subst (λ z. nat_abs z ≤ m) xe xs) (subst (λ z. nat_abs z ≤ n) ye ys) small
