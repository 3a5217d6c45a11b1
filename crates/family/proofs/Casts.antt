-- Absolute values, and numbers that the code casts to 64 bits.
use Rattle.std.proofs.Common.{◌≡◌, ℕ, suc, ◌+◌, ◌*◌, ◌^◌, ◌<◌, ◌≤◌, ℤ, pos, negsuc, ◌+ℤ◌, ◌*ℤ◌, neg_ℤ, nat_abs, sym, refl, ap, ◌∙◌, subst, arith, w32, w64, SFits, to_z, of_z}
use borrow.Author.Differences.{ints}
use mir.Syntax.{Width}
use Rattle.std.proofs.lemmas.Int.{to_z-of_z}
use Rattle.std.proofs.lemmas.Nat.{mul-le}

natAbs_neg : (z : ℤ) → nat_abs (neg_ℤ z) ≡ nat_abs z
natAbs_neg z = omega (arith, ints)

pub nat_abs_mul : (a b : ℤ) → nat_abs (a *ℤ b) ≡ nat_abs a * nat_abs b
nat_abs_mul (pos a) (pos b) = refl
nat_abs_mul (pos a) (negsuc b) = natAbs_neg (pos (a * suc b))
nat_abs_mul (negsuc a) (pos b) = natAbs_neg (pos (suc a * b))
nat_abs_mul (negsuc a) (negsuc b) = refl

pub product_near : (m n : ℕ) (a b : ℤ) → nat_abs a ≤ m → nat_abs b ≤ n → nat_abs (a *ℤ b) ≤ m * n
product_near m n a b h k = omega (arith, nat_abs_mul a b, mul-le (nat_abs a) (nat_abs b) m n h k)

-- ---- the code's casts
-- a number that goes to the bits of the width w and is read again
abbrev pub back : Width → ℤ → ℤ
back w z = to_z w (of_z w z)

pub fits32 : (n : ℕ) (z : ℤ) → nat_abs z ≤ n → n < 2 ^ 31 → SFits w32 z
fits32 n z h k = omega (arith, ints)

pub fits64 : (n : ℕ) (z : ℤ) → nat_abs z ≤ n → n < 2 ^ 63 → SFits w64 z
fits64 n z h k = omega (arith, ints)

-- an i32 that is cast to i64
pub wide : (a : ℤ) → SFits w32 a → back w64 (back w32 a) ≡ a
wide a f = omega (arith, ints)

pub near_add : (k m : ℕ) (a b : ℤ) → nat_abs a ≤ k → nat_abs b ≤ m → nat_abs (a +ℤ b) ≤ k + m
near_add k m a b h l = omega (arith, ints)

-- `x * y` at i64, of numbers that are read as a and b
pub record Times (n : ℕ) (x y a b : ℤ) : Type 0 where
  pub fits : SFits w64 (x *ℤ y)
  pub is : back w64 (x *ℤ y) ≡ a *ℤ b
  pub near : nat_abs (back w64 (x *ℤ y)) ≤ n

pub times : (m n : ℕ) {x y a b : ℤ} → x ≡ a → y ≡ b → nat_abs a ≤ m → nat_abs b ≤ n → m * n < 2 ^ 63 → Times (m * n) x y a b
times m n {x} {y} {a} {b} p q h k small =
    let whole = ap (λ z. z *ℤ y) p ∙ ap (λ z. a *ℤ z) q in
    let near = product_near m n a b h k in
    let fits = subst (SFits w64) (sym whole) (fits64 (m * n) (a *ℤ b) near small) in
    let is = to_z-of_z w64 _ fits ∙ whole in
    record { fits = fits; is = is; near = subst (λ z. nat_abs z ≤ m * n) (sym is) near }

-- `x + y` at i64
pub record Plus (n : ℕ) (x y a b : ℤ) : Type 0 where
  pub fits : SFits w64 (x +ℤ y)
  pub is : back w64 (x +ℤ y) ≡ a +ℤ b
  pub near : nat_abs (back w64 (x +ℤ y)) ≤ n

pub plus : (m n : ℕ) {x y a b : ℤ} → x ≡ a → y ≡ b → nat_abs a ≤ m → nat_abs b ≤ n → m + n < 2 ^ 63 → Plus (m + n) x y a b
plus m n {x} {y} {a} {b} p q h k small =
    let whole = ap (λ z. z +ℤ y) p ∙ ap (λ z. a +ℤ z) q in
    let near = near_add m n a b h k in
    let fits = subst (SFits w64) (sym whole) (fits64 (m + n) (a +ℤ b) near small) in
    let is = to_z-of_z w64 _ fits ∙ whole in
    record { fits = fits; is = is; near = subst (λ z. nat_abs z ≤ m + n) (sym is) near }

-- what a call returned, cast to its own width again
pub result_back : (n : ℕ) {x a : ℤ} → x ≡ a → nat_abs x ≤ n → n < 2 ^ 63 → back w64 x ≡ a
result_back n {x} p h small = to_z-of_z w64 x (fits64 n x h small) ∙ p

-- an argument of type i64
pub arg_back : (n : ℕ) (x : ℤ) → nat_abs x ≤ n → n < 2 ^ 63 → back w64 x ≡ x
arg_back n x h small = to_z-of_z w64 x (fits64 n x h small)
