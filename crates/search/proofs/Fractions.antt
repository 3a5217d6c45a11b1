-- The order of fractions with positive denominators.
use Rattle.std.proofs.Common.{◌≡◌, ℕ, ◌+◌, ◌*◌, ◌<◌, ◌≤◌, true, false, ℤ, pos, negsuc, ◌-ℤ◌, ◌*ℤ◌, ◌≤ℤ◌, sym, ap, ⊎_elim, mul-le-mul_right, add-mul, mul-zero, mul_right_comm, le_of_mul-le-mul_right, arith}
use borrow.Author.Differences.{up, down, product_is, le-true, lt-true, lt-false, true_is_le, ints}
use Rattle.std.proofs.lemmas.Bool.{cases_Bool}
use Rattle.family.specs.Fractions.{Fraction, at_most, cheaper, lessened}

-- (A - a) / p is at most (B - b) / q
abbrev Below : ℕ → ℕ → ℕ → ℕ → ℕ → ℕ → Type 0
Below A a p B b q = A * q + b * p ≤ B * p + a * q

chain : (A a p B b q C c r : ℕ) → 0 < q → Below A a p B b q → Below B b q C c r → Below A a p C c r
chain A a p B b q C c r h x y =
    let x' : A * q * r + b * p * r ≤ B * p * r + a * q * r = simp add-mul at (mul-le-mul_right r x) in
    let y' : B * r * p + c * q * p ≤ C * q * p + b * r * p = simp add-mul at (mul-le-mul_right p y) in
    let e1 = mul_right_comm A q r in
    let e2 = mul_right_comm b p r in
    let e3 = mul_right_comm B p r in
    let e4 = mul_right_comm a q r in
    let e5 = mul_right_comm c q p in
    let e6 = mul_right_comm C q p in
    let z : (A * r + c * p) * q ≤ (C * p + a * r) * q = simp add-mul (omega arith) in
    le_of_mul-le-mul_right z h

below_out : (x y : ℤ) (p q : ℕ) → at_most (x, pos p) (y, pos q) ≡ true → Below (up x) (down x) p (up y) (down y) q
below_out x y p q h = omega (arith, le-true (x *ℤ pos q) (y *ℤ pos p) h, product_is x (pos q), product_is y (pos p), mul-zero (up x), mul-zero (down x), mul-zero (up y), mul-zero (down y))

below_in : (x y : ℤ) (p q : ℕ) → Below (up x) (down x) p (up y) (down y) q → at_most (x, pos p) (y, pos q) ≡ true
below_in x y p q h = sym (true_is_le (x *ℤ pos q) (y *ℤ pos p) (omega (arith, product_is x (pos q), product_is y (pos p), mul-zero (up x), mul-zero (down x), mul-zero (up y), mul-zero (down y))))

over_pos : (x y z : ℤ) (p q r : ℕ) → 0 < q → at_most (x, pos p) (y, pos q) ≡ true → at_most (y, pos q) (z, pos r) ≡ true → at_most (x, pos p) (z, pos r) ≡ true
over_pos x y z p q r h a b = below_in x z p r (chain (up x) (down x) p (up y) (down y) q (up z) (down z) r h (below_out x y p q a) (below_out y z q r b))

-- a number less g * p
shift : (z : ℤ) (g p : ℕ) → up (z -ℤ (pos g *ℤ pos p)) + down z + g * p ≡ up z + down (z -ℤ (pos g *ℤ pos p))
shift z g p = omega (arith, ints)

-- both sides less g
lowered : (g A a p B b q U u V v : ℕ) → U + a + g * p ≡ A + u → V + b + g * q ≡ B + v → Below A a p B b q → Below U u p V v q
lowered g A a p B b q U u V v x y h =
    let x' : U * q + a * q + g * p * q ≡ A * q + u * q = simp add-mul at (ap (λ n. n * q) x) in
    let y' : V * p + b * p + g * q * p ≡ B * p + v * p = simp add-mul at (ap (λ n. n * p) y) in
    let e = mul_right_comm g p q in
    omega arith

lessened_pos : (g : ℕ) (x y : ℤ) (p q : ℕ) → at_most (x, pos p) (y, pos q) ≡ true → at_most (lessened g (x, pos p)) (lessened g (y, pos q)) ≡ true
lessened_pos g x y p q h =
    let x' = x -ℤ (pos g *ℤ pos p) in
    let y' = y -ℤ (pos g *ℤ pos q) in
    below_in x' y' p q (lowered g (up x) (down x) p (up y) (down y) q (up x') (down x') (up y') (down y') (shift x g p) (shift y g q) (below_out x y p q h))

-- ---- for fractions
-- a positive denominator
abbrev pub Positive : Fraction → Type 0
Positive c = pos 1 ≤ℤ c.1

never : (k : ℕ) → pos 1 ≤ℤ (negsuc k) → ⊥
never k h = omega (arith, ints)

some : (k : ℕ) → pos 1 ≤ℤ (pos k) → 0 < k
some k h = omega (arith, ints)

pub at_most_trans : (a b c : Fraction) → Positive a → Positive b → Positive c → at_most a b ≡ true → at_most b c ≡ true → at_most a c ≡ true
at_most_trans (x, pos p) (y, pos q) (z, pos r) ha hb hc h k = over_pos x y z p q r (some q hb) h k
at_most_trans (x, negsuc p) b c ha hb hc h k = absurd (never p ha)
at_most_trans (x, pos p) (y, negsuc q) c ha hb hc h k = absurd (never q hb)
at_most_trans (x, pos p) (y, pos q) (z, negsuc r) ha hb hc h k = absurd (never r hc)

pub lessened_at_most : (g : ℕ) (a b : Fraction) → Positive a → Positive b → at_most a b ≡ true → at_most (lessened g a) (lessened g b) ≡ true
lessened_at_most g (x, pos p) (y, pos q) ha hb h = lessened_pos g x y p q h
lessened_at_most g (x, negsuc p) b ha hb h = absurd (never p ha)
lessened_at_most g (x, pos p) (y, negsuc q) ha hb h = absurd (never q hb)

pub cheaper_at_most : (a b : Fraction) → cheaper a b ≡ true → at_most a b ≡ true
cheaper_at_most a b h = sym (true_is_le (a.0 *ℤ b.1) (b.0 *ℤ a.1) (omega (arith, lt-true (a.0 *ℤ b.1) (b.0 *ℤ a.1) h)))

pub not_cheaper : (a b : Fraction) → cheaper a b ≡ false → at_most b a ≡ true
not_cheaper a b h = sym (true_is_le (b.0 *ℤ a.1) (a.0 *ℤ b.1) (omega (arith, lt-false (a.0 *ℤ b.1) (b.0 *ℤ a.1) h)))

not_both : (a b : Fraction) → cheaper a b ≡ true → at_most b a ≡ true → ⊥
not_both a b h k = omega (arith, lt-true (a.0 *ℤ b.1) (b.0 *ℤ a.1) h, le-true (b.0 *ℤ a.1) (a.0 *ℤ b.1) k)

-- strictly cheaper than what is at most c
pub cheaper_trans : (a b c : Fraction) → Positive a → Positive b → Positive c → cheaper a b ≡ true → at_most b c ≡ true → cheaper a c ≡ true
cheaper_trans a b c ha hb hc h k =
    ⊎_elim (λ e. e) (λ e. absurd (not_both a b h (at_most_trans b c a hb hc ha k (not_cheaper a c e)))) (cases_Bool (cheaper a c))
