-- The bits of masks.
use Rattle.std.proofs.Common.{◌≡◌, ℕ, zero, suc, ◌+◌, ◌-◌, ◌/◌, ◌%◌, ◌^◌, ◌<◌, ◌≤◌, min, max, Bool, true, cond, ◌&&◌, eqb, ◌≢◌, Some, None, Option, sym, refl, ap, ◌∙◌, subst, one-mul, pow-suc, one-add, arith}
use native.Mathlib.Nat.{zero-div}
use native.Mathlib.Decide.{dec_lt, ℕ_discrete}
use lib.Arith.{bin_ind}
use lib.Bits.{bit_and, bit_or, bit_xor, and_step, or_step, xor_step, xor_add_and}
use Rattle.std.proofs.lemmas.Nat.{and_comm, and_mask, pow_pos, pow-add, and_shr, or_shr, xor_shr, shl-shr, pow_below, shr-shr, div_below}
use Rattle.std.proofs.lemmas.Bool.{eq-eqb, ne_eqb}
use Rattle.std.proofs.lemmas.Bool.Decides.{Decides-below_and, Decides-eqb}
use Rattle.family.specs.Sides.{bit, by_bits, side_at, fixed}
use Rattle.family.specs.declared.side.Side.{Side}
use Rattle.family.specs.declared.side.Side.TheVariants.{Lower, Upper}

pub bit_of_or : (a b k : ℕ) → bit (bit_or a b) k ≡ max (bit a k) (bit b k)
bit_of_or a b k = ap (λ n. n % 2) (or_shr a b k) ∙ last (a / 2 ^ k) (b / 2 ^ k)
  where
    last : (a b : ℕ) → bit_or a b % 2 ≡ max (a % 2) (b % 2)
    last a b = omega (arith, or_step a b)

pub bit_of_and : (a b k : ℕ) → bit (bit_and a b) k ≡ min (bit a k) (bit b k)
bit_of_and a b k = ap (λ n. n % 2) (and_shr a b k) ∙ last (a / 2 ^ k) (b / 2 ^ k)
  where
    last : (a b : ℕ) → bit_and a b % 2 ≡ min (a % 2) (b % 2)
    last a b = omega (arith, and_step a b)

-- 2 ^ r has bit r alone
pub bit_here : (r : ℕ) → bit (2 ^ r) r ≡ 1
bit_here r = ap (λ n. n % 2) (ap (λ n. n / 2 ^ r) (sym (one-mul (2 ^ r))) ∙ shl-shr 1 r)

low : (r k : ℕ) → r < k → bit (2 ^ r) k ≡ 0
low r k h =
    let none : 2 ^ r / 2 ^ k < 1 = div_below (2 ^ r) (2 ^ k) 1 (pow_pos k) (omega (arith, pow_below r k h)) in
    omega arith

-- d + 1 places above k
high : (d k : ℕ) → bit (2 ^ (suc d + k)) k ≡ 0
high d k =
    let shifted : 2 ^ (suc d + k) / 2 ^ k ≡ 2 ^ suc d = ap (λ n. n / 2 ^ k) (pow-add 2 (suc d) k) ∙ shl-shr (2 ^ suc d) k in
    omega (arith, shifted, pow-suc 2 d)

pub bit_there : (r k : ℕ) → k ≢ r → bit (2 ^ r) k ≡ 0
bit_there r k ne = elim (dec_lt r k) [ yes h ↦ low r k h | no n ↦ subst (λ m. bit (2 ^ m) k ≡ 0) (apart (omega arith)) (high (r - suc k) k) ]
  where
    apart : k < r → suc (r - suc k) + k ≡ r
    apart h = omega arith

-- a number with no bit is 0
pub no_bits : (n : ℕ) → ((k : ℕ) → bit n k ≡ 0) → n ≡ 0
no_bits = bin_ind (λ n. ((k : ℕ) → bit n k ≡ 0) → n ≡ 0) (λ h. refl) (λ n ih h. omega (arith, ih (λ k. half n k (h (suc k))), first n (h 0)))
  where
    half : (n k : ℕ) → bit n (suc k) ≡ 0 → bit (n / 2) k ≡ 0
    half n k e = ap (λ m. m % 2) (shr-shr n 1 k ∙ ap (λ j. n / 2 ^ j) (one-add k)) ∙ e

    first : (n : ℕ) → bit n 0 ≡ 0 → n % 2 ≡ 0
    first n e = omega (arith, e)

pub set_here : (a r : ℕ) → bit (bit_or a (2 ^ r)) r ≡ 1
set_here a r = omega (arith, bit_of_or a (2 ^ r) r, bit_here r)

pub set_there : (a r k : ℕ) → k ≢ r → bit (bit_or a (2 ^ r)) k ≡ bit a k
set_there a r k ne = omega (arith, bit_of_or a (2 ^ r) k, bit_there r k ne)

-- ---- one bit taken out of a mask of sixteen
abbrev full : ℕ → Bool
full zero = true
full (suc n) = eqb (bit 65535 n) 1 && full n

full_bit : (k : ℕ) → k < 16 → bit 65535 k ≡ 1
full_bit k h = (Decides-below_and (λ n. eqb (bit 65535 n) 1) (λ n. bit 65535 n ≡ 1) full (λ n. Decides-eqb (bit 65535 n) 1) refl (λ n. refl) 16).0 refl k h

-- the mask of all rows but r
others_is : (r : ℕ) → r < 16 → 65535 - 2 ^ r ≡ bit_xor 65535 (2 ^ r)
others_is r h =
    let small : 2 ^ r < 65536 = pow_below r 16 h in
    let common : bit_and 65535 (2 ^ r) ≡ 2 ^ r = and_comm 65535 (2 ^ r) ∙ and_mask (2 ^ r) 16 ∙ whole (2 ^ r) small in
    omega (arith, xor_add_and 65535 (2 ^ r), common)
  where
    whole : (n : ℕ) → n < 65536 → n % 65536 ≡ n
    whole n l = omega arith

bit_others : (r k : ℕ) → r < 16 → k < 16 → bit (65535 - 2 ^ r) k + bit (2 ^ r) k ≡ 1
bit_others r k h l =
    let e : bit (65535 - 2 ^ r) k ≡ bit_xor (65535 / 2 ^ k) (2 ^ r / 2 ^ k) % 2 = ap (λ n. bit n k) (others_is r h) ∙ ap (λ n. n % 2) (xor_shr 65535 (2 ^ r) k) in
    last (65535 / 2 ^ k) (2 ^ r / 2 ^ k) (bit (65535 - 2 ^ r) k) e (full_bit k l)
  where
    last : (a b x : ℕ) → x ≡ bit_xor a b % 2 → a % 2 ≡ 1 → x + b % 2 ≡ 1
    last a b x e one = grind (arith, xor_step a b)

high_bit : (a k : ℕ) → a < 65536 → 16 ≤ k → bit a k ≡ 0
high_bit a k h l =
    let none : a / 2 ^ k < 1 = div_below a (2 ^ k) 1 (pow_pos k) (omega (arith, above k l)) in
    omega arith
  where
    above : (k : ℕ) → 16 ≤ k → 65536 ≤ 2 ^ k
    above k l = elim (dec_lt 16 k) [ yes m ↦ omega (arith, pow_below 16 k m) | no m ↦ let e : k ≡ 16 = omega arith in rw e (omega arith) ]

pub clear_here : (a r : ℕ) → r < 16 → bit (bit_and a (65535 - 2 ^ r)) r ≡ 0
clear_here a r h = omega (arith, bit_of_and a (65535 - 2 ^ r) r, bit_others r r h h, bit_here r)

pub clear_there : (a r k : ℕ) → a < 65536 → r < 16 → k ≢ r → bit (bit_and a (65535 - 2 ^ r)) k ≡ bit a k
clear_there a r k small h ne = elim (dec_lt k 16) [
  | yes l ↦ omega (arith, bit_of_and a (65535 - 2 ^ r) k, bit_others r k h l, bit_there r k ne, below a k)
  | no m ↦ omega (arith, bit_of_and a (65535 - 2 ^ r) k, high_bit a k small (omega arith))
]
  where
    below : (a k : ℕ) → bit a k < 2
    below a k = omega arith

-- ---- sides, over plain bits
pub lower_is : (l u : ℕ) → l ≡ 1 → by_bits l u ≡ Some Lower
lower_is l u e = rw e

pub upper_is : (l u : ℕ) → l ≢ 1 → u ≡ 1 → by_bits l u ≡ Some Upper
upper_is l u n e = grind arith

-- two masks with nothing in common: r goes into the first and out of the second
apart_moved : (a b r : ℕ) → b < 65536 → r < 16 → bit_and a b ≡ 0 → bit_and (bit_or a (2 ^ r)) (bit_and b (65535 - 2 ^ r)) ≡ 0
apart_moved a b r small h apart = no_bits _ (λ k. bit_of_and (bit_or a (2 ^ r)) (bit_and b (65535 - 2 ^ r)) k ∙ at_bit k)
  where
    nothing : (k : ℕ) → min (bit a k) (bit b k) ≡ 0
    nothing k = sym (bit_of_and a b k) ∙ ap (λ n. bit n k) apart ∙ ap (λ n. n % 2) (zero-div (2 ^ k))

    at_bit : (k : ℕ) → min (bit (bit_or a (2 ^ r)) k) (bit (bit_and b (65535 - 2 ^ r)) k) ≡ 0
    at_bit k = elim (ℕ_discrete k r) [
      | yes e ↦ omega (arith, ap (bit (bit_and b (65535 - 2 ^ r))) e, clear_here b r h)
      | no n ↦ omega (arith, nothing k, set_there a r k n, clear_there b r k small h n)
    ]

-- what fixing the row r owes: the masks a and b before, and l and u after
pub record Moved (a b l u r : ℕ) (side : Side) : Type 0 where
  pub apart : bit_and l u ≡ 0
  pub reads : (k : ℕ) → side_at l u k ≡ fixed (side_at a b) r side k

by_row : (s t : ℕ → Option Side) (r : ℕ) (side : Side) → t r ≡ Some side → ((k : ℕ) → k ≢ r → t k ≡ s k) → (k : ℕ) → t k ≡ fixed s r side k
by_row s t r side here there k = elim (ℕ_discrete k r) [
  | yes e ↦ ap t e ∙ here ∙ ap (λ b. cond b (Some side) (s k)) (sym (eq-eqb k r e))
  | no n ↦ there k n ∙ ap (λ b. cond b (Some side) (s k)) (sym (ne_eqb k r n))
]

pub to_lower : (a b r m : ℕ) → m ≡ 2 ^ r → a < 65536 → b < 65536 → r < 16 → bit_and a b ≡ 0 → Moved a b (bit_or a m) (bit_and b (65535 - m)) r Lower
to_lower a b r m e big small h apart = subst (λ m. Moved a b (bit_or a m) (bit_and b (65535 - m)) r Lower) (sym e) record {
  apart = apart_moved a b r small h apart;
  reads = by_row (side_at a b) (side_at (bit_or a (2 ^ r)) (bit_and b (65535 - 2 ^ r))) r Lower (lower_is _ _ (set_here a r))
      (λ k n. λ i. by_bits (set_there a r k n i) (clear_there b r k small h n i));
}

pub to_upper : (a b r m : ℕ) → m ≡ 2 ^ r → a < 65536 → b < 65536 → r < 16 → bit_and a b ≡ 0 → Moved a b (bit_and a (65535 - m)) (bit_or b m) r Upper
to_upper a b r m e small big h apart = subst (λ m. Moved a b (bit_and a (65535 - m)) (bit_or b m) r Upper) (sym e) record {
  apart = and_comm (bit_and a (65535 - 2 ^ r)) (bit_or b (2 ^ r)) ∙ apart_moved b a r small h (and_comm b a ∙ apart);
  reads = by_row (side_at a b) (side_at (bit_and a (65535 - 2 ^ r)) (bit_or b (2 ^ r))) r Upper
      (upper_is _ _ (λ one. zero_one (clear_here a r h) one) (set_here b r))
      (λ k n. λ i. by_bits (clear_there a r k small h n i) (set_there b r k n i));
}
  where
    zero_one : {n : ℕ} → n ≡ 0 → n ≡ 1 → ⊥
    zero_one p q = omega arith

-- where ways meet: the pair of masks and the side as one way has them
pub on_way : {a b r : ℕ} {pair pair' : ℕ × (ℕ × Unit {0})} {side side' : Side} → pair ≡ pair' → side ≡ side' → Moved a b pair'.0 pair'.1.0 r side' → Moved a b pair.0 pair.1.0 r side
on_way {a} {b} {r} {pair} {side' = side'} p q f =
    subst (λ s. Moved a b pair.0 pair.1.0 r s) (sym q) (subst (λ m. Moved a b m.0 m.1.0 r side') (sym p) f)

-- a row beyond the sixteen has no bit
pub beyond : (l u k : ℕ) → l < 65536 → u < 65536 → 16 ≤ k → side_at l u k ≡ None
beyond l u k small large h = λ i. by_bits (high_bit l k small h i) (high_bit u k large h i)

-- `(mask >> row) & 1`
pub low_bit : (n : ℕ) → bit_and n 1 ≡ n % 2
low_bit n = and_mask n 1

pub free_is : (l u : ℕ) → l ≢ 1 → u ≢ 1 → by_bits l u ≡ None
free_is l u m n = grind arith
