-- A word of four bytes as it is put.
use Rattle.std.proofs.Common.{◌≡◌, ℕ, ◌+◌, ◌-◌, ◌*◌, ◌/◌, ◌%◌, ◌<◌, ◌≤◌, ◌≢◌, List, [], ◌∷◌, ◌++◌, length, take, drop, get_or, ℤ, sym, ap, ◌∙◌, mod-eq_of_lt, arith, length-take, length-drop, w32, SFits, to_z, of_z}
use native.Mathlib.Decide.{dec_lt}
use borrow.Rule.Slice.PartMut.{put_mid}
use native.Mathlib.Nat.{div-div-eq-div-mul}
use borrow.Author.Differences.{ints}
use Rattle.std.proofs.lemmas.Int.{to_z-of_z}
use Rattle.std.proofs.lemmas.List.{get_or_append_left, get_or-append_right, get_or-take, get_or-drop, length-append}
use Rattle.file.specs.Words.{of_bytes}
use Rattle.file.specs.Written.{Put}

digits_by : (n p q r : ℕ) → n ≡ p * 256 + n % 256 → p ≡ q * 256 + p % 256 → q ≡ r * 256 + q % 256 → r < 256 → n % 256 + p % 256 * 256 + q % 256 * 65536 + r % 256 * 16777216 ≡ n
digits_by n p q r e f g h = omega (arith, mod-eq_of_lt h)

pub digits : (n : ℕ) → n < 4294967296 → n % 256 + n / 256 % 256 * 256 + n / 65536 % 256 * 65536 + n / 16777216 % 256 * 16777216 ≡ n
digits n h =
    rw (← div-div-eq-div-mul n 65536 256, ← div-div-eq-div-mul n 256 256)
    (digits_by n (n / 256) (n / 256 / 256) (n / 256 / 256 / 256) (omega arith) (omega arith) (omega arith) (omega arith))

pub ofZ_small : (z : ℤ) → SFits w32 z → of_z w32 z < 4294967296
ofZ_small z f = omega (arith, ints)

pub same_word : (z : ℤ) → SFits w32 z → of_bytes (of_z w32 z % 256) (of_z w32 z / 256 % 256) (of_z w32 z / 65536 % 256) (of_z w32 z / 16777216 % 256) ≡ z
unfolding of_bytes
same_word z f = rw (digits (of_z w32 z) (ofZ_small z f)) (to_z-of_z w32 z f)

-- the bytes ds, four of them, in the place of those from p on
module _ (bs ds : List ℕ) (p m : ℕ) (width : m ≡ 4) (long : length ds ≡ 4) (room : p + 4 ≤ length bs) where
  before : length (take p bs) ≡ p
  before = omega (arith, length-take p bs)

  mid_len : length (put_mid p m bs ds) ≡ length bs
  mid_len = omega (arith, before, length-append (take p bs) (ds ++ drop m (drop p bs)), length-append ds (drop m (drop p bs)), length-drop m (drop p bs), length-drop p bs)

  mid_before : (i : ℕ) → i < p → get_or (put_mid p m bs ds) i 0 ≡ get_or bs i 0
  mid_before i h = get_or_append_left (take p bs) (ds ++ drop m (drop p bs)) 0 i (omega (arith, before)) ∙ get_or-take p bs i 0 h

  mid_from : (i : ℕ) → p ≤ i → get_or (put_mid p m bs ds) i 0 ≡ get_or (ds ++ drop m (drop p bs)) (i - p) 0
  mid_from i h = get_or-append_right (take p bs) (ds ++ drop m (drop p bs)) p i 0 before h

  mid_here : (i : ℕ) → i < 4 → get_or (put_mid p m bs ds) (p + i) 0 ≡ get_or ds i 0
  mid_here i h =
      mid_from (p + i) (omega arith)
      ∙ ap (λ k. get_or (ds ++ drop m (drop p bs)) k 0) (omega arith)
      ∙ get_or_append_left ds (drop m (drop p bs)) 0 i (omega (arith, long))

  mid_after : (i : ℕ) → p + 4 ≤ i → get_or (put_mid p m bs ds) i 0 ≡ get_or bs i 0
  mid_after i h =
      mid_from i (omega arith)
      ∙ get_or-append_right ds (drop m (drop p bs)) 4 (i - p) 0 long (omega arith)
      ∙ get_or-drop m (drop p bs) (i - p - 4) 0
      ∙ get_or-drop p bs (m + (i - p - 4)) 0
      ∙ ap (λ k. get_or bs k 0) (omega (arith, width))

abbrev le_bytes : ℤ → List ℕ
le_bytes z = (of_z w32 z % 256) ∷ (of_z w32 z / 256 % 256) ∷ (of_z w32 z / 65536 % 256) ∷ (of_z w32 z / 16777216 % 256) ∷ []

put_four : (bs ds : List ℕ) (k m : ℕ) (z : ℤ) → m ≡ 4 → SFits w32 z → 4 * k + 4 ≤ length bs → ds ≡ le_bytes z → Put bs (put_mid (4 * k) m bs ds) k z
put_four bs ds k m z width f h e =
    let long : length ds ≡ 4 = ap length e in
    let here = mid_here bs ds (4 * k) m width long h in
    let other : (j i : ℕ) → j ≢ k → i < 4 → get_or (put_mid (4 * k) m bs ds) (4 * j + i) 0 ≡ get_or bs (4 * j + i) 0 =
    λ j i ne l. elim (dec_lt j k) [
      | yes lt ↦ mid_before bs ds (4 * k) m width long h (4 * j + i) (omega arith)
      | no ge ↦ mid_after bs ds (4 * k) m width long h (4 * j + i) (omega arith)
    ] in
    let at_0 : (j : ℕ) → 4 * j + 0 ≡ 4 * j = λ j. omega arith in
    record {
      len = mid_len bs ds (4 * k) m width long h;
      here =
          (λ i. of_bytes (get_or (put_mid (4 * k) m bs ds) (sym (at_0 k) i) 0) (here 1 (omega arith) i) (here 2 (omega arith) i) (here 3 (omega arith) i))
          ∙ (λ i. of_bytes (here 0 (omega arith) i) (get_or ds 1 0) (get_or ds 2 0) (get_or ds 3 0))
          ∙ (λ i. of_bytes (get_or (e i) 0 0) (get_or (e i) 1 0) (get_or (e i) 2 0) (get_or (e i) 3 0))
          ∙ same_word z f;
      others = λ j ne.
          (λ i. of_bytes (get_or (put_mid (4 * k) m bs ds) (sym (at_0 j) i) 0) (other j 1 ne (omega arith) i) (other j 2 ne (omega arith) i) (other j 3 ne (omega arith) i))
          ∙ (λ i. of_bytes (other j 0 ne (omega arith) i) (get_or bs (4 * j + 1) 0) (get_or bs (4 * j + 2) 0) (get_or bs (4 * j + 3) 0))
          ∙ (λ i. of_bytes (get_or bs (at_0 j i) 0) (get_or bs (4 * j + 1) 0) (get_or bs (4 * j + 2) 0) (get_or bs (4 * j + 3) 0));
      past = λ i le. mid_after bs ds (4 * k) m width long h i le;
    }

-- as a call of `to_le_bytes` shows its argument
pub put_back : (bs ds : List ℕ) (k m : ℕ) (z : ℤ) {es : List ℕ} → m ≡ 4 → SFits w32 z → 4 * k + 4 ≤ length bs → es ≡ ds → ds ≡ le_bytes (to_z w32 (of_z w32 z)) → Put bs (put_mid (4 * k) m bs es) k z
put_back bs ds k m z {es} width f h same e = put_four bs es k m z width f h (same ∙ e ∙ (λ i. le_bytes (to_z-of_z w32 z f i)))
