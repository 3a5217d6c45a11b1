-- A word of four bytes as it is read.
use Rattle.std.proofs.Common.{◌≡◌, ℕ, ◌+◌, ◌*◌, ◌<◌, ◌≤◌, List, take, drop, get_or, ℤ, ◌∙◌, arith, w32, SFits, to_z, of_z}
use borrow.Author.Differences.{ints}
use lib.Signed.{mag}
use Rattle.std.proofs.lemmas.Int.{to_z-of_z}
use Rattle.std.proofs.lemmas.List.{get_or-take, get_or-drop}
use Rattle.file.specs.Words.{of_bytes, word}

pub get_four : (bs ds : List ℕ) (k m : ℕ) {r : ℤ} → SFits w32 r → 4 ≤ m → ds ≡ take 4 (take m (drop (4 * k) bs))
    → r ≡ to_z w32 (get_or ds 0 0 + get_or ds 1 0 * 256 + get_or ds 2 0 * 65536 + get_or ds 3 0 * 16777216)
    → to_z w32 (of_z w32 r) ≡ word bs k
unfolding of_bytes
get_four bs ds k m {r = r} f room e h =
    let at : (i : ℕ) → i < 4 → get_or ds i 0 ≡ get_or bs (4 * k + i) 0 =
    λ i l. (λ t. get_or (e t) i 0) ∙ get_or-take 4 (take m (drop (4 * k) bs)) i 0 l ∙ get_or-take m (drop (4 * k) bs) i 0 (omega arith) ∙ get_or-drop (4 * k) bs i 0 in
    to_z-of_z w32 r f ∙ h
    ∙ (λ i. to_z w32 (at 0 (omega arith) i + at 1 (omega arith) i * 256 + at 2 (omega arith) i * 65536 + at 3 (omega arith) i * 16777216))
    ∙ (λ i. to_z w32 (get_or bs (first i) 0 + get_or bs (4 * k + 1) 0 * 256 + get_or bs (4 * k + 2) 0 * 65536 + get_or bs (4 * k + 3) 0 * 16777216))
  where
    first : 4 * k + 0 ≡ 4 * k
    first = omega arith

-- a word that a call returned
pub read_back : {x z : ℤ} → x ≡ z → mag x < 2147483648 → to_z w32 (of_z w32 x) ≡ z
read_back {x} e h = let f : SFits w32 x = omega (arith, ints) in to_z-of_z w32 x f ∙ e
