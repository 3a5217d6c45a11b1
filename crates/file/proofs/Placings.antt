-- Records that are put one after another.
use Rattle.std.proofs.Common.{◌≡◌, ℕ, ◌+◌, ◌*◌, ◌<◌, ◌≤◌, cond, List, length, get_or, replicate, ℤ, pos, Ok, Err, sym, refl, ap, ◌∙◌, subst, arith}
use native.Mathlib.Decide.{dec_lt}
use Rattle.std.proofs.lemmas.List.{length-append}
use Rattle.std.proofs.lemmas.Bool.{le-ltb}
use Rattle.family.specs.declared.fault.Fault.TheVariants.{List as in_list}
use Rattle.family.specs.declared.fault.ListFault.TheVariants.{Length}
use Rattle.family.specs.Numbers.{at}
use Rattle.file.specs.Words.{word}
use Rattle.file.specs.Written.{Puts, row_words, head_words, Written, write_answer}

-- `to` is `from` with the rows of index below `done`, of m, in the records after record 0
pub record Rows (from to : List ℕ) (m : ℕ) (rows : ℕ → List ℤ) (done : ℕ) : Type 0 where
  pub len : length to ≡ length from
  pub head : (w : ℕ) → w < 20 → word to w ≡ word from w
  pub row : (i w : ℕ) → i < done → w < 20 → word to (20 * (i + 1) + w) ≡ at (row_words (i + 1) m (rows i)) w
  pub eleven : (i : ℕ) → i < done → length (rows i) ≡ 11
  pub past : (i : ℕ) → 80 * (done + 1) ≤ i → get_or to i 0 ≡ get_or from i 0

pub rows_none : (a : List ℕ) (m : ℕ) (rows : ℕ → List ℤ) → Rows a a m rows 0
rows_none a m rows = record {
  len = refl;
  head = λ w h. refl;
  row = λ i w h l. let no : ⊥ = omega arith in elim no [ ];
  eleven = λ i h. let no : ⊥ = omega arith in elim no [ ];
  past = λ i h. refl;
}

length_row : (i m : ℕ) (list : List ℤ) → length list ≡ 11 → length (row_words i m list) ≡ 20
length_row i m list h = let e = length-append list (replicate 8 (pos 0)) in omega arith

length_head : (m : ℕ) (family : ℤ) (list : List ℤ) → length list ≡ 10 → length (head_words m family list) ≡ 20
length_head m family list h = let e = length-append list (replicate 7 (pos 0)) in omega arith

pub rows_turn : (a b c : List ℕ) (m : ℕ) (rows : ℕ → List ℤ) (i : ℕ) {x : List ℤ} → Rows a b m rows i → Puts b c (20 * (i + 1)) (row_words (i + 1) m x) → x ≡ rows i
    → length x ≡ 11 → Rows a c m rows (i + 1)
rows_turn a b c m rows i {x} p q e l = record {
  len = q.len ∙ p.len;
  head = λ w h. q.below w (omega arith) ∙ p.head w h;
  row = λ j w h k. elim (dec_lt j i) [
    | yes lt ↦ q.below (20 * (j + 1) + w) (omega arith) ∙ p.row j w lt k
    | no ge ↦
        let s : j ≡ i = omega arith in
        (λ t. word c (20 * (s t + 1) + w))
        ∙ q.here w (omega (arith, length_row (i + 1) m x l))
        ∙ (λ t. at (row_words (sym s t + 1) m (same s t)) w)
  ];
  eleven = λ j h. elim (dec_lt j i) [ yes lt ↦ p.eleven j lt | no ge ↦ let s : j ≡ i = omega arith in ap length (sym (same s)) ∙ l ];
  past = λ j h. q.past j (omega (arith, length_row (i + 1) m x l)) ∙ p.past j (omega arith);
}
  where
    same : {j : ℕ} → j ≡ i → x ≡ rows j
    same s = e ∙ (λ t. rows (sym s t))

all_written : (a b c : List ℕ) (m i : ℕ) (family : ℤ) (header : List ℤ) (rows : ℕ → List ℤ) → m ≤ i → i ≤ m → length header ≡ 10
    → Puts a b 0 (head_words m family header) → Rows b c m rows i → Written a c m family header rows
all_written a b c m i family header rows ge le l p q = record {
  len = q.len ∙ p.len;
  head = λ w h. q.head w h ∙ ap (word b) (omega arith) ∙ p.here w (omega (arith, length_head m family header l));
  row = λ j w h k. q.row j w (omega arith) k;
  ten = l;
  eleven = λ j h. q.eleven j (omega arith);
  past = λ j h. q.past j (omega arith) ∙ p.past j (omega (arith, length_head m family header l));
}

-- with the count, the family and the header as the calls gave them
pub rows_written : (a b c : List ℕ) (i : ℕ) (rows : ℕ → List ℤ) {m m' : ℕ} {family family' : ℤ} {header header' : List ℤ} → m ≡ m' → family ≡ family' → header ≡ header'
    → m ≤ i → i ≤ m → length header ≡ 10 → Puts a b 0 (head_words m family header) → Rows b c m rows i → Written a c m' family' header' rows
rows_written a b c i rows {m} {m'} {family} {family'} {header} {header'} em ef eh ge le l p q =
    subst (λ x. Written a c x family' header' rows) em
    (subst (λ x. Written a c m x header' rows) ef (subst (λ x. Written a c m family x rows) eh (all_written a b c m i family header rows ge le l p q)))

-- a place of m + 1 records is not denied
pub long_enough : (len : ℕ) {m m' : ℕ} → m ≡ m' → 80 * (m + 1) ≤ len → Ok tt ≡ write_answer len m'
long_enough len {m} {m'} e h = ap (λ b. cond b (Err (in_list Length)) (Ok tt)) (sym (le-ltb len (80 * (m' + 1)) (omega arith)))
