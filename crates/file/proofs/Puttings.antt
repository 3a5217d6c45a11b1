-- Words put one after another.
use Rattle.std.proofs.Common.{◌≡◌, ℕ, ◌+◌, ◌-◌, ◌*◌, ◌<◌, ◌≤◌, List, [], ◌∷◌, ◌++◌, length, get_or, take, replicate, ℤ, pos, sym, refl, ap, ◌∙◌, subst, add-zero, arith}
use native.Mathlib.Decide.{dec_lt}
use Rattle.std.proofs.lemmas.List.{length-append, get_or_append_left, get_or-append_right, take_more, length-take-le}
use Rattle.file.specs.Words.{word}
use Rattle.file.specs.Written.{Put, Puts, row_words, head_words, link_after}

pub puts_none : (a : List ℕ) (k : ℕ) → Puts a a k []
puts_none a k = record { len = refl; here = λ j h. let no : ⊥ = omega arith in elim no [ ]; below = λ j h. refl; past = λ i h. refl }

pub puts_one : (a b : List ℕ) (k : ℕ) (z : ℤ) → Put a b k z → Puts a b k (z ∷ [])
puts_one a b k z p = record {
  len = p.len;
  here = λ j h. let e : j ≡ 0 = omega arith in (λ i. word b (k + e i)) ∙ (λ i. word b (add-zero k i)) ∙ p.here ∙ (λ i. get_or (z ∷ []) (sym e i) (pos 0));
  below = λ j h. p.others j (omega arith);
  past = λ i h. p.past i (omega arith);
}

pub puts_more : (a b c : List ℕ) (k m : ℕ) (xs ys : List ℤ) → m ≡ k + length xs → Puts a b k xs → Puts b c m ys → Puts a c k (xs ++ ys)
puts_more a b c k m xs ys e p q = record {
  len = q.len ∙ p.len;
  here = λ j h. elim (dec_lt j (length xs)) [
    | yes lt ↦ q.below (k + j) (omega arith) ∙ p.here j lt ∙ sym (get_or_append_left xs ys (pos 0) j lt)
    | no ge ↦
        let g : length xs ≤ j = omega arith in
        let s : k + j ≡ m + (j - length xs) = omega arith in
        ap (word c) s ∙ q.here (j - length xs) (omega (arith, length-append xs ys)) ∙ sym (get_or-append_right xs ys (length xs) j (pos 0) refl g)
  ];
  below = λ j h. q.below j (omega arith) ∙ p.below j h;
  past = λ i h. q.past i (omega (arith, length-append xs ys)) ∙ p.past i (omega (arith, length-append xs ys));
}

pub puts_put : (a b c : List ℕ) (k m : ℕ) (xs : List ℤ) (z : ℤ) → m ≡ k + length xs → Puts a b k xs → Put b c m z → Puts a c k (xs ++ z ∷ [])
puts_put a b c k m xs z e p q = puts_more a b c k m xs (z ∷ []) e p (puts_one b c m z q)

pub put_same : {a b : List ℕ} {k : ℕ} {x z : ℤ} → Put a b k x → x ≡ z → Put a b k z
put_same {a} {b} {k} p e = subst (Put a b k) e p

pub puts_same : {a b : List ℕ} {k : ℕ} {xs ys : List ℤ} → Puts a b k xs → xs ≡ ys → Puts a b k ys
puts_same {a} {b} {k} p e = subst (Puts a b k) e p

-- the turn of `put_list`
pub list_turn : (a b c : List ℕ) (k i : ℕ) (xs : List ℤ) {x : ℤ} → i < length xs → Puts a b k (take i xs) → Put b c (k + i) x → x ≡ get_or xs i (pos 0) → Puts a c k (take (i + 1) xs)
list_turn a b c k i xs h p q e =
    puts_same (puts_put a b c k (k + i) (take i xs) (get_or xs i (pos 0)) (omega (arith, length-take-le i xs (omega arith))) p (put_same q e)) (sym (take_more xs i (pos 0) h))

pub row_puts : (a b c d : List ℕ) (i m : ℕ) (list : List ℤ) {x : ℤ} → length list ≡ 11 → Put a b (20 * i) x → x ≡ link_after i m
    → Puts b c (20 * i + 1) list → Puts c d (20 * i + 12) (replicate 8 (pos 0)) → Puts a d (20 * i) (row_words i m list)
row_puts a b c d i m list l p px q r =
    puts_more a b d (20 * i) (20 * i + 1) (link_after i m ∷ []) (list ++ replicate 8 (pos 0)) refl (puts_one a b (20 * i) (link_after i m) (put_same p px))
    (puts_more b c d (20 * i + 1) (20 * i + 12) list (replicate 8 (pos 0)) (omega arith) q r)

pub head_puts : (a b c d e g : List ℕ) (m : ℕ) (family : ℤ) (header : List ℤ) {x y z : ℤ} → length header ≡ 10 → Put a b 0 x → x ≡ link_after 0 m → Put b c 1 y → y ≡ pos 0 → Put c d 2 z → z ≡ family →
    Puts d e 3 header → Puts e g 13 (replicate 7 (pos 0)) → Puts a g 0 (head_words m family header)
head_puts a b c d e g m family header l p px q qy r rz s t =
    puts_more a b g 0 1 (link_after 0 m ∷ []) (pos 0 ∷ family ∷ (header ++ replicate 7 (pos 0))) refl (puts_one a b 0 (link_after 0 m) (put_same p px))
    (puts_more b c g 1 2 (pos 0 ∷ []) (family ∷ (header ++ replicate 7 (pos 0))) refl (puts_one b c 1 (pos 0) (put_same q qy))
    (puts_more c d g 2 3 (family ∷ []) (header ++ replicate 7 (pos 0)) refl (puts_one c d 2 family (put_same r rz))
    (puts_more d e g 3 13 header (replicate 7 (pos 0)) (omega arith) s t)))
