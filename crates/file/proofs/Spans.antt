-- Words in a row.
use Rattle.std.proofs.Common.{◌≡◌, ℕ, ◌+◌, ◌<◌, ◌≤◌, List, [], ◌∷◌, ◌++◌, length, take, set, ℤ, sym, refl, ◌∙◌, add-one, arith}
use Rattle.std.proofs.lemmas.List.{take_more_set, take_all}
use Rattle.file.specs.Words.{span}

pub span_none : (f : ℕ → ℤ) (k : ℕ) → [] ≡ span f k 0
unfolding span
span_none f k = refl

pub span_turn : (f : ℕ → ℤ) (k i : ℕ) (xs : List ℤ) {x : ℤ} → i < length xs → take i xs ≡ span f k i → x ≡ f (k + i) → take (i + 1) (set xs i x) ≡ span f k (i + 1)
unfolding span
span_turn f k i xs {x} h e s = take_more_set xs i x h ∙ (λ t. e t ++ (s t ∷ [])) ∙ (λ t. span f k (sym (add-one i) t))

pub span_all : (f : ℕ → ℤ) (k i n : ℕ) (xs : List ℤ) → length xs ≡ n → n ≤ i → i ≤ n → take i xs ≡ span f k i → xs ≡ span f k n
span_all f k i n xs l ge le e = let s : i ≡ n = omega arith in sym (take_all i xs (omega arith)) ∙ e ∙ (λ t. span f k (s t))
