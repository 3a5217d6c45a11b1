-- The offers that calls make, one after the other.
use Rattle.std.proofs.Common.{◌≡◌, ℕ, ◌+◌, ◌<◌, List, [], ◌∷◌, ◌++◌, length, get_or, take, sym, refl, ap, ◌∙◌, ap₂, arith}
use Rattle.std.proofs.lemmas.List.{take_all, take_more}
use Rattle.file.specs.declared.call.Call.{Call}
use Rattle.search.specs.declared.offer.Offer.{Offer}
use Rattle.search.specs.Runs.{call_of, calls_in}
use Rattle.judge.specs.Problems.{call_made, calls_made}

offers_append : (xs ys : List Offer) → calls_in (xs ++ ys) ≡ calls_in xs ++ calls_in ys
offers_append [] ys = refl
offers_append (x ∷ xs) ys = ap (λ cs. call_of x ∷ cs) (offers_append xs ys)

made_append : (xs ys : List Call) → calls_made (xs ++ ys) ≡ calls_made xs ++ calls_made ys
made_append [] ys = refl
made_append (x ∷ xs) ys = ap (λ cs. call_made x ∷ cs) (made_append xs ys)

pub one_more : (offers offers' : List Offer) (calls : List Call) (i : ℕ) (o : Offer) (d : Call) → offers' ≡ offers ++ (o ∷ []) → i < length calls → call_of o ≡ call_made (get_or calls i d) → calls_in offers ≡ calls_made (take i calls)
    → calls_in offers' ≡ calls_made (take (i + 1) calls)
one_more offers offers' calls i o d n k e so =
    ap calls_in n ∙ offers_append offers (o ∷ []) ∙ ap₂ (λ a b. a ++ (b ∷ [])) so e
    ∙ sym (ap calls_made (take_more calls i d k) ∙ made_append (take i calls) (get_or calls i d ∷ []))

pub all_made : (offers : List Offer) (calls : List Call) (i : ℕ) → i ≡ length calls → calls_in offers ≡ calls_made (take i calls) → calls_in offers ≡ calls_made calls
all_made offers calls i e so = so ∙ ap calls_made (take_all i calls (omega arith))
