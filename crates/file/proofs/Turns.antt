-- The turns of a walk along a chain.
use Rattle.std.proofs.Common.{◌≡◌, ℕ, zero, suc, ◌+◌, ◌-◌, ◌<◌, ◌≤◌, List, [], ◌∷◌, ◌++◌, length, ℤ, IsErrAnd, Some, None, Ok, Err, Option, Result, sym, ap, ◌∙◌, subst, arith, MatchResult}
use Rattle.std.proofs.lemmas.List.{length-append}
use Rattle.file.specs.declared.call.Call.{Call}
use Rattle.file.specs.declared.fault.FileFault.{FileFault}
use Rattle.file.specs.declared.fault.FileFault.TheVariants.{Link}
use Rattle.file.specs.Chains.{next, goes, chained}
use Rattle.file.specs.Files.{call_added}
use Rattle.file.specs.Records.{and_then, call_in}
use Rattle.file.specs.declared.records.Record.{Record}
use Rattle.file.specs.declared.records.Records.{Records}
use Rattle.file.specs.Walks.{New, Names, words_in, words_of}
use Rattle.file.specs.Words.{word}

-- what the exit of a `?` returns is the fault d
pub stopped : {T E A : Type 0} (P : T → Type 0) (x : Result A E) (r : Result T E) (d : E) → x ≡ Err d → IsErrAnd r (λ y. y ≡ d) → MatchResult r P (λ e. x ≡ Err e)
stopped P x (Ok t) d e by = elim by [ ]
stopped P x (Err y) d e by = e ∙ ap Err (sym by)

-- what is known of a record to go on to; o is what `next` gave
module _ (n : ℕ) (reached : List ℕ) (k : ℕ) {o : Option ℕ} (is : o ≡ Some k) (new : New (Ok o) n reached) where
  pub there : New (Ok (Some k)) n reached
  there = subst (λ (x : Option ℕ). New (Ok x) n reached) is new

  pub longer : {reached' : List ℕ} → reached' ≡ reached ++ (k ∷ []) → 819 - length reached' < 819 - length reached
  longer {reached'} items = omega (arith, there.2, ap length items, length-append reached (k ∷ []))

-- what takes up room grew by one at most, and there is one record more
pub both_longer : {size size' : ℕ} (reached : List ℕ) (k : ℕ) {reached' : List ℕ} → size ≤ length reached → size' ≤ size + 1 → reached' ≡ reached ++ (k ∷ []) → size' ≤ length reached'
both_longer reached k h g q = omega (arith, ap length q, length-append reached (k ∷ []))

-- a record by itself, and as the file has it
pub same_added : {S : Type 0} (added : (ℕ → ℤ) → ℕ → S → Result S FileFault) {records : Records} {r : ℕ} {one : Record} {s : S} → Names records r one
    → added (words_of one) one.at s ≡ added (words_in records) r s
same_added added {s = s} n = λ i. added (word (n.same i)) (n.at i) s

pub call_fault : (f : ℕ → ℤ) (r : ℕ) (calls : List Call) {d : FileFault} → Err d ≡ call_in f r → call_added f r calls ≡ Err d
call_fault f r calls e = λ i. and_then (sym e i) (λ call. Ok (calls ++ (call ∷ [])))

pub call_more : (f : ℕ → ℤ) (r : ℕ) (calls : List Call) {call : Call} {calls' : List Call} → Ok call ≡ call_in f r → calls' ≡ calls ++ (call ∷ []) → call_added f r calls ≡ Ok calls'
call_more f r calls e p = (λ i. and_then (sym e i) (λ call. Ok (calls ++ (call ∷ [])))) ∙ ap Ok (sym p)

module _ {S : Type 0} (visit : ℕ → S → Result S FileFault) (f : ℕ → ℤ) (n : ℕ) (reached : List ℕ) (s : S) (r w : ℕ) where
  -- the link leads to the end
  pub chained_end : (turns : ℕ) → Ok None ≡ next f n reached r w → chained visit f n turns reached s r w ≡ Ok (s, reached)
  unfolding chained
  chained_end zero e = λ i. goes (sym e i) (Ok (s, reached)) (λ k. Err (Link r w))
  chained_end (suc turns) e = λ i. goes (sym e i) (Ok (s, reached)) (λ k. and_then (visit k s) (λ s'. chained visit f n turns (reached ++ (k ∷ [])) s' k 0))

  -- the link has a fault
  pub chained_fault : (turns : ℕ) (d : FileFault) → Err d ≡ next f n reached r w → chained visit f n turns reached s r w ≡ Err d
  unfolding chained
  chained_fault zero d e = λ i. goes (sym e i) (Ok (s, reached)) (λ k. Err (Link r w))
  chained_fault (suc turns) d e = λ i. goes (sym e i) (Ok (s, reached)) (λ k. and_then (visit k s) (λ s'. chained visit f n turns (reached ++ (k ∷ [])) s' k 0))

  -- the link leads on to k
  chained_on : (turns k : ℕ) → Ok (Some k) ≡ next f n reached r w
      → chained visit f n (suc turns) reached s r w ≡ and_then (visit k s) (λ s'. chained visit f n turns (reached ++ (k ∷ [])) s' k 0)
  unfolding chained
  chained_on turns k e = λ i. goes (sym e i) (Ok (s, reached)) (λ k. and_then (visit k s) (λ s'. chained visit f n turns (reached ++ (k ∷ [])) s' k 0))

  chained_visit : (k : ℕ) → length reached < 819 → Ok (Some k) ≡ next f n reached r w
      → chained visit f n (819 - length reached) reached s r w ≡ and_then (visit k s) (λ s'. chained visit f n (819 - (length reached + 1)) (reached ++ (k ∷ [])) s' k 0)
  chained_visit k h e =
      let p : 819 - length reached ≡ suc (819 - (length reached + 1)) = omega arith in
      (λ i. chained visit f n (p i) reached s r w) ∙ chained_on (819 - (length reached + 1)) k e

  -- the record that the link leads to has a fault; o is what `next` gave
  module _ (k : ℕ) {o : Option ℕ} (is : o ≡ Some k) (on : Ok o ≡ next f n reached r w) (new : New (Ok o) n reached) where
    pub turn_fault : {d : FileFault} → visit k s ≡ Err d → chained visit f n (819 - length reached) reached s r w ≡ Err d
    turn_fault e =
        chained_visit k (there n reached k is new).2 (ap Ok (sym is) ∙ on) ∙ (λ i. and_then (e i) (λ s'. chained visit f n (819 - (length reached + 1)) (reached ++ (k ∷ [])) s' k 0))

    -- a turn of the loop
    pub turn : {s' : S} {reached' : List ℕ} → visit k s ≡ Ok s' → reached' ≡ reached ++ (k ∷ [])
        → chained visit f n (819 - length reached) reached s r w ≡ chained visit f n (819 - length reached') reached' s' k 0
    turn {s'} {reached'} e items =
        let len : length reached + 1 ≡ length reached' = omega (arith, ap length items, length-append reached (k ∷ [])) in
        chained_visit k (there n reached k is new).2 (ap Ok (sym is) ∙ on)
        ∙ (λ i. and_then (e i) (λ s'. chained visit f n (819 - (length reached + 1)) (reached ++ (k ∷ [])) s' k 0))
        ∙ (λ i. chained visit f n (819 - len i) (sym items i) s' k 0)
