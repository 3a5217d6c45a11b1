-- One more offer of a run, and how a run ends.
use Rattle.std.proofs.Common.{◌≡◌, ℕ, ◌+◌, ◌<◌, List, [], ◌∷◌, ◌++◌, length, get_or, take, set, ℤ, Result, sym, refl, ap, ◌∙◌, subst, ap₂, arith}
use Rattle.std.proofs.lemmas.List.{take_all, take_more, take_more_set}
use Rattle.family.specs.declared.fault.Fault.{Fault}
use Rattle.family.specs.declared.gap.Gap.{Gap}
use Rattle.family.specs.Meaning.{Meaning, Laws}
use Rattle.family.specs.Reading.{gap_value}
use Rattle.search.specs.declared.inner.Inner.{Inner}
use Rattle.search.specs.declared.offer.Offer.{Offer}
use Rattle.search.specs.declared.outcome.Accepted.{Accepted}
use Rattle.search.specs.declared.report.Report.{Report}
use Rattle.search.specs.Runs.{call_of, calls_in, Ran}
use Rattle.search.specs.Shows.{Shows, Follows, report_in, numbers_in}
use Rattle.search.specs.Tally.{Call, Tally, fresh, answer, answers, step, after, numbers_of}
use Rattle.search.specs.Trees.{Finds}
use Rattle.search.proofs.Ending.{report_is, numbers_are, ended_as}
use Rattle.search.proofs.Steps.{after_append}
use Rattle.search.proofs.Telling.{finds}

calls_append : (os ps : List Offer) → calls_in (os ++ ps) ≡ calls_in os ++ calls_in ps
calls_append [] ps = refl
calls_append (o ∷ os) ps = ap (λ cs. call_of o ∷ cs) (calls_append os ps)

answers_append : (M : Meaning) (gap : ℕ) (t : Tally) (h : List Call) (c : Call) → answers M gap t (h ++ (c ∷ [])) ≡ answers M gap t h ++ (answer M gap (after M gap t h) c ∷ [])
answers_append M gap t [] c = refl
answers_append M gap t (d ∷ h) c = ap (λ os. answer M gap t d ∷ os) (answers_append M gap (step M gap t d) h c)

-- what is known after the first i offers, of which the outcomes are written
pub record SoFar (M : Meaning) (gap : ℕ) (offers : List Offer) (i : ℕ) (s : Inner) (outcomes : List (Result Accepted Fault)) : Type 0 where
  pub shown : Shows s (after M gap fresh (calls_in (take i offers)))
  pub written : take i outcomes ≡ answers M gap fresh (calls_in (take i offers))

module _ (M : Meaning) (gap : ℕ) (offers : List Offer) (i : ℕ) (d : Offer) (lt : i < length offers) where
  abbrev o : Offer
  o = get_or offers i d

  calls_more : calls_in (take (i + 1) offers) ≡ calls_in (take i offers) ++ (call_of o ∷ [])
  calls_more = ap calls_in (take_more offers i d lt) ∙ calls_append (take i offers) (o ∷ [])

  abbrev before : Tally
  before = after M gap fresh (calls_in (take i offers))

  after_more : after M gap fresh (calls_in (take (i + 1) offers)) ≡ step M gap before (call_of o)
  after_more = ap (after M gap fresh) calls_more ∙ after_append M gap fresh (calls_in (take i offers)) (call_of o ∷ [])

  pub once_more : (s s' : Inner) (r : Result Accepted Fault) (xs : List (Result Accepted Fault)) → i < length xs → Follows M gap s (call_of o) s' r → SoFar M gap offers i s xs → SoFar M gap offers (i + 1) s' (set xs i r)
  once_more s s' r xs h f so = record {
    shown = subst (Shows s') (sym after_more) (f before so.shown).0;
    written =
        take_more_set xs i r h ∙ ap₂ (λ a b. a ++ (b ∷ [])) so.written (f before so.shown).1
        ∙ sym (ap (answers M gap fresh) calls_more ∙ answers_append M gap fresh (calls_in (take i offers)) (call_of o));
  }

-- a call of a family and a gap that are another's equals
pub follows_at : {F : Type 0} (meaning : F → Meaning) (f f₀ : F) (g g₀ : Gap) (s s' : Inner) (c : Call) (r : Result Accepted Fault) → f ≡ f₀ → g ≡ g₀ → Follows (meaning f) (gap_value g) s c s' r → Follows (meaning f₀) (gap_value g₀) s c s' r
follows_at meaning f f₀ g g₀ s s' c r p q h = subst (λ x. Follows (meaning f₀) (gap_value x) s c s' r) q (subst (λ x. Follows (meaning x) (gap_value g) s c s' r) p h)

pub all_done : (M : Meaning) → Laws M → (gap : ℕ) (offers : List Offer) (i : ℕ) (s : Inner) (outcomes : List (Result Accepted Fault)) (report : Report) (numbers : List ℤ)
    → i ≡ length offers → length outcomes ≡ length offers → report ≡ report_in s → numbers ≡ numbers_in s → SoFar M gap offers i s outcomes → Ran M gap (calls_in offers) report numbers outcomes
all_done M laws gap offers i s outcomes report numbers e long p q so =
    let calls = calls_in offers in
    let all : take i offers ≡ offers = take_all i offers (omega arith) in
    let whole : take i outcomes ≡ outcomes = take_all i outcomes (omega arith) in
    let sh : Shows s (after M gap fresh calls) = subst (λ z. Shows s (after M gap fresh (calls_in z))) all so.shown in
    let written : outcomes ≡ answers M gap fresh calls = sym whole ∙ so.written ∙ ap (λ z. answers M gap fresh (calls_in z)) all in
    let found : Finds M gap calls report (numbers_of (after M gap fresh calls).held) (answers M gap fresh calls) =
    subst (λ z. Finds M gap calls z (numbers_of (after M gap fresh calls).held) (answers M gap fresh calls)) (report_is s (after M gap fresh calls) sh ∙ sym p) (finds M laws gap calls) in
    record {
      told = ended_as M laws gap s report numbers p q calls sh;
      answers = written;
      finds = subst (λ z. Finds M gap calls report z outcomes) (numbers_are s (after M gap fresh calls) sh ∙ sym q) (subst (Finds M gap calls report (numbers_of (after M gap fresh calls).held)) (sym written) found);
    }

-- a run of a family and a gap that are another's equals
pub ran_at : {F : Type 0} (meaning : F → Meaning) (f f₀ : F) (g g₀ : Gap) (calls : List Call) (report : Report) (numbers : List ℤ) (outcomes : List (Result Accepted Fault)) → f ≡ f₀ → g ≡ g₀ → Ran (meaning f) (gap_value g) calls report numbers outcomes → Ran (meaning f₀) (gap_value g₀) calls report numbers outcomes
ran_at meaning f f₀ g g₀ calls report numbers outcomes p q h = subst (λ x. Ran (meaning f₀) (gap_value x) calls report numbers outcomes) q (subst (λ x. Ran (meaning x) (gap_value g) calls report numbers outcomes) p h)
