-- The held point is the earliest among the cheapest of the admitted points among the calls.
use Rattle.std.proofs.Common.{◌≡◌, ℕ, Bool, true, false, cond, List, [], ◌∷◌, ◌++◌, ℤ, IfOk, Some, None, Ok, Err, Option, Result, sym, refl, ap, ◌∙◌, subst, append_assoc}
use Rattle.std.specs.Result.{result_map_both}
use Rattle.std.proofs.lemmas.Bool.{true≢false}
use Rattle.family.specs.declared.fault.Fault.{Fault}
use Rattle.family.specs.declared.judgement.Judgement.{Judgement}
use Rattle.family.specs.declared.side.Side.{Side}
use Rattle.family.specs.Fractions.{Fraction, at_most, cheaper}
use Rattle.family.specs.Meaning.{Meaning, Laws}
use Rattle.search.specs.Tally.{Call, point, proof, split, Held, Tally, fresh, point_cost, beats, proof_shows, split_fixes, take, keep, close, branch, apply, changed, step, after}
use Rattle.search.specs.Claims.{EachCost, Earliest, HoldsEarliest}
use Rattle.search.proofs.Fractions.{cheaper_at_most, not_cheaper, cheaper_trans}
use Rattle.search.proofs.Steps.{fair_point, after_append, grown}

cases_weaker : {P Q : Fraction → Type 0} (r : Result Fraction Fault) → ((c : Fraction) → r ≡ Ok c → P c → Q c) → IfOk r P → IfOk r Q
cases_weaker (Ok c) k h = k c refl h
cases_weaker (Err e) k h = tt

module _ (M : Meaning) where
  each_append : (P : Fraction → Type 0) (xs ys : List Call) → EachCost M P xs → EachCost M P ys → EachCost M P (xs ++ ys)
  each_append P [] ys a b = b
  each_append P (point list ∷ xs) ys a b = (a.0, each_append P xs ys a.1 b)
  each_append P (proof list ∷ xs) ys a b = each_append P xs ys a b
  each_append P (split row side ∷ xs) ys a b = each_append P xs ys a b

  each_weaker : (P Q : Fraction → Type 0) (xs : List Call) → ((list : List ℤ) (c : Fraction) → point_cost M list ≡ Ok c → P c → Q c) → EachCost M P xs → EachCost M Q xs
  each_weaker P Q [] k h = tt
  each_weaker P Q (point list ∷ xs) k h = (cases_weaker (point_cost M list) (k list) h.0, each_weaker P Q xs k h.1)
  each_weaker P Q (proof list ∷ xs) k h = each_weaker P Q xs k h
  each_weaker P Q (split row side ∷ xs) k h = each_weaker P Q xs k h

  -- one more call, of which no cost is below the held one
  longer_some : (calls : List Call) (c : Call) (h : Held) → Earliest M calls h → EachCost M (λ x. at_most h.cost x ≡ true) (c ∷ []) → Earliest M (calls ++ (c ∷ [])) h
  longer_some calls c h e k =
      record {
        before = e.before;
        later = e.later ++ (c ∷ []);
        here = ap (λ l. l ++ (c ∷ [])) e.here ∙ append_assoc e.before (point h.numbers ∷ e.later) (c ∷ []);
        cost = e.cost;
        first = e.first;
        cheapest = each_append (λ x. at_most h.cost x ≡ true) e.later (c ∷ []) e.cheapest k;
      }

  -- one more call, which has no cost
  longer : (calls : List Call) (c : Call) (held : Option Held) → ((P : Fraction → Type 0) → EachCost M P (c ∷ [])) → HoldsEarliest M calls held → HoldsEarliest M (calls ++ (c ∷ [])) held
  longer calls c None k h = each_append (λ x. ⊥) calls (c ∷ []) h (k (λ x. ⊥))
  longer calls c (Some held) k h = longer_some calls c held h (k (λ x. at_most held.cost x ≡ true))

  -- a point that is cheaper than all before it
  newest : (calls : List Call) (list : List ℤ) (c : Fraction) → point_cost M list ≡ Ok c → EachCost M (λ x. cheaper c x ≡ true) calls → Earliest M (calls ++ (point list ∷ [])) (record { numbers = list; cost = c })
  newest calls list c e k = record { before = calls; later = []; here = refl; cost = e; first = k; cheapest = tt }

  module _ (laws : Laws M) where
    cheaper_than_all : (calls : List Call) (held : Option Held) (list : List ℤ) (c : Fraction) → point_cost M list ≡ Ok c → beats c held ≡ true → HoldsEarliest M calls held → EachCost M (λ x. cheaper c x ≡ true) calls
    cheaper_than_all calls None list c e b h = each_weaker (λ x. ⊥) (λ x. cheaper c x ≡ true) calls (λ l x j z. absurd z) h
    cheaper_than_all calls (Some held) list c e b h =
        let P : Fraction → Type 0 = λ x. cheaper c x ≡ true in
        let front = each_weaker (λ x. cheaper held.cost x ≡ true) P h.before (λ l x j z. down l x j (cheaper_at_most held.cost x z)) h.first in
        let back = each_weaker (λ x. at_most held.cost x ≡ true) P h.later (λ l x j z. down l x j z) h.cheapest in
        let here : IfOk (point_cost M held.numbers) P = subst (λ r. IfOk r P) (sym h.cost) b in
        subst (EachCost M P) (sym h.here) (each_append P h.before (point held.numbers ∷ h.later) front (here, back))
      where
        down : (l : List ℤ) (x : Fraction) → point_cost M l ≡ Ok x → at_most held.cost x ≡ true → cheaper c x ≡ true
        down l x j z = cheaper_trans c held.cost x (fair_point M laws list c e).positive (fair_point M laws held.numbers held.cost h.cost).positive (fair_point M laws l x j).positive b z

    -- a point that does not beat the held one
    no_better : (calls : List Call) (held : Option Held) (list : List ℤ) (c : Fraction) → point_cost M list ≡ Ok c → beats c held ≡ false → HoldsEarliest M calls held → HoldsEarliest M (calls ++ (point list ∷ [])) held
    no_better calls None list c e b h = absurd (true≢false b)
    no_better calls (Some held) list c e b h =
        longer_some calls (point list) held h (subst (λ r. IfOk r (λ x. at_most held.cost x ≡ true)) (sym e) (not_cheaper c held.cost b), tt)

    module _ (gap : ℕ) where
      on_point : (calls : List Call) (t : Tally) (list : List ℤ) → HoldsEarliest M calls t.held → HoldsEarliest M (calls ++ (point list ∷ [])) (step M gap t (point list)).held
      unfolding step
      on_point calls t list h = go (point_cost M list) refl
        where
          chosen : (c : Fraction) → point_cost M list ≡ Ok c → (b : Bool) → beats c t.held ≡ b → HoldsEarliest M (calls ++ (point list ∷ [])) (apply t (cond b (take list c) (keep c))).held
          chosen c e true b = newest calls list c e (cheaper_than_all calls t.held list c e b h)
          chosen c e false b = no_better calls t.held list c e b h

          go : (r : Result Fraction Fault) → point_cost M list ≡ r → HoldsEarliest M (calls ++ (point list ∷ [])) (changed t (result_map_both (λ cost. cond (beats cost t.held) (take list cost) (keep cost)) (λ e. e) r)).held
          go (Ok c) e = chosen c e (beats c t.held) refl
          go (Err f) e = longer calls (point list) t.held (λ P. (subst (λ r. IfOk r P) (sym e) tt, tt)) h

      held_proof : (t : Tally) (list : List ℤ) → (step M gap t (proof list)).held ≡ t.held
      unfolding step
      held_proof t list = go (proof_shows M gap t.pending t.held list)
        where
          go : (r : Result Judgement Fault) → (changed t (result_map_both close (λ e. e) r)).held ≡ t.held
          go (Ok j) = refl
          go (Err f) = refl

      held_split : (t : Tally) (row side : ℤ) → (step M gap t (split row side)).held ≡ t.held
      unfolding step
      held_split t row side = go (split_fixes M t.pending row side)
        where
          go : (r : Result (ℕ × Side) Fault) → (changed t (result_map_both (λ x. branch x.0 x.1) (λ e. e) r)).held ≡ t.held
          go (Ok x) = refl
          go (Err f) = refl

      next : (calls : List Call) (t : Tally) (c : Call) → HoldsEarliest M calls t.held → HoldsEarliest M (calls ++ (c ∷ [])) (step M gap t c).held
      next calls t (point list) h = on_point calls t list h
      next calls t (proof list) h = subst (HoldsEarliest M (calls ++ (proof list ∷ []))) (sym (held_proof t list)) (longer calls (proof list) t.held (λ P. tt) h)
      next calls t (split row side) h = subst (HoldsEarliest M (calls ++ (split row side ∷ []))) (sym (held_split t row side)) (longer calls (split row side) t.held (λ P. tt) h)

      pub earliest : (calls : List Call) → HoldsEarliest M calls (after M gap fresh calls).held
      earliest calls = grown (λ cs. HoldsEarliest M cs (after M gap fresh cs).held) on tt calls
        where
          on : (done : List Call) (c : Call) → HoldsEarliest M done (after M gap fresh done).held → HoldsEarliest M (done ++ (c ∷ [])) (after M gap fresh (done ++ (c ∷ []))).held
          on done c h = subst (λ (t : Tally). HoldsEarliest M (done ++ (c ∷ [])) t.held) (sym (after_append M gap fresh done (c ∷ []))) (next done (after M gap fresh done) c h)
