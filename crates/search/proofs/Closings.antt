-- Closed nodes and splits count the accepted proofs and splits, and each closed node had its proof.
use Rattle.std.proofs.Common.{◌≡◌, ℕ, ◌+◌, Bool, true, false, cond, List, [], ◌∷◌, ◌++◌, length, ℤ, Ok, Err, Result, sym, refl, ap, ◌∙◌, subst, append_assoc, arith}
use Rattle.std.specs.Result.{result_map_both}
use Rattle.family.specs.declared.fault.Fault.{Fault}
use Rattle.family.specs.declared.judgement.Judgement.{Judgement}
use Rattle.family.specs.declared.side.Side.{Side}
use Rattle.family.specs.Fractions.{Fraction}
use Rattle.family.specs.Meaning.{Meaning}
use Rattle.search.specs.Tally.{OnTop, Sides, Call, point, proof, split, Tally, fresh, point_cost, beats, proof_shows, split_fixes, Deed, take, keep, close, branch, closing, apply, changed, told, judged, answer, step, after, answers}
use Rattle.search.specs.Claims.{count, is_closing, is_splitting, HadProof, Every}
use Rattle.search.proofs.Steps.{Shown, legal, proof_fine, after_append, grown}

abbrev one : Bool → ℕ
one b = cond b 1 0

closing_more : (P : Sides → Type 0) (ss done : List Sides) → OnTop P ss → length (closing ss done) ≡ length done + 1
closing_more P [] done top = absurd top
closing_more P (s ∷ ss) done top = omega arith

pub every_weaker : {T : Type 0} (P Q : T → Type 0) (xs : List T) → ((x : T) → P x → Q x) → Every P xs → Every Q xs
every_weaker P Q [] k h = tt
every_weaker P Q (x ∷ xs) k h = (k x h.0, every_weaker P Q xs k h.1)

module _ (M : Meaning) (gap : ℕ) where
  -- ---- the counts
  closed_more : (t : Tally) (c : Call) → length (step M gap t c).closed ≡ length t.closed + one (is_closing (answer M gap t c))
  unfolding step
  closed_more t c = go (judged M gap t c) refl
    where
      go : (r : Result Deed Fault) → judged M gap t c ≡ r → length (changed t r).closed ≡ length t.closed + one (is_closing (result_map_both told (λ e. e) r))
      go (Ok (take list cost)) e = omega arith
      go (Ok (keep cost)) e = omega arith
      go (Ok (close j)) e = closing_more (λ s. (list : List ℤ) × Shown M gap t.held list j s) t.pending t.closed (legal M gap t c (close j) e)
      go (Ok (branch r d)) e = omega arith
      go (Err f) e = omega arith

  splits_more : (t : Tally) (c : Call) → (step M gap t c).splits ≡ t.splits + one (is_splitting (answer M gap t c))
  unfolding step
  splits_more t c = go (judged M gap t c)
    where
      go : (r : Result Deed Fault) → (changed t r).splits ≡ t.splits + one (is_splitting (result_map_both told (λ e. e) r))
      go (Ok (take list cost)) = omega arith
      go (Ok (keep cost)) = omega arith
      go (Ok (close j)) = omega arith
      go (Ok (branch r d)) = refl
      go (Err f) = omega arith

  closings_from : (t : Tally) (calls : List Call) → length (after M gap t calls).closed ≡ length t.closed + count is_closing (answers M gap t calls)
  closings_from t [] = omega arith
  closings_from t (c ∷ calls) = omega (arith, closings_from (step M gap t c) calls, closed_more t c)

  splittings_from : (t : Tally) (calls : List Call) → (after M gap t calls).splits ≡ t.splits + count is_splitting (answers M gap t calls)
  splittings_from t [] = omega arith
  splittings_from t (c ∷ calls) = omega (arith, splittings_from (step M gap t c) calls, splits_more t c)

  pub closings : (calls : List Call) → length (after M gap fresh calls).closed ≡ count is_closing (answers M gap fresh calls)
  closings calls = omega (arith, closings_from fresh calls)

  pub splittings : (calls : List Call) → (after M gap fresh calls).splits ≡ count is_splitting (answers M gap fresh calls)
  splittings calls = omega (arith, splittings_from fresh calls)

  -- ---- the proofs of the closed nodes
  had_still : (calls : List Call) (c : Call) (s : Sides) → HadProof M gap calls s → HadProof M gap (calls ++ (c ∷ [])) s
  had_still calls c s h =
      record {
        before = h.before;
        list = h.list;
        later = h.later ++ (c ∷ []);
        judgement = h.judgement;
        others = h.others;
        here = ap (λ l. l ++ (c ∷ [])) h.here ∙ append_assoc h.before (proof h.list ∷ h.later) (c ∷ []);
        current = h.current;
        accepted = h.accepted;
        shown = h.shown;
        shut = h.shut;
      }

  closed_point : (t : Tally) (list : List ℤ) → t.closed ≡ (step M gap t (point list)).closed
  unfolding step
  closed_point t list = go (point_cost M list)
    where
      either : (c : Fraction) (b : Bool) → t.closed ≡ (apply t (cond b (take list c) (keep c))).closed
      either c true = refl
      either c false = refl

      go : (r : Result Fraction Fault) → t.closed ≡ (changed t (result_map_both (λ cost. cond (beats cost t.held) (take list cost) (keep cost)) (λ e. e) r)).closed
      go (Ok c) = either c (beats c t.held)
      go (Err f) = refl

  closed_split : (t : Tally) (row side : ℤ) → t.closed ≡ (step M gap t (split row side)).closed
  unfolding step
  closed_split t row side = go (split_fixes M t.pending row side)
    where
      go : (r : Result (ℕ × Side) Fault) → t.closed ≡ (changed t (result_map_both (λ x. branch x.0 x.1) (λ e. e) r)).closed
      go (Ok x) = refl
      go (Err f) = refl

  module _ (done : List Call) where
    abbrev Now : Tally
    Now = after M gap fresh done

    abbrev All : Call → List Sides → Type 0
    All c ss = Every (HadProof M gap (done ++ (c ∷ []))) ss

    had_new : (list : List ℤ) (j : Judgement) (nodes : List Sides) → Now.pending ≡ nodes → proof_shows M gap Now.pending Now.held list ≡ Ok j → OnTop (Shown M gap Now.held list j) nodes → All (proof list) Now.closed → All (proof list) (closing nodes Now.closed)
    had_new list j [] p e top h = absurd top
    had_new list j (s ∷ ss) p e top h = (
      record {
        before = done;
        list = list;
        later = [];
        judgement = j;
        others = ss;
        here = refl;
        current = p;
        accepted = ap (λ r. result_map_both told (λ f. f) (result_map_both close (λ f. f) r)) e;
        shown = top.shown;
        shut = top.shut;
      },
      h,
    )

    on_proof : (list : List ℤ) → All (proof list) Now.closed → All (proof list) (step M gap Now (proof list)).closed
    unfolding step
    on_proof list h = go (proof_shows M gap Now.pending Now.held list) refl
      where
        go : (r : Result Judgement Fault) → proof_shows M gap Now.pending Now.held list ≡ r → All (proof list) (changed Now (result_map_both close (λ f. f) r)).closed
        go (Ok j) e = had_new list j Now.pending refl e (proof_fine M gap Now.pending Now.held list j e) h
        go (Err f) e = h

    next : (c : Call) → All c Now.closed → All c (step M gap Now c).closed
    next (point list) h = subst (All (point list)) (closed_point Now list) h
    next (proof list) h = on_proof list h
    next (split row side) h = subst (All (split row side)) (closed_split Now row side) h

  pub proved : (calls : List Call) → Every (HadProof M gap calls) (after M gap fresh calls).closed
  proved calls = grown (λ cs. Every (HadProof M gap cs) (after M gap fresh cs).closed) on tt calls
    where
      on : (done : List Call) (c : Call) → Every (HadProof M gap done) (after M gap fresh done).closed → Every (HadProof M gap (done ++ (c ∷ []))) (after M gap fresh (done ++ (c ∷ []))).closed
      on done c h =
          subst (λ (t : Tally). Every (HadProof M gap (done ++ (c ∷ []))) t.closed) (sym (after_append M gap fresh done (c ∷ [])))
          (next done c (every_weaker (HadProof M gap done) (HadProof M gap (done ++ (c ∷ []))) (after M gap fresh done).closed (had_still done c) h))
