-- What is known where a deed is done, and how a fact goes over a run of calls.
use Rattle.std.proofs.Common.{◌≡◌, ℕ, Bool, true, false, cond, List, [], ◌∷◌, ◌++◌, ℤ, Some, None, Ok, Err, Option, Result, sym, refl, ap, ◌∙◌, subst, append_assoc, append-nil, arith}
use Rattle.std.specs.Result.{result_and, result_map_both}
use Rattle.std.proofs.lemmas.Bool.{false≢true}
use Rattle.family.specs.declared.fault.Fault.{Fault}
use Rattle.family.specs.declared.fault.Fault.TheVariants.{State as in_state}
use Rattle.family.specs.declared.fault.StateFault.TheVariants.{NotSwitch, AlreadyFixed, Weak}
use Rattle.family.specs.declared.judgement.Judgement.{Judgement}
use Rattle.family.specs.declared.shape.Shape.TheVariants.{Point as PointShape, Proof as ProofShape}
use Rattle.family.specs.declared.side.Side.{Side}
use Rattle.family.specs.Fractions.{Fraction, Fair}
use Rattle.family.specs.Lists.{list_fault}
use Rattle.family.specs.Meaning.{Meaning, Laws}
use Rattle.family.specs.Points.{point_in, proof_in}
use Rattle.family.proofs.Scans.{and_ok}
use Rattle.search.proofs.Offers.{offered_point}
use Rattle.search.specs.Tally.{Sides, all_free, is_free, Call, point, proof, split, Held, Tally, and_then, if_not, list_judged, point_judged, proof_judged, at_current, point_cost, beats, shuts, strong, proof_shows, row_named, side_named, split_fixes, Deed, take, keep, close, branch, apply, changed, judged, step, after, OnTop}

-- ---- results that are Ok
pub ok_not_err : {T E : Type 0} {x : T} {e : E} → ◌≡◌ {A = Result T E} (Err e) (Ok x) → ⊥
ok_not_err h = let z : ◌≡◌ {A = ℕ} 0 1 = cc in omega arith

pub mapped_ok : {T U E D : Type 0} (f : T → U) (g : E → D) (r : Result T E) {y : U} → result_map_both f g r ≡ Ok y → (x : T) × (r ≡ Ok x) × (f x ≡ y)
mapped_ok f g (Ok x) e = (x, refl, cc)
mapped_ok f g (Err d) e = absurd (ok_not_err e)

pub then_ok : {T U E : Type 0} (r : Result T E) (f : T → Result U E) {y : U} → and_then r f ≡ Ok y → (x : T) × (r ≡ Ok x) × (f x ≡ Ok y)
then_ok (Ok x) f e = (x, refl, e)
then_ok (Err d) f e = absurd (ok_not_err e)

pub cond_ok : {T : Type 0} (b : Bool) (x : T) (f : Fault) {y : T} → cond b (Ok x) (Err f) ≡ Ok y → (b ≡ true) × (x ≡ y)
cond_ok true x f e = (refl, cc)
cond_ok false x f e = absurd (ok_not_err e)

pub unit_ok : {E D : Type 0} (g : E → D) (r : Result (Unit {0}) E) → result_map_both (λ u. u) g r ≡ Ok tt → r ≡ Ok tt
unit_ok g (Ok tt) e = refl
unit_ok g (Err d) e = absurd (ok_not_err e)

pub same_ok : {T E D : Type 0} (g : E → D) (r : Result T E) {x : T} → result_map_both (λ u. u) g r ≡ Ok x → r ≡ Ok x
same_ok g r e = let m = mapped_ok (λ u. u) g r e in m.1 ∙ ap Ok m.2

pub ok_same : {T E : Type 0} {x y : T} → ◌≡◌ {A = Result T E} (Ok x) (Ok y) → x ≡ y
ok_same e = cc

-- ---- what an accepted offer shows
pub on_top : {T : Type 0} (P : Sides → Type 0) (nodes : List Sides) (f : Sides → Result T Fault) {y : T} → ((s : Sides) → f s ≡ Ok y → P s) → at_current nodes f ≡ Ok y → OnTop P nodes
on_top P [] f k e = absurd (ok_not_err e)
on_top P (s ∷ ss) f k e = k s e

pub is_free_true : (d : Option Side) → is_free d ≡ true → d ≡ None
is_free_true None e = refl
is_free_true (Some d) e = absurd (false≢true e)

-- a proof with this judgement that closes a node of these sides
pub record Shown (M : Meaning) (gap : ℕ) (held : Option Held) (list : List ℤ) (judgement : Judgement) (s : Sides) : Type 0 where
  pub fine : list_fault (ProofShape M.m) list ≡ Ok tt
  pub shown : M.judge_proof s (proof_in list) ≡ Ok judgement
  pub shut : shuts gap held judgement ≡ true

-- a switch row that is free
pub record May (M : Meaning) (r : ℕ) (s : Sides) : Type 0 where
  pub switch : M.switch r ≡ true
  pub free : s r ≡ None

module _ (M : Meaning) where
  pub point_fine : (list : List ℤ) (c : Fraction) → point_cost M list ≡ Ok c → (list_fault (PointShape M.n) list ≡ Ok tt) × (M.judge_point all_free (point_in list) ≡ Ok c)
  point_fine list c e =
      let p = and_ok (list_judged (list_fault (PointShape M.n) list)) (point_judged (M.judge_point all_free (point_in list))) e in
      (unit_ok _ (list_fault (PointShape M.n) list) p.0, same_ok _ (M.judge_point all_free (point_in list)) p.1)

  pub fair_point : Laws M → (list : List ℤ) (c : Fraction) → point_cost M list ≡ Ok c → Fair c
  fair_point laws list c e = let p = point_fine list c e in laws.fair_cost all_free (point_in list) c (offered_point M.n list p.0) p.1

module _ (M : Meaning) (gap : ℕ) where
  pub proof_fine : (nodes : List Sides) (held : Option Held) (list : List ℤ) (j : Judgement) → proof_shows M gap nodes held list ≡ Ok j → OnTop (Shown M gap held list j) nodes
  proof_fine nodes held list j e =
      let f : Sides → Result Judgement Fault = λ s. and_then (proof_judged (M.judge_proof s (proof_in list))) (strong gap held) in
      let p = and_ok (list_judged (list_fault (ProofShape M.m) list)) (at_current nodes f) e in
      let fine = unit_ok _ (list_fault (ProofShape M.m) list) p.0 in
      on_top (Shown M gap held list j) nodes f (λ s h. at_node s fine h) p.1
    where
      at_node : (s : Sides) → list_fault (ProofShape M.m) list ≡ Ok tt → and_then (proof_judged (M.judge_proof s (proof_in list))) (strong gap held) ≡ Ok j → Shown M gap held list j s
      at_node s fine h =
          let a = then_ok (proof_judged (M.judge_proof s (proof_in list))) (strong gap held) h in
          let b = cond_ok (shuts gap held a.0) a.0 (in_state Weak) a.2 in
          record { fine = fine; shown = same_ok _ (M.judge_proof s (proof_in list)) a.1 ∙ ap Ok b.1; shut = subst (λ k. shuts gap held k ≡ true) b.1 b.0 }

  pub split_fine : (nodes : List Sides) (row side : ℤ) (x : ℕ × Side) → split_fixes M nodes row side ≡ Ok x → OnTop (May M x.0) nodes
  split_fine nodes row side x e =
      let a = then_ok (row_named M.m row) (λ r. and_then (side_named side) (at_row r)) e in
      let b = then_ok (side_named side) (at_row a.0) a.2 in
      let c = and_ok (if_not (M.switch a.0) (in_state NotSwitch)) (at_current nodes (at_node a.0 b.0)) b.2 in
      let d = cond_ok (M.switch a.0) tt (in_state NotSwitch) c.0 in
      on_top (May M x.0) nodes (at_node a.0 b.0) (λ s h. free_at a.0 b.0 s d.0 h) c.1
    where
      at_node : ℕ → Side → Sides → Result (ℕ × Side) Fault
      at_node r d s = result_and (if_not (is_free (s r)) (in_state AlreadyFixed)) (Ok (r, d))

      at_row : ℕ → Side → Result (ℕ × Side) Fault
      at_row r d = result_and (if_not (M.switch r) (in_state NotSwitch)) (at_current nodes (at_node r d))

      free_at : (r : ℕ) (d : Side) (s : Sides) → M.switch r ≡ true → at_node r d s ≡ Ok x → May M x.0 s
      free_at r d s w h =
          let p = and_ok (if_not (is_free (s r)) (in_state AlreadyFixed)) (Ok (r, d)) h in
          let q = cond_ok (is_free (s r)) tt (in_state AlreadyFixed) p.0 in
          let same : r ≡ x.0 = ap (λ (y : ℕ × Side). y.0) (ok_same p.1) in
          subst (λ k. May M k s) same (record { switch = w; free = is_free_true (s r) q.0 })

  -- what is known where a deed is done
  abbrev pub Legal : Tally → Deed → Type 0
  Legal t (take list cost) = (point_cost M list ≡ Ok cost) × (beats cost t.held ≡ true)
  Legal t (keep cost) = Unit {0}
  Legal t (close judgement) = OnTop (λ s. (list : List ℤ) × Shown M gap t.held list judgement s) t.pending
  Legal t (branch r d) = OnTop (May M r) t.pending

  pub legal : (t : Tally) (c : Call) (deed : Deed) → judged M gap t c ≡ Ok deed → Legal t deed
  legal t (point list) deed e =
      let m = mapped_ok (λ cost. cond (beats cost t.held) (take list cost) (keep cost)) (λ f. f) (point_cost M list) e in
      subst (Legal t) m.2 (go m.0 m.1 (beats m.0 t.held) refl)
    where
      go : (cost : Fraction) → point_cost M list ≡ Ok cost → (b : Bool) → beats cost t.held ≡ b → Legal t (cond b (take list cost) (keep cost))
      go cost h true b = (h, b)
      go cost h false b = tt
  legal t (proof list) deed e =
      let m = mapped_ok close (λ f. f) (proof_shows M gap t.pending t.held list) e in
      subst (Legal t) m.2 (some_list t.pending m.0 (proof_fine t.pending t.held list m.0 m.1))
    where
      some_list : (nodes : List Sides) (j : Judgement) → OnTop (Shown M gap t.held list j) nodes → OnTop (λ s. (l : List ℤ) × Shown M gap t.held l j s) nodes
      some_list [] j h = h
      some_list (s ∷ ss) j h = (list, h)
  legal t (split row side) deed e =
      let m = mapped_ok (λ x. branch x.0 x.1) (λ f. f) (split_fixes M t.pending row side) e in
      subst (Legal t) m.2 (split_fine t.pending row side m.0 m.1)

  -- what each legal deed keeps, a run keeps
  pub kept_step : (P : Tally → Type 0) → ((t : Tally) (deed : Deed) → Legal t deed → P t → P (apply t deed)) → (t : Tally) (c : Call) → P t → P (step M gap t c)
  unfolding step
  kept_step P k t c p = go (judged M gap t c) refl
    where
      go : (r : Result Deed Fault) → judged M gap t c ≡ r → P (changed t r)
      go (Ok deed) e = k t deed (legal t c deed e) p
      go (Err f) e = p

  pub kept : (P : Tally → Type 0) → ((t : Tally) (deed : Deed) → Legal t deed → P t → P (apply t deed)) → (t : Tally) (calls : List Call) → P t → P (after M gap t calls)
  kept P k t [] p = p
  kept P k t (c ∷ calls) p = kept P k (step M gap t c) calls (kept_step P k t c p)

  pub after_append : (t : Tally) (xs ys : List Call) → after M gap t (xs ++ ys) ≡ after M gap (after M gap t xs) ys
  after_append t [] ys = refl
  after_append t (c ∷ xs) ys = after_append (step M gap t c) xs ys

-- calls that grow at their end
pub grown : (P : List Call → Type 0) → ((done : List Call) (c : Call) → P done → P (done ++ (c ∷ []))) → P [] → (calls : List Call) → P calls
grown P k p calls = on [] calls p
  where
    on : (done left : List Call) → P done → P (done ++ left)
    on done [] h = subst P (sym (append-nil done)) h
    on done (c ∷ left) h = subst P (append_assoc done (c ∷ []) left) (on (done ++ (c ∷ [])) left (k done c h))
