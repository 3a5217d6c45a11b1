-- Every verdict is true.
use Rattle.std.proofs.Common.{◌≡◌, ℕ, ◌<◌, true, ◌⊎◌, List, [], ◌∷◌, ℤ, Some, None, Ok, Option, sym, refl, ap, ◌∙◌, subst, inl, inr, ⊎_elim}
use mathlib.Core.Path.{fun_ext}
use Rattle.std.proofs.lemmas.Bool.{false≢true, cases_eq, eq-eqb, ne_eqb}
use Rattle.family.specs.declared.judgement.Judgement.{Judgement}
use Rattle.family.specs.declared.judgement.Judgement.TheVariants.{Void, Bound}
use Rattle.family.specs.declared.side.Side.{Side}
use Rattle.family.specs.declared.side.Side.TheVariants.{Lower, Upper}
use Rattle.family.specs.Fractions.{Fraction, at_most, lessened}
use Rattle.family.specs.Meaning.{Meaning, Laws, freed}
use Rattle.family.specs.Points.{AnyPoint, point_in, proof_in}
use Rattle.family.specs.Sides.{fixed}
use Rattle.search.specs.Tally.{OnTop, Sides, all_free, Call, Held, Tally, Deed, take, keep, close, branch, apply, fresh, rest, branched, point_cost, beats, after, verdict_of, cost_of, numbers_of, report_of}
use Rattle.search.specs.Claims.{AdmittedAt, Says, Sound}
use Rattle.search.proofs.Fractions.{at_most_trans, lessened_at_most, cheaper_at_most}
use Rattle.search.proofs.Steps.{Legal, Shown, May, kept, point_fine, fair_point}
use Rattle.search.proofs.Offers.{offered_point, offered_proof}

-- P of some node
abbrev SomeOf : (Sides → Type 0) → List Sides → Type 0
SomeOf P [] = ⊥
SomeOf P (s ∷ ss) = P s ⊎ SomeOf P ss

-- a free row that is fixed and freed again is as it was
freed_fixed : (s : Sides) (r : ℕ) (d : Side) → s r ≡ None → freed (fixed s r d) r ≡ s
freed_fixed s r d f = fun_ext (λ k. at k)
  where
    at : (k : ℕ) → freed (fixed s r d) r k ≡ s k
    at k = ⊎_elim (λ e. rw (eq-eqb k r e) (sym f ∙ ap s (sym e))) (λ ne. rw (ne_eqb k r ne)) (cases_eq k r)

placed : (P : Sides → Type 0) (s : Sides) (ss : List Sides) (r : ℕ) (d e : Side) → P (fixed s r e) → SomeOf P (branched r d (s ∷ ss))
placed P s ss r Lower Lower h = inl h
placed P s ss r Lower Upper h = inr (inl h)
placed P s ss r Upper Lower h = inr (inl h)
placed P s ss r Upper Upper h = inl h

passed : (P : Sides → Type 0) (s : Sides) (ss : List Sides) (r : ℕ) (d : Side) → SomeOf P ss → SomeOf P (branched r d (s ∷ ss))
passed P s ss r Lower h = inr (inr h)
passed P s ss r Upper h = inr (inr h)

module _ (M : Meaning) (laws : Laws M) (gap : ℕ) where
  -- the held point is admitted at its cost
  abbrev True : Option Held → Type 0
  True None = Unit {0}
  True (Some h) = point_cost M h.numbers ≡ Ok h.cost

  -- x costs no less than the held point less the gap
  abbrev Beaten : Option Held → AnyPoint → Type 0
  Beaten None x = ⊥
  Beaten (Some h) x = at_most (lessened gap h.cost) (M.cost all_free x) ≡ true

  -- x is admitted at a node, at the cost that it has with every switch free
  abbrev Here : AnyPoint → Sides → Type 0
  Here x s = M.admits s x × (M.cost s x ≡ M.cost all_free x)

  abbrev Covered : List Sides → Option Held → Type 0
  Covered ss held = (x : AnyPoint) → 0 < x.q → M.admits all_free x → SomeOf (Here x) ss ⊎ Beaten held x

  abbrev Safe : Tally → Type 0
  Safe t = True t.held × Covered t.pending t.held

  beaten_less : (held : Option Held) (list : List ℤ) (c : Fraction) (x : AnyPoint) → 0 < x.q → True held → point_cost M list ≡ Ok c → beats c held ≡ true → Beaten held x → Beaten (Some (record { numbers = list; cost = c })) x
  beaten_less None list c x q ok j b z = absurd z
  beaten_less (Some h) list c x q ok j b z =
      let new = (fair_point M laws list c j).positive in
      let old = (fair_point M laws h.numbers h.cost ok).positive in
      at_most_trans (lessened gap c) (lessened gap h.cost) (M.cost all_free x) new old (laws.positive all_free x q)
      (lessened_at_most gap c h.cost new old (cheaper_at_most c h.cost b)) z

  shut_beaten : (held : Option Held) (list : List ℤ) (j : Judgement) (s : Sides) (x : AnyPoint) → 0 < x.q → True held → Shown M gap held list j s → Here x s → Beaten held x
  shut_beaten held list Void s x q ok h a = absurd (laws.void s (proof_in list) (offered_proof M.m list h.fine) h.shown x q a.0)
  shut_beaten None list (Bound b) s x q ok h a = absurd (false≢true h.shut)
  shut_beaten (Some held) list (Bound b) s x q ok h a =
      let offered = offered_proof M.m list h.fine in
      let below : at_most b (M.cost all_free x) ≡ true = subst (λ c. at_most b c ≡ true) a.1 (laws.bound s (proof_in list) b offered h.shown x q a.0) in
      at_most_trans (lessened gap held.cost) b (M.cost all_free x) (fair_point M laws held.numbers held.cost ok).positive (laws.fair_bound s (proof_in list) b offered h.shown).positive (laws.positive all_free x q) h.shut below

  on_close : (held : Option Held) (j : Judgement) (ss : List Sides) (x : AnyPoint) → 0 < x.q → True held → OnTop (λ s. (list : List ℤ) × Shown M gap held list j s) ss → SomeOf (Here x) ss ⊎ Beaten held x → SomeOf (Here x) (rest ss) ⊎ Beaten held x
  on_close held j [] x q ok top o = absurd top
  on_close held j (s ∷ ss) x q ok top (inr b) = inr b
  on_close held j (s ∷ ss) x q ok top (inl (inl a)) = inr (shut_beaten held top.0 j s x q ok top.1 a)
  on_close held j (s ∷ ss) x q ok top (inl (inr z)) = inl z

  -- a point that is admitted at a node is admitted at one of its children, at the same cost
  child : (s : Sides) (r : ℕ) (x : AnyPoint) → May M r s → Here x s → (d : Side) × Here x (fixed s r d)
  child s r x may a =
      let p = laws.splits s r x may.switch may.free a.0 in
      let same : M.cost (freed (fixed s r p.0) r) x ≡ M.cost (fixed s r p.0) x = (laws.frees (fixed s r p.0) r x may.switch p.1).1 in
      (p.0, (p.1, sym same ∙ ap (λ k. M.cost k x) (freed_fixed s r p.0 may.free) ∙ a.1))

  on_branch : (held : Option Held) (ss : List Sides) (r : ℕ) (d : Side) (x : AnyPoint) → OnTop (May M r) ss → SomeOf (Here x) ss ⊎ Beaten held x → SomeOf (Here x) (branched r d ss) ⊎ Beaten held x
  on_branch held [] r d x top o = absurd top
  on_branch held (s ∷ ss) r d x top (inr b) = inr b
  on_branch held (s ∷ ss) r d x top (inl (inl a)) = let c = child s r x top a in inl (placed (Here x) s ss r d c.0 c.1)
  on_branch held (s ∷ ss) r d x top (inl (inr z)) = inl (passed (Here x) s ss r d z)

  safe : (t : Tally) (deed : Deed) → Legal M gap t deed → Safe t → Safe (apply t deed)
  safe t (take list c) l k = (l.0, λ x q a. ⊎_elim inl (λ b. inr (beaten_less t.held list c x q k.0 l.0 l.1 b)) (k.1 x q a))
  safe t (keep c) l k = k
  safe t (close j) l k = (k.0, λ x q a. on_close t.held j t.pending x q k.0 l (k.1 x q a))
  safe t (branch r d) l k = (k.0, λ x q a. on_branch t.held t.pending r d x l (k.1 x q a))

  held_admitted : (h : Held) → point_cost M h.numbers ≡ Ok h.cost → AdmittedAt M h.cost h.numbers
  held_admitted h e =
      let p = point_fine M h.numbers h.cost e in
      let a = laws.taken all_free (point_in h.numbers) h.cost (offered_point M.n h.numbers p.0) p.1 in
      record { fine = p.0; admitted = a.0; at_cost = a.1 }

  says : (ss : List Sides) (held : Option Held) → True held → Covered ss held → Says M gap (verdict_of ss held) (cost_of held) (numbers_of held)
  says (s ∷ ss) held ok k = tt
  says [] None ok k = λ x q a. ⊎_elim (λ z. z) (λ z. z) (k x q a)
  says [] (Some h) ok k = (held_admitted h ok, λ x q a. ⊎_elim absurd (λ z. z) (k x q a))

  pub all_safe : (calls : List Call) → Safe (after M gap fresh calls)
  all_safe calls = kept M gap Safe safe fresh calls (tt, λ x q a. inl (inl (a, refl)))

  pub sound : (calls : List Call) → Sound M gap (report_of (after M gap fresh calls)) (numbers_of (after M gap fresh calls).held)
  sound calls = let k = all_safe calls in says (after M gap fresh calls).pending (after M gap fresh calls).held k.0 k.1
