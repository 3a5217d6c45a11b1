-- What the judging of offers comes to, step by step.
use Rattle.std.proofs.Common.{◌≡◌, ℕ, Bool, false, cond, List, [], ◌∷◌, ℤ, pos, negsuc, None, Ok, Err, Option, Result, MatchResult, IsErrAnd, sym, refl, ap, ◌∙◌, subst, ap₂}
use Rattle.std.proofs.lemmas.Bool.{ne_eqb}
use Rattle.family.specs.declared.fault.ListFault.TheVariants.{Limit}
use Rattle.family.specs.declared.side.Side.TheVariants.{Lower, Upper}
use Rattle.family.specs.Numbers.{same, Numbered}
use Rattle.family.specs.Sides.{side_number}
use Rattle.family.specs.declared.unknown.Unknown.{Unknown}
use Rattle.std.specs.Result.{result_and, result_map_both}
use Rattle.family.specs.declared.fault.Fault.{Fault}
use Rattle.family.specs.declared.fault.Fault.TheVariants.{List as in_list, Proof as in_proof, State as in_state}
use Rattle.family.specs.declared.fault.ProofFault.{ProofFault}
use Rattle.family.specs.declared.fault.StateFault.TheVariants.{Weak}
use Rattle.family.specs.declared.judgement.Judgement.{Judgement}
use Rattle.family.specs.Points.{Point, Proof}
use Rattle.family.specs.declared.shape.Shape.TheVariants.{Point as PointShape, Proof as ProofShape}
use Rattle.family.specs.declared.side.Side.{Side}
use Rattle.family.specs.Fractions.{Fraction, Fair}
use Rattle.family.specs.Lists.{list_fault}
use Rattle.family.specs.Meaning.{Meaning, Laws}
use Rattle.family.specs.Points.{Holds, any_point, any_proof, point_in, proof_in}
use Rattle.search.proofs.Steps.{proof_fine}
use Rattle.search.specs.declared.inner.Inner.{Inner}
use Rattle.search.specs.Shows.{held_of}
use Rattle.search.specs.View.{nodes_of}
use Rattle.search.specs.Tally.{rest, Sides, all_free, Held, and_then, list_judged, proof_judged, at_current, shuts, strong, proof_shows, side_named, split_fixes}
use Rattle.search.proofs.Offers.{offered_point, point_is, proof_is}

-- ---- the numbers of a split
not_same : (z : ℤ) (n : ℕ) → (pos n ≡ z → ⊥) → same z (pos n) ≡ false
not_same (pos k) n h = ne_eqb k n (λ e. h (ap pos (sym e)))
not_same (negsuc k) n h = refl

side_is : (z : ℤ) (o : Result Side Unknown) → Numbered side_number z o → result_map_both (λ side. side) (λ _. in_list (Limit 2)) o ≡ side_named z
side_is z (Err e) h =
    sym (ap (λ b. cond b (Ok Lower) (cond (same z (pos 1)) (Ok Upper) (Err (in_list (Limit 2))))) (not_same z 0 (h Lower))
    ∙ ap (λ b. cond b (Ok Upper) (Err (in_list (Limit 2)))) (not_same z 1 (h Upper)))
side_is z (Ok Lower) h = ap side_named h
side_is z (Ok Upper) h = ap side_named h

-- P tells what the closure makes of an error
pub side_by : {P : Unknown → Fault → Type 0} (z : ℤ) (o : Result Side Unknown) (r : Result Side Fault) → Numbered side_number z o
    → MatchResult o (λ side. r ≡ Ok side) (λ e. IsErrAnd r (P e)) → ((e : Unknown) (f : Fault) → P e f → f ≡ in_list (Limit 2)) → r ≡ side_named z
side_by {P} z o r h m p = by o r m ∙ side_is z o h
  where
    by : (o : Result Side Unknown) (r : Result Side Fault) → MatchResult o (λ side. r ≡ Ok side) (λ e. IsErrAnd r (P e)) → r ≡ result_map_both (λ side. side) (λ _. in_list (Limit 2)) o
    by (Ok side) r e = e
    by (Err e) (Ok side) n = elim n [ ]
    by (Err e) (Err f) q = ap Err (p e f q)

-- the numbers as a callee reads them
pub fixes_at : (M : Meaning) (nodes : List Sides) (r : Result (ℕ × Side) Fault) {row row' side side' : ℤ} → row' ≡ row → side' ≡ side → r ≡ split_fixes M nodes row' side' → r ≡ split_fixes M nodes row side
fixes_at M nodes r p q e = e ∙ ap₂ (split_fixes M nodes) p q

module _ (M : Meaning) (laws : Laws M) where
  -- ---- points
  module _ (n : ℕ) (is_n : n ≡ M.n) (list : List ℤ) (x : Point) (s : Sides) (free : (k : ℕ) → s k ≡ None) (read : (list_fault (PointShape n) list ≡ Ok tt) × Holds list x) where
    fine : list_fault (PointShape M.n) list ≡ Ok tt
    fine = subst (λ k. list_fault (PointShape k) list ≡ Ok tt) is_n read.0

    at_free : M.judge_point s (any_point x) ≡ M.judge_point all_free (point_in list)
    at_free = ap₂ M.judge_point (λ i k. free k i) (point_is list x read.1)

    pub cost_fair : (c : Fraction) → Ok c ≡ M.judge_point s (any_point x) → Fair c
    cost_fair c j = laws.fair_cost all_free (point_in list) c (offered_point M.n list fine) (sym (j ∙ at_free))

-- ---- proofs
-- of a list that is read as the proof x while the current node has the sides s
module _ (M : Meaning) (gap : ℕ) (i : Inner) (m : ℕ) (is_m : m ≡ M.m) (list : List ℤ) (x : Proof) (s : Sides)
    (read : (list_fault (ProofShape m) list ≡ Ok tt) × Holds list x) (top : nodes_of i.frontier ≡ s ∷ rest (nodes_of i.frontier)) where
  abbrev at_node : Sides → Result Judgement Fault
  at_node z = and_then (proof_judged (M.judge_proof z (proof_in list))) (strong gap (held_of i.held))

  shows_is : (r : Result Judgement ProofFault) → r ≡ M.judge_proof s (any_proof x) → proof_shows M gap (nodes_of i.frontier) (held_of i.held) list ≡ and_then (proof_judged r) (strong gap (held_of i.held))
  shows_is r j =
      ap (λ z. result_and (list_judged z) (at_current (nodes_of i.frontier) at_node)) (subst (λ k. list_fault (ProofShape k) list ≡ Ok tt) is_m read.0)
      ∙ ap (λ z. at_current z at_node) top
      ∙ ap (λ z. and_then (proof_judged z) (strong gap (held_of i.held))) (sym (j ∙ ap (M.judge_proof s) (proof_is list x read.1)))

  pub shows_err : (e : ProofFault) (r : Result Judgement Fault) → r ≡ Err (in_proof e) → Err e ≡ M.judge_proof s (any_proof x) → r ≡ proof_shows M gap (nodes_of i.frontier) (held_of i.held) list
  shows_err e r is j = is ∙ sym (shows_is (Err e) j)

  pub shows_ok : (j : Judgement) → Ok j ≡ M.judge_proof s (any_proof x) → (b : Bool) → shuts gap (held_of i.held) j ≡ b → cond b (Ok j) (Err (in_state Weak)) ≡ proof_shows M gap (nodes_of i.frontier) (held_of i.held) list
  shows_ok j e b is = sym (shows_is (Ok j) e ∙ ap (λ z. cond z (Ok j) (Err (in_state Weak))) is)

pub proof_open : (M : Meaning) (gap : ℕ) (nodes : List Sides) (held : Option Held) (list : List ℤ) (j : Judgement) → proof_shows M gap nodes held list ≡ Ok j → (s : Sides) × (others : List Sides) × (nodes ≡ s ∷ others)
proof_open M gap [] held list j e = absurd (proof_fine M gap [] held list j e)
proof_open M gap (s ∷ ss) held list j e = (s, ss, refl)
