-- Each call of a search does what it does to the tally.
use Rattle.std.proofs.Common.{◌≡◌, ℕ, ◌+◌, Bool, true, false, cond, List, ◌∷◌, length, ℤ, Ok, Err, Option, Result, sym, refl, ap, ◌∙◌, subst, ap₂, arith}
use Rattle.std.specs.Result.{result_map_both}
use Rattle.std.proofs.lemmas.Bool.{false≢true}
use Rattle.family.specs.declared.fault.Fault.{Fault}
use Rattle.family.specs.declared.judgement.Judgement.{Judgement}
use Rattle.family.specs.declared.side.Side.{Side}
use Rattle.family.specs.Fractions.{Fraction}
use Rattle.family.specs.Meaning.{Meaning}
use Rattle.family.specs.Reading.{gap_value}
use Rattle.search.specs.declared.inner.Inner.{Inner}
use Rattle.search.specs.declared.frontier.Frontier.{Frontier}
use Rattle.search.specs.declared.outcome.Accepted.{Accepted}
use Rattle.search.specs.declared.search.Search.{Search}
use Rattle.search.specs.Calls.{Made}
use Rattle.search.specs.Shows.{held_of, Holding, Shows}
use Rattle.search.specs.Tally.{Sides, Call, point, proof, split, Held, Tally, Deed, take, keep, close, branch, rest, closing, branched, apply, changed, told, judged, step, beats, point_cost, proof_shows, split_fixes}
use Rattle.search.specs.View.{nodes_of, closed_of, splits_of, Closed, Forked}
use Rattle.search.proofs.Judging.{proof_open}

module _ {F : Type 0} (meaning : F → Meaning) (s : Search F) where
  abbrev M : Meaning
  M = meaning s.family

  abbrev gap : ℕ
  gap = gap_value s.gap

  -- the same search in another state
  abbrev at : Inner → Search F
  at i = record { family = s.family; gap = s.gap; inner = i }

  -- a call that is accepted
  by_deed : (call : Call) (i : Inner) (deed : Deed) → ((t : Tally) → Shows s.inner t → judged M gap t call ≡ Ok deed) → ((t : Tally) → Shows s.inner t → Shows i (apply t deed)) → Made meaning s call (at i) (Ok (told deed))
  unfolding step
  by_deed call i deed a b = record {
    family = refl;
    gap = refl;
    follows = λ t sh. (subst (λ d. Shows i (changed t d)) (sym (a t sh)) (b t sh), ap (result_map_both told (λ e. e)) (sym (a t sh)));
    denied = λ e. absurd (false≢true e);
  }

  -- a call that is denied
  by_fault : (call : Call) (fault : Fault) (r : Result Accepted Fault) → r ≡ Err fault → ((t : Tally) → Shows s.inner t → judged M gap t call ≡ Err fault) → Made meaning s call s r
  unfolding step
  by_fault call fault r is a = record {
    family = refl;
    gap = refl;
    follows = λ t sh. (subst (λ d. Shows s.inner (changed t d)) (sym (a t sh)) sh, is ∙ ap (result_map_both told (λ e. e)) (sym (a t sh)));
    denied = λ e. refl;
  }

  -- ---- points
  abbrev weighed : List ℤ → Option Held → Fraction → Deed
  weighed list held cost = cond (beats cost held) (take list cost) (keep cost)

  pub point_denied : (list : List ℤ) (fault : Fault) (r : Result Accepted Fault) → r ≡ Err fault → Err fault ≡ point_cost M list → Made meaning s (point list) s r
  point_denied list fault r is e = by_fault (point list) fault r is (λ t sh. ap (result_map_both (weighed list t.held) (λ z. z)) (sym e))

  judged_point : (list : List ℤ) (cost : Fraction) (b : Bool) → Ok cost ≡ point_cost M list → b ≡ beats cost (held_of s.inner.held) → (t : Tally) → Shows s.inner t → judged M gap t (point list) ≡ Ok (cond b (take list cost) (keep cost))
  judged_point list cost b e is t sh =
      ap (result_map_both (weighed list t.held) (λ z. z)) (sym e)
      ∙ ap (λ z. Ok (cond z (take list cost) (keep cost))) (sym (is ∙ ap (beats cost) sh.held))

  pub point_kept : (list : List ℤ) (cost : Fraction) → Ok cost ≡ point_cost M list → false ≡ beats cost (held_of s.inner.held) → Made meaning s (point list) s (Ok (Accepted.Kept cost))
  point_kept list cost e is = by_deed (point list) s.inner (keep cost) (judged_point list cost false e is) (λ t sh. sh)

  pub point_taken : (list : List ℤ) (cost : Fraction) (i : Inner) → Ok cost ≡ point_cost M list → true ≡ beats cost (held_of s.inner.held) → Holding list cost s.inner i → Made meaning s (point list) (at i) (Ok (Accepted.Taken cost))
  point_taken list cost i e is h = by_deed (point list) i (take list cost) (judged_point list cost true e is) (λ t sh. record {
    nodes = ap nodes_of h.same ∙ sh.nodes;
    closed = ap closed_of h.same ∙ sh.closed;
    splits = ap splits_of h.same ∙ sh.splits;
    held = h.held;
  })

  -- ---- proofs
  judged_proof : (list : List ℤ) (r : Result Judgement Fault) → r ≡ proof_shows M gap (nodes_of s.inner.frontier) (held_of s.inner.held) list → (t : Tally) → Shows s.inner t → judged M gap t (proof list) ≡ result_map_both close (λ e. e) r
  judged_proof list r e t sh =
      ap (result_map_both close (λ z. z)) (sym (e ∙ ap₂ (λ nodes held. proof_shows M gap nodes held list) sh.nodes sh.held))

  pub proof_denied : (list : List ℤ) (fault : Fault) (r : Result Accepted Fault) → r ≡ Err fault → Err fault ≡ proof_shows M gap (nodes_of s.inner.frontier) (held_of s.inner.held) list → Made meaning s (proof list) s r
  proof_denied list fault r is e = by_fault (proof list) fault r is (judged_proof list (Err fault) e)

  closing_length : (nodes done : List Sides) (x : Sides) (xs : List Sides) → nodes ≡ x ∷ xs → length (closing nodes done) ≡ length done + 1
  closing_length nodes done x xs e = ap (λ z. length (closing z done)) e ∙ omega arith

  pub proof_closed : (list : List ℤ) (j : Judgement) (f : Frontier) → Ok j ≡ proof_shows M gap (nodes_of s.inner.frontier) (held_of s.inner.held) list
      → Closed s.inner.frontier f → Made meaning s (proof list) (at (record { held = s.inner.held; frontier = f })) (Ok (Accepted.Closed j))
  proof_closed list j f e c =
      let top = proof_open M gap (nodes_of s.inner.frontier) (held_of s.inner.held) list j (sym e) in
      by_deed (proof list) (record { held = s.inner.held; frontier = f }) (close j) (judged_proof list (Ok j) e) (λ t sh. record {
        nodes = c.nodes ∙ ap rest sh.nodes;
        closed = c.closed ∙ ap (λ n. n + 1) sh.closed ∙ sym (closing_length t.pending t.closed top.0 top.1 (sym sh.nodes ∙ top.2));
        splits = c.splits ∙ sh.splits;
        held = sh.held;
      })

  -- ---- splits
  judged_split : (row side : ℤ) (r : Result (ℕ × Side) Fault) → r ≡ split_fixes M (nodes_of s.inner.frontier) row side → (t : Tally) → Shows s.inner t → judged M gap t (split row side) ≡ result_map_both (λ x. branch x.0 x.1) (λ e. e) r
  judged_split row side r e t sh =
      ap (result_map_both (λ x. branch x.0 x.1) (λ z. z)) (sym (e ∙ ap (λ nodes. split_fixes M nodes row side) sh.nodes))

  pub split_denied : (row side : ℤ) (fault : Fault) (r : Result Accepted Fault) → r ≡ Err fault → Err fault ≡ split_fixes M (nodes_of s.inner.frontier) row side → Made meaning s (split row side) s r
  split_denied row side fault r is e = by_fault (split row side) fault r is (judged_split row side (Err fault) e)

  pub split_done : (row side : ℤ) (r : ℕ) (d : Side) (f : Frontier) → ◌≡◌ {A = Result (ℕ × Side) Fault} (Ok (r, d)) (split_fixes M (nodes_of s.inner.frontier) row side) → Forked r d s.inner.frontier f
      → Made meaning s (split row side) (at (record { held = s.inner.held; frontier = f })) (Ok Accepted.Split)
  split_done row side r d f e k = by_deed (split row side) (record { held = s.inner.held; frontier = f }) (branch r d) (judged_split row side (Ok (r, d)) e) (λ t sh. record {
    nodes = k.nodes ∙ ap (branched r d) sh.nodes;
    closed = k.closed ∙ sh.closed;
    splits = k.splits ∙ ap (λ n. n + 1) sh.splits;
    held = sh.held;
  })
