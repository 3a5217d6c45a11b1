-- A search that is offered a point, or none, and the calls of a complete tree for it denies no call and ends with that point.
use Rattle.std.proofs.Common.{◌≡◌, ℕ, ◌+◌, ◌-◌, ◌<◌, true, cond, leb, List, [], ◌∷◌, ◌++◌, reverse, length, ℤ, pos, Some, None, Ok, Err, Option, Result, sym, refl, ap, ◌∙◌, subst, append-nil, arith}
use Rattle.std.specs.Result.{result_and, result_map_both}
use Rattle.std.proofs.lemmas.Bool.{and_from, le-leb}
use Rattle.family.specs.declared.fault.Fault.{Fault}
use Rattle.family.specs.declared.fault.Fault.TheVariants.{List as in_list, State as in_state}
use Rattle.family.specs.declared.fault.ListFault.TheVariants.{Limit}
use Rattle.family.specs.declared.fault.StateFault.TheVariants.{NotSwitch, AlreadyFixed, Weak}
use Rattle.family.specs.declared.judgement.Judgement.{Judgement}
use Rattle.family.specs.declared.side.Side.{Side}
use Rattle.family.specs.declared.side.Side.TheVariants.{Lower, Upper}
use Rattle.family.specs.Fractions.{Fraction}
use Rattle.family.specs.Meaning.{Meaning, Laws}
use Rattle.family.specs.Points.{point_in, proof_in}
use Rattle.family.specs.Sides.{fixed, side_number}
use Rattle.search.specs.Tally.{Sides, all_free, is_free, Call, point, proof, split, Held, Tally, fresh, and_then, if_not, list_judged, point_judged, proof_judged, at_current, point_cost, strong, proof_shows, row_named, side_named, split_fixes, Deed, take, close, branch, opening_order, branched, rest, apply, changed, told, judged, step, after, answers, verdict_of, cost_of, numbers_of, report_of}
use Rattle.search.specs.Claims.{AdmittedAt, Every}
use Rattle.search.specs.Trees.{Tree, leaf, fork, joined, calls_of, Closes, Complete, Offerable, offering, Accepts, Settled, Finds}
use Rattle.search.proofs.Steps.{after_append}
use Rattle.search.proofs.Offers.{offered_point}

-- the position that is not named
abbrev other : Side → Side
other Lower = Upper
other Upper = Lower

named_first : (f : Side → List Call) (d : Side) → joined f (reverse (opening_order d)) ≡ f d ++ (f (other d) ++ [])
named_first f Lower = refl
named_first f Upper = refl

children : (r : ℕ) (d : Side) (s : Sides) (ss : List Sides) → branched r d (s ∷ ss) ≡ fixed s r d ∷ fixed s r (other d) ∷ ss
children r Lower s ss = refl
children r Upper s ss = refl

-- ---- offers that are accepted
row_ok : (m r : ℕ) → r < m → row_named m (pos (r + 1)) ≡ Ok r
row_ok m r h =
    let low : leb 1 (r + 1) ≡ true = le-leb 1 (r + 1) (omega arith) in
    let high : leb (r + 1) m ≡ true = le-leb (r + 1) m (omega arith) in
    let back : r + 1 - 1 ≡ r = omega arith in
    ap (λ b. cond b (Ok (r + 1 - 1)) (Err (in_list (Limit 1)))) (and_from (leb 1 (r + 1)) (leb (r + 1) m) low high) ∙ ap Ok back

side_ok : (d : Side) → side_named (pos (side_number d)) ≡ Ok d
side_ok Lower = refl
side_ok Upper = refl

module _ (M : Meaning) where
  point_ok : Laws M → (list : List ℤ) (c : Fraction) → AdmittedAt M c list → point_cost M list ≡ Ok c
  point_ok laws list c a =
      let offered = offered_point M.n list a.fine in
      let judge : M.judge_point all_free (point_in list) ≡ Ok c = laws.admitted all_free (point_in list) offered a.admitted ∙ ap Ok (sym a.at_cost) in
      ap (λ r. result_and (list_judged r) (point_judged (M.judge_point all_free (point_in list)))) a.fine ∙ ap point_judged judge

  proof_ok : (gap : ℕ) (nodes : List Sides) (held : Option Held) (s : Sides) (ss : List Sides) (list : List ℤ) (c : Closes M gap held s list) → nodes ≡ s ∷ ss → proof_shows M gap nodes held list ≡ Ok c.judgement
  proof_ok gap nodes held s ss list c top =
      let f : Sides → Result Judgement Fault = λ k. and_then (proof_judged (M.judge_proof k (proof_in list))) (strong gap held) in
      ap (λ r. result_and (list_judged r) (at_current nodes f)) c.fine
      ∙ ap (λ n. at_current n f) top
      ∙ ap (λ r. and_then (proof_judged r) (strong gap held)) c.shown
      ∙ ap (λ b. cond b (Ok c.judgement) (Err (in_state Weak))) c.shut

  split_ok : (nodes : List Sides) (s : Sides) (ss : List Sides) (r : ℕ) (d : Side) → nodes ≡ s ∷ ss → r < M.m → M.switch r ≡ true → s r ≡ None → split_fixes M nodes (pos (r + 1)) (pos (side_number d)) ≡ Ok (r, d)
  split_ok nodes s ss r d top h w f =
      ap (λ x. and_then x (λ k. and_then (side_named (pos (side_number d))) (at_row k))) (row_ok M.m r h)
      ∙ ap (λ x. and_then x (at_row r)) (side_ok d)
      ∙ ap (λ b. result_and (if_not b (in_state NotSwitch)) (at_current nodes (at_node r d))) w
      ∙ ap (λ n. at_current n (at_node r d)) top
      ∙ ap (λ x. result_and (if_not (is_free x) (in_state AlreadyFixed)) (Ok (r, d))) f
    where
      at_node : ℕ → Side → Sides → Result (ℕ × Side) Fault
      at_node k e x = result_and (if_not (is_free (x k)) (in_state AlreadyFixed)) (Ok (k, e))

      at_row : ℕ → Side → Result (ℕ × Side) Fault
      at_row k e = result_and (if_not (M.switch k) (in_state NotSwitch)) (at_current nodes (at_node k e))

module _ (M : Meaning) (gap : ℕ) where
  accepts_append : (t : Tally) (xs ys : List Call) → Every Accepts (answers M gap t xs) → Every Accepts (answers M gap (after M gap t xs) ys) → Every Accepts (answers M gap t (xs ++ ys))
  accepts_append t [] ys a b = b
  accepts_append t (c ∷ xs) ys a b = (a.0, accepts_append (step M gap t c) xs ys a.1 b)

  -- every call is accepted, these nodes are open then, and the held point stays
  pub record Clears (t : Tally) (ss : List Sides) (calls : List Call) : Type 0 where
    pub accepted : Every Accepts (answers M gap t calls)
    pub left : (after M gap t calls).pending ≡ ss
    pub held : (after M gap t calls).held ≡ t.held

  clears_append : (t : Tally) (ss ts : List Sides) (xs ys : List Call) → Clears t ts xs → Clears (after M gap t xs) ss ys → Clears t ss (xs ++ ys)
  clears_append t ss ts xs ys a b =
      let e = after_append M gap t xs ys in
      record {
        accepted = accepts_append t xs ys a.accepted b.accepted;
        left = ap (λ (z : Tally). z.pending) e ∙ b.left;
        held = ap (λ (z : Tally). z.held) e ∙ b.held ∙ a.held;
      }

  clears_one : (t : Tally) (c : Call) (deed : Deed) → judged M gap t c ≡ Ok deed → (apply t deed).held ≡ t.held → Clears t (apply t deed).pending (c ∷ [])
  unfolding step
  clears_one t c deed e h =
      record {
        accepted = (subst (λ r. Accepts (result_map_both told (λ f. f) r)) (sym e) tt, tt);
        left = ap (λ r. (changed t r).pending) e;
        held = ap (λ r. (changed t r).held) e ∙ h;
      }

  clears_leaf : (t : Tally) (s : Sides) (ss : List Sides) (list : List ℤ) → t.pending ≡ s ∷ ss → Closes M gap t.held s list → Clears t ss (proof list ∷ [])
  clears_leaf t s ss list top c =
      let e : judged M gap t (proof list) ≡ Ok (close c.judgement) = ap (result_map_both close (λ f. f)) (proof_ok M gap t.pending t.held s ss list c top) in
      let one = clears_one t (proof list) (close c.judgement) e refl in
      record { accepted = one.accepted; left = one.left ∙ ap rest top; held = one.held }

  clears_split : (t : Tally) (s : Sides) (ss : List Sides) (r : ℕ) (d : Side) → t.pending ≡ s ∷ ss → r < M.m → M.switch r ≡ true → s r ≡ None
      → Clears t (fixed s r d ∷ fixed s r (other d) ∷ ss) (split (pos (r + 1)) (pos (side_number d)) ∷ [])
  clears_split t s ss r d top h w f =
      let call = split (pos (r + 1)) (pos (side_number d)) in
      let e : judged M gap t call ≡ Ok (branch r d) = ap (result_map_both (λ x. branch x.0 x.1) (λ g. g)) (split_ok M t.pending s ss r d top h w f) in
      let one = clears_one t call (branch r d) e refl in
      record { accepted = one.accepted; left = one.left ∙ ap (branched r d) top ∙ children r d s ss; held = one.held }

  -- the calls of a tree clear the current node
  abbrev Clearing : Tree → Type 0
  Clearing tree = (t : Tally) (s : Sides) (ss : List Sides) → t.pending ≡ s ∷ ss → Complete M gap t.held s tree → Clears t ss (calls_of tree)

  clears_fork : Laws M → (r : ℕ) (d : Side) (child : Side → Tree) → ((e : Side) → Clearing (child e)) → Clearing (fork r d child)
  clears_fork laws r d child each t s ss top w =
      let call = split (pos (r + 1)) (pos (side_number d)) in
      let f : Side → List Call = λ e. calls_of (child e) in
      let o = other d in
      let c1 = clears_split t s ss r d top (laws.inside r w.0) w.0 w.1 in
      let t1 = step M gap t call in
      let w1 : Complete M gap t1.held (fixed s r d) (child d) = subst (λ h. Complete M gap h (fixed s r d) (child d)) (sym c1.held) (w.2 d) in
      let c2 = each d t1 (fixed s r d) (fixed s r o ∷ ss) c1.left w1 in
      let t2 = after M gap t1 (f d) in
      let w2 : Complete M gap t2.held (fixed s r o) (child o) = subst (λ h. Complete M gap h (fixed s r o) (child o)) (sym (c2.held ∙ c1.held)) (w.2 o) in
      let c3 = each o t2 (fixed s r o) ss c2.left w2 in
      let c4 : Clears t ss (call ∷ (f d ++ f o)) = clears_append t ss (fixed s r d ∷ fixed s r o ∷ ss) (call ∷ []) (f d ++ f o) c1 (clears_append t1 ss (fixed s r o ∷ ss) (f d) (f o) c2 c3) in
      let same : f d ++ f o ≡ joined f (reverse (opening_order d)) = ap (λ l. f d ++ l) (sym (append-nil (f o))) ∙ sym (named_first f d) in
      subst (λ l. Clears t ss (call ∷ l)) same c4

  clears : Laws M → (tree : Tree) → Clearing tree
  clears laws (leaf list) t s ss top w = clears_leaf t s ss list top w
  clears laws (fork r d child) t s ss top w = clears_fork laws r d child (λ e. clears laws (child e)) t s ss top w

  -- the point first
  pub record Begun (offer : Option Held) : Type 0 where
    pub accepted : Every Accepts (answers M gap fresh (offering offer))
    pub root : (after M gap fresh (offering offer)).pending ≡ all_free ∷ []
    pub held : (after M gap fresh (offering offer)).held ≡ offer

  begun : Laws M → (held : Option Held) → Offerable M held → Begun held
  unfolding step
  begun laws None o = record { accepted = tt; root = refl; held = refl }
  begun laws (Some h) o =
      let e : judged M gap fresh (point h.numbers) ≡ Ok (take h.numbers h.cost) =
      ap (result_map_both (λ cost. take h.numbers cost) (λ f. f)) (point_ok M laws h.numbers h.cost o) in
      record {
        accepted = (subst (λ r. Accepts (result_map_both told (λ f. f) r)) (sym e) tt, tt);
        root = ap (λ r. (changed fresh r).pending) e;
        held = ap (λ r. (changed fresh r).held) e;
      }

  settled : (held : Option Held) (calls : List Call) → Every Accepts (answers M gap fresh calls) → (after M gap fresh calls).pending ≡ [] → (after M gap fresh calls).held ≡ held
      → Settled held (report_of (after M gap fresh calls)) (numbers_of (after M gap fresh calls).held) (answers M gap fresh calls)
  settled held calls a p h =
      record {
        accepted = a;
        verdict = ap (λ n. verdict_of n (after M gap fresh calls).held) p ∙ ap (verdict_of []) h;
        cost = ap cost_of h;
        point = ap numbers_of h;
        done = ap length p;
      }

  pub found : Laws M → (calls : List Call) → Finds M gap calls (report_of (after M gap fresh calls)) (numbers_of (after M gap fresh calls).held) (answers M gap fresh calls)
  found laws calls held tree o w same =
      let b = begun laws held o in
      let t = after M gap fresh (offering held) in
      let w' : Complete M gap t.held all_free tree = subst (λ h. Complete M gap h all_free tree) (sym b.held) w in
      let c = clears laws tree t all_free [] b.root w' in
      let e = after_append M gap fresh (offering held) (calls_of tree) in
      let whole = offering held ++ calls_of tree in
      let s : Settled held (report_of (after M gap fresh whole)) (numbers_of (after M gap fresh whole).held) (answers M gap fresh whole) =
      settled held whole (accepts_append fresh (offering held) (calls_of tree) b.accepted c.accepted) (ap (λ (z : Tally). z.pending) e ∙ c.left) (ap (λ (z : Tally). z.held) e ∙ c.held ∙ b.held) in
      subst (λ cs. Settled held (report_of (after M gap fresh cs)) (numbers_of (after M gap fresh cs).held) (answers M gap fresh cs)) (sym same) s
