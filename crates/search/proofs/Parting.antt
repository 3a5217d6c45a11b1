-- Each setting lies under exactly one node, open or closed.
use Rattle.std.proofs.Common.{◌≡◌, ℕ, zero, suc, ◌+◌, ◌<◌, ◌≤◌, Bool, true, false, cond, not, ◌&&◌, ◌||◌, List, [], ◌∷◌, ℤ, Some, None, Option, sym, refl, subst, ⊎_elim, arith}
use Rattle.std.proofs.lemmas.Bool.{and_from, or_right, eq-eqb, ne_eqb, cases_eq}
use Rattle.family.specs.declared.side.Side.{Side}
use Rattle.family.specs.declared.side.Side.TheVariants.{Lower, Upper}
use Rattle.family.specs.Meaning.{Meaning, Laws}
use Rattle.family.specs.Sides.{fixed}
use Rattle.search.specs.Tally.{OnTop, Sides, all_free, Call, Tally, Deed, take, keep, close, branch, apply, fresh, rest, closing, branched, after}
use Rattle.search.specs.Claims.{Setting, agrees, under, count, Parted}
use Rattle.search.proofs.Steps.{Legal, Shown, May, kept}

pub fixed_same : (s : Sides) (r : ℕ) (d : Side) → fixed s r d r ≡ Some d
fixed_same s r d = rw (eq-eqb r r refl)

pub fixed_other : (s : Sides) (r : ℕ) (d : Side) (k : ℕ) → (k ≡ r → ⊥) → fixed s r d k ≡ s k
fixed_other s r d k h = rw (ne_eqb k r h)

abbrev one : Bool → ℕ
one b = cond b 1 0

-- of the two positions a choice is exactly one
agrees_one : (e : Side) (b : Bool) → one (agrees (Some Lower) (Some e) && b) + one (agrees (Some Upper) (Some e) && b) ≡ one b
agrees_one Lower true = refl
agrees_one Lower false = refl
agrees_one Upper true = refl
agrees_one Upper false = refl

both_one : (a x y z : Bool) → one x + one y ≡ one z → one (a && x) + one (a && y) ≡ one (a && z)
both_one true x y z e = e
both_one false x y z e = refl

on_close : (P : Sides → Type 0) (p : Sides → Bool) (ss done : List Sides) (n : ℕ) → OnTop P ss → count p ss + count p done ≡ n → count p (rest ss) + count p (closing ss done) ≡ n
on_close P p [] done n top e = absurd top
on_close P p (s ∷ ss) done n top e = omega arith

on_branch : (P : Sides → Type 0) (p : Sides → Bool) (ss : List Sides) (r : ℕ) (d : Side) (k n : ℕ) → OnTop P ss
    → ((s : Sides) → P s → one (p (fixed s r Lower)) + one (p (fixed s r Upper)) ≡ one (p s))
    → count p ss + k ≡ n → count p (branched r d ss) + k ≡ n
on_branch P p [] r d k n top h e = absurd top
on_branch P p (s ∷ ss) r Lower k n top h e = omega (arith, h s top)
on_branch P p (s ∷ ss) r Upper k n top h e = omega (arith, h s top)

module _ (M : Meaning) (choice : ℕ → Option Side) where
  -- past the rows that are looked at, a fix changes nothing
  under_past : (n : ℕ) (s : Sides) (r : ℕ) (d : Side) → n ≤ r → under M choice n (fixed s r d) ≡ under M choice n s
  under_past zero s r d h = refl
  under_past (suc n) s r d h =
      let ne : n ≡ r → ⊥ = λ e. omega arith in
      rw (fixed_other s r d n ne, under_past n s r d (omega arith))

  abbrev Shared : ℕ → Sides → ℕ → Type 0
  Shared n s r = one (under M choice n (fixed s r Lower)) + one (under M choice n (fixed s r Upper)) ≡ one (under M choice n s)

  at_last : (s : Sides) (r : ℕ) (e : Side) → M.switch r ≡ true → s r ≡ None → choice r ≡ Some e → Shared (suc r) s r
  at_last s r e w f c =
      let le : r ≤ r = omega arith in
      rw (w, fixed_same s r Lower, fixed_same s r Upper, under_past r s r Lower le, under_past r s r Upper le, f, c) (agrees_one e (under M choice r s))

  before_last : (n : ℕ) (s : Sides) (r : ℕ) → (n ≡ r → ⊥) → Shared n s r → Shared (suc n) s r
  before_last n s r ne h = rw (fixed_other s r Lower n ne, fixed_other s r Upper n ne) (both_one (not (M.switch n) || agrees (s n) (choice n)) _ _ _ h)

  -- a setting under a node lies under one of its two children
  under_one : (n : ℕ) (s : Sides) (r : ℕ) (e : Side) → r < n → M.switch r ≡ true → s r ≡ None → choice r ≡ Some e → Shared n s r
  under_one zero s r e h w f c = omega arith
  under_one (suc n) s r e h w f c =
      ⊎_elim (λ q. subst (λ (k : ℕ). Shared (suc k) s r) q (at_last s r e w f c)) (λ q. before_last n s r (λ z. q (sym z)) (under_one n s r e (omega arith) w f c)) (cases_eq r n)

  under_free : (n : ℕ) → under M choice n all_free ≡ true
  under_free zero = refl
  under_free (suc n) = and_from (not (M.switch n) || true) (under M choice n all_free) (or_right (not (M.switch n)) true refl) (under_free n)

module _ (M : Meaning) (laws : Laws M) (gap : ℕ) where
  abbrev Once : Setting M → Tally → Type 0
  Once w t = count (under M w.choice M.m) t.pending + count (under M w.choice M.m) t.closed ≡ 1

  once : (w : Setting M) (t : Tally) (deed : Deed) → Legal M gap t deed → Once w t → Once w (apply t deed)
  once w t (take list cost) l e = e
  once w t (keep cost) l e = e
  once w t (close j) l e = on_close (λ s. (list : List ℤ) × Shown M gap t.held list j s) (under M w.choice M.m) t.pending t.closed 1 l e
  once w t (branch r d) l e =
      on_branch (May M r) (under M w.choice M.m) t.pending r d (count (under M w.choice M.m) t.closed) 1 l (λ s may. shared s may) e
    where
      shared : (s : Sides) → May M r s → one (under M w.choice M.m (fixed s r Lower)) + one (under M w.choice M.m (fixed s r Upper)) ≡ one (under M w.choice M.m s)
      shared s may = let c = w.chosen r may.switch in under_one M w.choice M.m s r c.0 (laws.inside r may.switch) may.switch may.free c.1

  pub parted : (calls : List Call) → Parted M (after M gap fresh calls)
  parted calls w = kept M gap (Once w) (once w) fresh calls (rw (under_free M w.choice M.m))
