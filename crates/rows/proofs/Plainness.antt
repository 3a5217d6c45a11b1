-- Admission in the rules' own words, and what sides say of rows that are no switches.
use Rattle.std.proofs.Common.{◌≡◌, ℕ, ◌<◌, true, false, cond, ◌&&◌, ◌||◌, ◌⊎◌, ℤ, pos, negsuc, ◌*ℤ◌, Some, None, Option, sym, refl, ap, ◌∙◌, subst, inl, inr, arith}
use lib.Signed.{le_z, lt_z}
use Rattle.std.proofs.lemmas.Bool.{and_parts, and_from, or_cases, or_left, or_right, eq-eqb, lt-ltb}
use Rattle.family.specs.declared.side.Side.{Side}
use Rattle.family.specs.declared.side.Side.TheVariants.{Lower, Upper}
use Rattle.family.specs.Numbers.{same}
use Rattle.family.specs.Points.{AnyPoint}
use Rattle.problem.specs.declared.kind.Kind.{Kind}
use Rattle.problem.specs.declared.kind.Kind.TheVariants.{Plain, Switch}
use Rattle.problem.specs.Kinds.{is_switch}
use Rattle.problem.specs.Programs.{Program}
use Rattle.sums.specs.Duality.{met}
use Rattle.sums.proofs.Totals.{total_same}
use Rattle.rows.specs.Claims.{end_at, Keeps, Agree}
use Rattle.rows.specs.Duals.{level_of, column_sum, is_void, met_end}
use Rattle.rows.specs.Rules.{value, scaled, keeps, lets, passes, Admitted, told, admission, switch_at, fixed_end}
use Rattle.rows.specs.Zeros.{all_zero}
use Rattle.rows.proofs.Admission.{same_is, kept_ends, at_low, at_high}
use Rattle.rows.proofs.Searches.{failing_same}
use Rattle.rows.proofs.Voids.{holds}

is_same : (a b : ℤ) → a ≡ b → same a b ≡ true
is_same a b e = subst (λ b. same a b ≡ true) e (self a)
  where
    self : (a : ℤ) → same a a ≡ true
    self (pos n) = eq-eqb n n refl
    self (negsuc n) = eq-eqb n n refl

-- ---- admitted is kept, at an end, at the fixed end
lets_keeps : (P : Program) (i : ℕ) (x : AnyPoint) (k : Kind) (side : Option Side) → lets P i x k side ≡ true → keeps P i x ≡ true
lets_keeps P i x Plain side e = e
lets_keeps P i x Switch None e = (and_parts (keeps P i x) (at_low P i x || at_high P i x) e).0
lets_keeps P i x Switch (Some Lower) e = (and_parts (keeps P i x) (at_low P i x) e).0
lets_keeps P i x Switch (Some Upper) e = (and_parts (keeps P i x) (at_high P i x) e).0

lets_stands : (P : Program) (i : ℕ) (x : AnyPoint) (side : Option Side) → lets P i x Switch side ≡ true → (value P i x ≡ scaled x (P.lo i)) ⊎ (value P i x ≡ scaled x (P.hi i))
lets_stands P i x None e = elim (or_cases (at_low P i x) (at_high P i x) (and_parts (keeps P i x) (at_low P i x || at_high P i x) e).1) [
  | inl l ↦ inl (same_is (value P i x) (scaled x (P.lo i)) l)
  | inr u ↦ inr (same_is (value P i x) (scaled x (P.hi i)) u)
]
lets_stands P i x (Some Lower) e = inl (same_is (value P i x) (scaled x (P.lo i)) (and_parts (keeps P i x) (at_low P i x) e).1)
lets_stands P i x (Some Upper) e = inr (same_is (value P i x) (scaled x (P.hi i)) (and_parts (keeps P i x) (at_high P i x) e).1)

lets_fixed : (P : Program) (i : ℕ) (x : AnyPoint) (d : Side) → lets P i x Switch (Some d) ≡ true → value P i x ≡ scaled x (end_at P i d)
lets_fixed P i x Lower e = same_is (value P i x) (scaled x (P.lo i)) (and_parts (keeps P i x) (at_low P i x) e).1
lets_fixed P i x Upper e = same_is (value P i x) (scaled x (P.hi i)) (and_parts (keeps P i x) (at_high P i x) e).1

pub admitted_keeps : (P : Program) (s : ℕ → Option Side) (x : AnyPoint) → Admitted P s x → Keeps P s x
admitted_keeps P s x a = record {
  kept = λ i h. kept_ends P i x (lets_keeps P i x (P.kind i) (s i) (a i h));
  stands = λ i h k. lets_stands P i x (s i) (subst (λ k. lets P i x k (s i) ≡ true) k (a i h));
  fixed = λ i d h k e. lets_fixed P i x d (subst (λ side. lets P i x Switch side ≡ true) e (subst (λ k. lets P i x k (s i) ≡ true) k (a i h)));
}

keeps_lets : (P : Program) (s : ℕ → Option Side) (x : AnyPoint) (i : ℕ) → i < P.m → Keeps P s x → (k : Kind) → P.kind i ≡ k → (side : Option Side) → s i ≡ side → lets P i x k side ≡ true
keeps_lets P s x i h f k e side se =
    by k e side se
  where
    inside : keeps P i x ≡ true
    inside = and_from (le_z (scaled x (P.lo i)) (value P i x)) (le_z (value P i x) (scaled x (P.hi i))) (holds (f.kept i h).0) (holds (f.kept i h).1)

    ends : (value P i x ≡ scaled x (P.lo i)) ⊎ (value P i x ≡ scaled x (P.hi i)) → (at_low P i x || at_high P i x) ≡ true
    ends (inl l) = or_left (at_low P i x) (at_high P i x) (is_same (value P i x) (scaled x (P.lo i)) l)
    ends (inr u) = or_right (at_low P i x) (at_high P i x) (is_same (value P i x) (scaled x (P.hi i)) u)

    by : (k : Kind) → P.kind i ≡ k → (side : Option Side) → s i ≡ side → lets P i x k side ≡ true
    by Plain e side se = inside
    by Switch e None se = and_from (keeps P i x) (at_low P i x || at_high P i x) inside (ends (f.stands i h e))
    by Switch e (Some Lower) se = and_from (keeps P i x) (at_low P i x) inside (is_same (value P i x) (scaled x (P.lo i)) (f.fixed i Lower h e se))
    by Switch e (Some Upper) se = and_from (keeps P i x) (at_high P i x) inside (is_same (value P i x) (scaled x (P.hi i)) (f.fixed i Upper h e se))

pub keeps_admitted : (P : Program) (s : ℕ → Option Side) (x : AnyPoint) → Keeps P s x → Admitted P s x
keeps_admitted P s x f i h = keeps_lets P s x i h f (P.kind i) refl (s i) refl

-- ---- rows that are no switches
switched : (P : Program) (i : ℕ) → i < P.m → P.kind i ≡ Switch → switch_at P i ≡ true
switched P i h e = ap (λ b. cond b (is_switch (P.kind i)) false) (lt-ltb i P.m h) ∙ ap is_switch e

module _ (P : Program) (s t : ℕ → Option Side) (agree : Agree P s t) where
  pub passes_same : (x : AnyPoint) (i : ℕ) → i < P.m → passes P s x i ≡ passes P t x i
  passes_same x i h = by (P.kind i) refl
    where
      by : (k : Kind) → P.kind i ≡ k → lets P i x k (s i) ≡ lets P i x k (t i)
      by Plain e = refl
      by Switch e = ap (lets P i x Switch) (agree i (switched P i h e))

  ends_same : (i : ℕ) (free : ℤ) → i < P.m → fixed_end (P.kind i) (s i) (P.lo i) (P.hi i) free ≡ fixed_end (P.kind i) (t i) (P.lo i) (P.hi i) free
  ends_same i free h = by (P.kind i) refl
    where
      by : (k : Kind) → P.kind i ≡ k → fixed_end k (s i) (P.lo i) (P.hi i) free ≡ fixed_end k (t i) (P.lo i) (P.hi i) free
      by Plain e = refl
      by Switch e = ap (λ side. fixed_end Switch side (P.lo i) (P.hi i) free) (agree i (switched P i h e))

  pub level_same : (y : ℕ → ℤ) → level_of P s y ≡ level_of P t y
  level_same y = total_same P.m (λ i. y i *ℤ met_end P s y i) (λ i. y i *ℤ met_end P t y i)
      (λ i h. let l = ends_same i (P.lo i) h in let u = ends_same i (P.hi i) h in λ k. y i *ℤ met (y i) (l k) (u k))

  pub void_same : (y : ℕ → ℤ) → is_void P s y ≡ is_void P t y
  void_same y = let l = level_same y in λ i. all_zero P.n (column_sum P y) && lt_z (l i) (pos 0)

  pub admission_same : (x : AnyPoint) → admission P s x ≡ admission P t x
  admission_same x = ap told (failing_same (passes P s x) (passes P t x) 0 P.m (λ i h. passes_same x i (omega arith)))

  pub admitted_same : (x : AnyPoint) → Admitted P s x → Admitted P t x
  admitted_same x a i h = sym (passes_same x i h) ∙ a i h
