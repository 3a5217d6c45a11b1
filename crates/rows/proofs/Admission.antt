-- Which points are admitted: freeing, splitting and the ends under sides.
use Rattle.std.proofs.Common.{◌≡◌, ℕ, ◌+◌, ◌<◌, ◌≤◌, Bool, true, false, cond, ◌||◌, T, eqb, ◌⊎◌, ℤ, pos, negsuc, ◌≤ℤ◌, Some, None, Ok, Err, Option, sym, refl, ap, subst, inl, inr, arith}
use native.Mathlib.Decide.{ℕ_discrete}
use lib.Signed.{le_z, le_z_yes, ≤ℤ_refl}
use Rattle.std.proofs.lemmas.Bool.{and_parts, and_from, or_cases, or_left, or_right, eqb-true, eq-eqb, ne_eqb}
use Rattle.family.specs.declared.fault.PointFault.TheVariants.{NotAdmitted}
use Rattle.family.specs.declared.side.Side.{Side}
use Rattle.family.specs.declared.side.Side.TheVariants.{Lower, Upper}
use Rattle.family.specs.Meaning.{freed}
use Rattle.family.specs.Numbers.{same}
use Rattle.family.specs.Points.{AnyPoint}
use Rattle.family.specs.Sides.{fixed}
use Rattle.problem.specs.declared.kind.Kind.{Kind}
use Rattle.problem.specs.declared.kind.Kind.TheVariants.{Plain, Switch}
use Rattle.problem.specs.Kinds.{is_switch}
use Rattle.problem.specs.Programs.{Program}
use Rattle.sums.specs.Duality.{Within}
use Rattle.rows.specs.Rules.{value, scaled, keeps, lets, passes, Admitted, stopper, told, admission, fixed_end, low_end, high_end}
use Rattle.rows.proofs.Searches.{failing_none, none_failing, failing_inside}

-- ---- freeing and fixing one row
abbrev pub at_low : Program → ℕ → AnyPoint → Bool
at_low P i x = same (value P i x) (scaled x (P.lo i))

abbrev pub at_high : Program → ℕ → AnyPoint → Bool
at_high P i x = same (value P i x) (scaled x (P.hi i))

lets_freed : (P : Program) (i : ℕ) (x : AnyPoint) (k : Kind) (side : Option Side) → lets P i x k side ≡ true → lets P i x k None ≡ true
lets_freed P i x Plain side e = e
lets_freed P i x Switch None e = e
lets_freed P i x Switch (Some Lower) e = let p = and_parts (keeps P i x) (at_low P i x) e in and_from (keeps P i x) (at_low P i x || at_high P i x) p.0 (or_left (at_low P i x) (at_high P i x) p.1)
lets_freed P i x Switch (Some Upper) e = let p = and_parts (keeps P i x) (at_high P i x) e in and_from (keeps P i x) (at_low P i x || at_high P i x) p.0 (or_right (at_low P i x) (at_high P i x) p.1)

freed_side : (s : ℕ → Option Side) (r i : ℕ) → (freed s r i ≡ None) ⊎ (freed s r i ≡ s i)
freed_side s r i = by (eqb i r)
  where
    by : (b : Bool) → (cond b None (s i) ≡ None) ⊎ (cond b None (s i) ≡ s i)
    by true = inl refl
    by false = inr refl

pub admitted_freed : (P : Program) (s : ℕ → Option Side) (r : ℕ) (x : AnyPoint) → Admitted P s x → Admitted P (freed s r) x
admitted_freed P s r x a i h = elim (freed_side s r i) [
  | inl e ↦ subst (λ side. lets P i x (P.kind i) side ≡ true) (sym e) (lets_freed P i x (P.kind i) (s i) (a i h))
  | inr e ↦ subst (λ side. lets P i x (P.kind i) side ≡ true) (sym e) (a i h)
]

-- a free switch that lets a point through stands at a side
lets_side : (P : Program) (i : ℕ) (x : AnyPoint) (k : Kind) → is_switch k ≡ true → lets P i x k None ≡ true → (d : Side) × (lets P i x k (Some d) ≡ true)
lets_side P i x Plain e a = let c : ◌≡◌ {A = ℕ} 0 1 = cc in let no : ⊥ = omega arith in elim no [ ]
lets_side P i x Switch e a =
    let p = and_parts (keeps P i x) (at_low P i x || at_high P i x) a in
    elim (or_cases (at_low P i x) (at_high P i x) p.1) [ inl l ↦ (Lower, and_from (keeps P i x) (at_low P i x) p.0 l) | inr u ↦ (Upper, and_from (keeps P i x) (at_high P i x) p.0 u) ]

pub admitted_fixed : (P : Program) (s : ℕ → Option Side) (r : ℕ) (x : AnyPoint) → is_switch (P.kind r) ≡ true → r < P.m → s r ≡ None → Admitted P s x → (d : Side) × Admitted P (fixed s r d) x
admitted_fixed P s r x switch inside free a =
    let p = lets_side P r x (P.kind r) switch (subst (λ side. lets P r x (P.kind r) side ≡ true) free (a r inside)) in (
      p.0,
      λ i h. elim (ℕ_discrete i r) [
        | yes e ↦ subst (λ side. lets P i x (P.kind i) side ≡ true) (ap (λ b. cond b (Some p.0) (s i)) (sym (eq-eqb i r e))) (subst (λ k. lets P k x (P.kind k) (Some p.0) ≡ true) (sym e) p.1)
        | no n ↦ subst (λ side. lets P i x (P.kind i) side ≡ true) (ap (λ b. cond b (Some p.0) (s i)) (sym (ne_eqb i r n))) (a i h)
      ],
    )

-- ---- an admitted point lies between the ends under sides
pub same_is : (a b : ℤ) → same a b ≡ true → a ≡ b
same_is (pos a) (pos b) e = ap pos (eqb-true a b e)
same_is (pos a) (negsuc b) e = let c : ◌≡◌ {A = ℕ} 0 1 = cc in let no : ⊥ = omega arith in elim no [ ]
same_is (negsuc a) (pos b) e = let c : ◌≡◌ {A = ℕ} 0 1 = cc in let no : ⊥ = omega arith in elim no [ ]
same_is (negsuc a) (negsuc b) e = ap negsuc (eqb-true a b e)

says : {a b : ℤ} → le_z a b ≡ true → a ≤ℤ b
says e = le_z_yes (subst T (sym e) tt)

abbrev pub Ends : ℤ → ℤ → ℤ → Type 0
Ends v low high = (low ≤ℤ v) × (v ≤ℤ high)

equal_ends : {v e : ℤ} → v ≡ e → Ends v e e
equal_ends {v} {e} p = (subst (λ z. e ≤ℤ z) (sym p) (≤ℤ_refl e), subst (λ z. z ≤ℤ e) (sym p) (≤ℤ_refl e))

pub kept_ends : (P : Program) (i : ℕ) (x : AnyPoint) → keeps P i x ≡ true → Ends (value P i x) (scaled x (P.lo i)) (scaled x (P.hi i))
kept_ends P i x e =
    let p = and_parts (le_z (scaled x (P.lo i)) (value P i x)) (le_z (value P i x) (scaled x (P.hi i))) e in (says p.0, says p.1)

lets_ends : (P : Program) (i : ℕ) (x : AnyPoint) (k : Kind) (side : Option Side) → lets P i x k side ≡ true
    → Ends (value P i x) (scaled x (fixed_end k side (P.lo i) (P.hi i) (P.lo i))) (scaled x (fixed_end k side (P.lo i) (P.hi i) (P.hi i)))
lets_ends P i x Plain side e = kept_ends P i x e
lets_ends P i x Switch None e = kept_ends P i x (and_parts (keeps P i x) (at_low P i x || at_high P i x) e).0
lets_ends P i x Switch (Some Lower) e = equal_ends (same_is (value P i x) (scaled x (P.lo i)) (and_parts (keeps P i x) (at_low P i x) e).1)
lets_ends P i x Switch (Some Upper) e = equal_ends (same_is (value P i x) (scaled x (P.hi i)) (and_parts (keeps P i x) (at_high P i x) e).1)

pub admitted_within : (P : Program) (s : ℕ → Option Side) (x : AnyPoint) → Admitted P s x → Within P.m P.n P.coefficient (low_end P s) (high_end P s) x.q x.p
admitted_within P s x a i h = lets_ends P i x (P.kind i) (s i) (a i h)

-- ---- the least row that stops a point
pub admission_taken : (P : Program) (s : ℕ → Option Side) (x : AnyPoint) → admission P s x ≡ Ok tt → Admitted P s x
admission_taken P s x e i h =
    let q : 0 + i ≡ i = omega arith in
    subst (λ n. passes P s x n ≡ true) q (failing_none (passes P s x) 0 P.m (none (stopper P s x 0 P.m) e) i h)
  where
    none : (o : Option ℕ) → told o ≡ Ok tt → o ≡ None
    none None e = refl
    none (Some i) e = let c : ◌≡◌ {A = ℕ} 0 1 = cc in let no : ⊥ = omega arith in elim no [ ]

pub admission_given : (P : Program) (s : ℕ → Option Side) (x : AnyPoint) → Admitted P s x → admission P s x ≡ Ok tt
admission_given P s x a = ap told (none_failing (passes P s x) 0 P.m (λ k h. let q : k ≡ 0 + k = omega arith in subst (λ n. passes P s x n ≡ true) q (a k h)))

pub admission_row : (P : Program) (s : ℕ → Option Side) (x : AnyPoint) (r : ℕ) → admission P s x ≡ Err (NotAdmitted r) → (1 ≤ r) × (r ≤ P.m)
admission_row P s x r e = by (stopper P s x 0 P.m) refl e
  where
    by : (o : Option ℕ) → stopper P s x 0 P.m ≡ o → told o ≡ Err (NotAdmitted r) → (1 ≤ r) × (r ≤ P.m)
    by None q e = let c : ◌≡◌ {A = ℕ} 0 1 = cc in let no : ⊥ = omega arith in elim no [ ]
    by (Some i) q e = let p : i + 1 ≡ r = cc in (omega arith, omega (arith, failing_inside (passes P s x) 0 P.m i q))
