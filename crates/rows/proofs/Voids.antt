-- What both families share of their answers: void proofs, and the price of an admitted point.
use Rattle.std.proofs.Common.{◌≡◌, ℕ, zero, suc, ◌<◌, ◌≤◌, Bool, true, false, cond, T, ltb, ℤ, pos, negsuc, ◌*ℤ◌, ◌≤ℤ◌, ◌<ℤ◌, Ok, Err, Option, Result, sym, refl, ap, ◌∙◌, subst, arith}
use borrow.Author.Differences.{ints}
use lib.IntN.{zero-*ℤ}
use lib.Signed.{le_z, lt_z, lt_z_yes}
use Rattle.std.proofs.lemmas.Bool.{and_parts, ltb-true}
use Rattle.std.specs.Result.{result_and}
use Rattle.family.specs.declared.fault.PointFault.{PointFault}
use Rattle.family.specs.declared.fault.PointFault.TheVariants.{NotAdmitted}
use Rattle.family.specs.declared.side.Side.{Side}
use Rattle.family.specs.Fractions.{Fraction}
use Rattle.family.specs.Points.{AnyPoint}
use Rattle.family.proofs.Scans.{and_ok}
use Rattle.problem.specs.Kinds.{is_switch}
use Rattle.problem.specs.Programs.{Program}
use Rattle.sums.specs.Sums.{dot}
use Rattle.sums.proofs.Dual.{weak_duality}
use Rattle.sums.proofs.Totals.{total_same, total_zero}
use Rattle.rows.specs.Duals.{column_sum, level_of, is_void}
use Rattle.rows.specs.Rules.{Admitted, admission, switch_at, low_end, high_end}
use Rattle.rows.specs.Zeros.{all_zero}
use Rattle.rows.proofs.Admission.{admitted_within, admission_taken, admission_given, admission_row}
use Rattle.rows.proofs.Zeros.{zeros_all}

pub holds : {a b : ℤ} → a ≤ℤ b → le_z a b ≡ true
holds {a} {b} h = by (le_z a b) h.le
  where
    by : (t : Bool) → T t → t ≡ true
    by true p = refl
    by false p = let no : ⊥ = p in elim no [ ]

pub switch_inside : (P : Program) (r : ℕ) → switch_at P r ≡ true → (r < P.m) × (is_switch (P.kind r) ≡ true)
switch_inside P r e = by (ltb r P.m) refl e
  where
    by : (t : Bool) → ltb r P.m ≡ t → cond t (is_switch (P.kind r)) false ≡ true → (r < P.m) × (is_switch (P.kind r) ≡ true)
    by true q e = (ltb-true r P.m q, e)
    by false q e = let c : ◌≡◌ {A = ℕ} 0 1 = cc in let no : ⊥ = omega arith in elim no [ ]

-- ---- a void proof admits no point
no_room : (q : ℕ) (X L : ℤ) → 0 < q → L <ℤ pos 0 → X ≡ pos 0 → X ≤ℤ (pos q *ℤ L) → ⊥
no_room (suc q) X (negsuc l) h below none above = omega (arith, ints)
no_room (suc q) X (pos l) h below none above = omega (arith, ints)
no_room zero X L h below none above = omega arith

pub void_none : (P : Program) (s : ℕ → Option Side) (y : ℕ → ℤ) → is_void P s y ≡ true → (x : AnyPoint) → 0 < x.q → Admitted P s x → ⊥
void_none P s y e x positive a =
    let parts = and_parts (all_zero P.n (column_sum P y)) (lt_z (level_of P s y) (pos 0)) e in
    let none = total_same P.n (λ j. column_sum P y j *ℤ x.p j) (λ j. pos 0) (λ j h. ap (λ t. t *ℤ x.p j) (zeros_all P.n (column_sum P y) parts.0 j h) ∙ zero-*ℤ (x.p j)) ∙ total_zero P.n in
    no_room x.q (dot P.n (column_sum P y) x.p) (level_of P s y) positive (lt_z_yes (subst T (sym parts.1) tt)) none
    (weak_duality P.m P.n P.coefficient (low_end P s) (high_end P s) x.q x.p y (admitted_within P s x a))

-- ---- the price of a point
module _ (P : Program) (s : ℕ → Option Side) (x : AnyPoint) (k : Fraction) where
  pub price_taken : (c : Fraction) → result_and (admission P s x) (Ok k) ≡ Ok c → Admitted P s x × (c ≡ k)
  price_taken c e =
      let p = and_ok (admission P s x) (Ok k) e in
      let same : k ≡ c = inside k c p.1 in
      (admission_taken P s x p.0, sym same)
    where
      inside : (a b : Fraction) → ◌≡◌ {A = Result Fraction PointFault} (Ok a) (Ok b) → a ≡ b
      inside a b e = cc

  pub price_given : Admitted P s x → result_and (admission P s x) (Ok k) ≡ Ok k
  price_given a = ap (λ r. result_and r (Ok k)) (admission_given P s x a)

  pub price_row : (r : ℕ) → result_and (admission P s x) (Ok k) ≡ Err (NotAdmitted r) → (1 ≤ r) × (r ≤ P.m)
  price_row r e = admission_row P s x r (by (admission P s x) e)
    where
      by : (a : Result (Unit {0}) PointFault) → result_and a (Ok k) ≡ Err (NotAdmitted r) → a ≡ Err (NotAdmitted r)
      by (Ok t) e = let c : ◌≡◌ {A = ℕ} 0 1 = cc in let no : ⊥ = omega arith in elim no [ ]
      by (Err f) e = let same : f ≡ NotAdmitted r = cc in ap Err same
