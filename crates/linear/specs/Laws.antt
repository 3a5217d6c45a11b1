-- The laws of the family of linear problems.
use Rattle.std.specs.Prelude.{◌≡◌, ℕ, zero, suc, ◌+◌, ◌*◌, ◌<◌, ◌≤◌, Bool, true, false, cond, List, ℤ, pos, ◌-ℤ◌, ◌*ℤ◌, neg_ℤ, ◌≤ℤ◌, Some, None, Ok, Err, Option, unsigned_abs, refl}
use Rattle.std.proofs.Common.{sym, ◌∙◌, ap, subst, arith}
use Rattle.std.proofs.Math.IntN.{*ℤ_comm}
use Rattle.std.specs.Int.{w64}
use Rattle.std.proofs.lemmas.Int.{ints}
use Rattle.sums.specs.Sums.{total, dot}
use Rattle.sums.proofs.Ring.{diff_of, diff_same, as_diff, linear}
use Rattle.sums.proofs.Totals.{total_same, total_scale}
use Rattle.sums.proofs.Dual.{weak_duality}
use Rattle.family.specs.declared.fault.ProofFault.TheVariants.{NotBalanced}
use Rattle.family.specs.declared.judgement.Judgement.TheVariants.{Void, Bound}
use Rattle.family.specs.declared.side.Side.{Side}
use Rattle.family.specs.Fractions.{Fraction, Fair, at_most}
use Rattle.family.specs.Meaning.{Laws}
use Rattle.family.specs.Numbers.{at, Small, same}
use Rattle.family.specs.Points.{AnyPoint, AnyProof, OfferedPoint, OfferedProof}
use Rattle.family.proofs.Casts.{back, product_near}
use Rattle.problem.specs.declared.table.Problem.{Problem}
use Rattle.problem.specs.Programs.{Program, program}
use Rattle.rows.specs.Duals.{column_sum, level_of, is_void}
use Rattle.rows.specs.Rules.{Admitted, low_end, high_end}
use Rattle.rows.proofs.Admission.{same_is, admitted_freed, admitted_fixed, admitted_within}
use Rattle.std.specs.Result.{result_and}
use Rattle.rows.specs.Claims.{PlainMeaning}
use Rattle.rows.proofs.Plainness.{admitted_keeps, keeps_admitted, admitted_same, admission_same, void_same, level_same}
use Rattle.rows.proofs.Searches.{failing_none, failing_inside, failing_same}
use Rattle.rows.proofs.Sizes.{level_near, sum_near}
use Rattle.rows.proofs.Voids.{holds, switch_inside, void_none, price_taken, price_given, price_row}
use Rattle.linear.specs.Bounds.{first_difference, balancing, off_balance, bound, balanced, judgement, meaning_of}
use Rattle.linear.specs.Costs.{cost}

-- ---- the judgement of a proof
module _ (P : Program) (rates : ℕ → ℤ) (s : ℕ → Option Side) (scale : ℕ) (y : ℕ → ℤ) where
  pub judged_void : is_void P s y ≡ true → Ok Void ≡ judgement P rates s scale y
  judged_void e = sym (ap (λ b. cond b (Ok Void) (balanced (off_balance P rates scale y) (bound P s scale y))) e)

  pub judged_off : {o : Option ℕ} {b : Fraction} → is_void P s y ≡ false → o ≡ off_balance P rates scale y → b ≡ bound P s scale y → balanced o b ≡ judgement P rates s scale y
  judged_off e same_o same_b = (λ i. balanced (same_o i) (same_b i)) ∙ sym (ap (λ b. cond b (Ok Void) (balanced (off_balance P rates scale y) (bound P s scale y))) e)

  -- the sums that the code holds
  pub off_read : (sums : List ℤ) {o : Option ℕ} → ((j : ℕ) → j < P.n → at sums j ≡ column_sum P y j) → o ≡ first_difference (at sums) (balancing scale rates) 0 P.n → o ≡ off_balance P rates scale y
  off_read sums columns e = e ∙ failing_same (λ j. same (at sums j) (balancing scale rates j)) (λ j. same (column_sum P y j) (balancing scale rates j)) 0 P.n (λ k h. ap (λ z. same z (balancing scale rates k)) (columns k (omega arith)))

-- `-level` at 64 bits
pub minus_read : {l z : ℤ} → l ≡ z → unsigned_abs z ≤ 160000000 → back w64 (pos 0 -ℤ l) ≡ neg_ℤ z
minus_read {l} {z} e h = ap (λ l. back w64 (pos 0 -ℤ l)) e ∙ minus z h
  where
    minus : (z : ℤ) → unsigned_abs z ≤ 160000000 → back w64 (pos 0 -ℤ z) ≡ neg_ℤ z
    minus z h = omega (arith, ints)

-- ---- what a judgement tells
void_only : (b : Bool) (o : Option ℕ) (f : Fraction) → cond b (Ok Void) (balanced o f) ≡ Ok Void → b ≡ true
void_only true o f e = refl
void_only false None f e = let c : ◌≡◌ {A = ℕ} 0 1 = cc in let no : ⊥ = omega arith in elim no [ ]
void_only false (Some j) f e = let c : ◌≡◌ {A = ℕ} 0 1 = cc in let no : ⊥ = omega arith in elim no [ ]

bound_only : (b : Bool) (o : Option ℕ) (f g : Fraction) → cond b (Ok Void) (balanced o f) ≡ Ok (Bound g) → (o ≡ None) × (g ≡ f)
bound_only true o f g e = let c : ◌≡◌ {A = ℕ} 0 1 = cc in let no : ⊥ = omega arith in elim no [ ]
bound_only false None f g e = let same : f ≡ g = cc in (refl, sym same)
bound_only false (Some j) f g e = let c : ◌≡◌ {A = ℕ} 0 1 = cc in let no : ⊥ = omega arith in elim no [ ]

column_only : (b : Bool) (o : Option ℕ) (f : Fraction) (j : ℕ) → cond b (Ok Void) (balanced o f) ≡ Err (NotBalanced j) → (k : ℕ) × (o ≡ Some k) × (k + 1 ≡ j)
column_only true o f j e = let c : ◌≡◌ {A = ℕ} 0 1 = cc in let no : ⊥ = omega arith in elim no [ ]
column_only false None f j e = let c : ◌≡◌ {A = ℕ} 0 1 = cc in let no : ⊥ = omega arith in elim no [ ]
column_only false (Some k) f j e = let same : k + 1 ≡ j = cc in (k, refl, same)

-- ---- a balanced proof bounds every admitted point
-- over plain numbers
last_step : (s q : ℕ) (C X L : ℤ) → X ≡ neg_ℤ (pos s *ℤ C) → X ≤ℤ (pos q *ℤ L) → (neg_ℤ L *ℤ pos q) ≤ℤ (C *ℤ pos s)
last_step s q C X L e below =
    let left : neg_ℤ L *ℤ pos q ≡ neg_ℤ (pos q *ℤ L) = rw (diff_of L) (simp as_diff (diff_same _ _ _ _ (omega arith))) in
    let right = *ℤ_comm C (pos s) in
    omega (arith, linear)

regroup : (s : ℕ) (c p : ℤ) → neg_ℤ (pos s *ℤ c) *ℤ p ≡ neg_ℤ (pos s *ℤ (c *ℤ p))
regroup s c p = rw (diff_of c, diff_of p) (simp as_diff (diff_same _ _ _ _ (omega arith)))

total_neg : (n : ℕ) (f : ℕ → ℤ) → total n (λ k. neg_ℤ (f k)) ≡ neg_ℤ (total n f)
total_neg zero f = refl
total_neg (suc n) f = omega (arith, ints, total_neg n f)

bounded : (P : Program) (rates : ℕ → ℤ) (s : ℕ → Option Side) (scale : ℕ) (y : ℕ → ℤ) (x : AnyPoint) → off_balance P rates scale y ≡ None → Admitted P s x
    → (neg_ℤ (level_of P s y) *ℤ pos x.q) ≤ℤ (dot P.n rates x.p *ℤ pos scale)
bounded P rates s scale y x none a =
    let balance : (j : ℕ) → j < P.n → column_sum P y j ≡ balancing scale rates j =
    λ j h. same_is (column_sum P y j) (balancing scale rates j)
    (let q : 0 + j ≡ j = omega arith in subst (λ k. same (column_sum P y k) (balancing scale rates k) ≡ true) q (failing_none (λ j. same (column_sum P y j) (balancing scale rates j)) 0 P.n none j h)) in
    let sums : dot P.n (column_sum P y) x.p ≡ neg_ℤ (pos scale *ℤ dot P.n rates x.p) =
    total_same P.n (λ j. column_sum P y j *ℤ x.p j) (λ j. neg_ℤ (pos scale *ℤ (rates j *ℤ x.p j))) (λ j h. ap (λ t. t *ℤ x.p j) (balance j h) ∙ regroup scale (rates j) (x.p j))
    ∙ total_neg P.n (λ j. pos scale *ℤ (rates j *ℤ x.p j))
    ∙ ap neg_ℤ (total_scale P.n (pos scale) (λ j. rates j *ℤ x.p j)) in
    last_step scale x.q (dot P.n rates x.p) (dot P.n (column_sum P y) x.p) (level_of P s y) sums
    (weak_duality P.m P.n P.coefficient (low_end P s) (high_end P s) x.q x.p y (admitted_within P s x a))

-- ---- sizes
positive_of : (q : ℕ) → 0 < q → pos 1 ≤ℤ pos q
positive_of (suc q) h = omega (arith, ints)
positive_of zero h = let no : ⊥ = omega arith in elim no [ ]

small_of : (q : ℕ) → q ≤ 1000 → pos q ≤ℤ pos 1000000
small_of q h = omega (arith, ints)

fair_price : (p : Problem) (rates : List ℤ) (x : AnyPoint) → Small 50 rates → OfferedPoint x → Fair (cost (program p) (at rates) x)
fair_price p rates x small o =
    record {
      numerator = wide (dot p.n (at rates) x.p) (sum_near p 50000000 (λ j. at rates j *ℤ x.p j) (λ j. product_near 50 1000000 (at rates j) (x.p j) (small j) (o.near j)));
      positive = positive_of x.q o.positive;
      denominator = small_of x.q o.fine;
    }
  where
    wide : (z : ℤ) → unsigned_abs z ≤ 8 * 50000000 → unsigned_abs z ≤ 8000000000000
    wide z h = omega arith

fair_proof : (p : Problem) (s : ℕ → Option Side) (y : AnyProof) → OfferedProof y → Fair (bound (program p) s y.s y.y)
fair_proof p s y o =
    record {
      numerator = turned (level_of (program p) s y.y) (level_near p s y o);
      positive = positive_of y.s o.positive;
      denominator = small_of y.s o.fine;
    }
  where
    turned : (z : ℤ) → unsigned_abs z ≤ 160000000 → unsigned_abs (neg_ℤ z) ≤ 8000000000000
    turned z h = omega (arith, ints)

-- ---- the laws, for every problem and all rates
pub laws : (p : Problem) (rates : List ℤ) → Small 50 rates → Laws (meaning_of (program p) (at rates))
laws p rates small =
    let P = program p in
    let c = at rates in
    let tells : (s : ℕ → Option Side) (y : AnyProof) (b : Fraction) → judgement P c s y.s y.y ≡ Ok (Bound b) → (off_balance P c y.s y.y ≡ None) × (b ≡ bound P s y.s y.y) =
    λ s y b e. bound_only (is_void P s y.y) (off_balance P c y.s y.y) (bound P s y.s y.y) b e in
    record {
      some = p.some;
      few = p.few;
      fits = p.fits;
      inside = λ r e. (switch_inside P r e).0;
      frees = λ s r x e a. (admitted_freed P s r x a, refl);
      splits = λ s r x e free a. admitted_fixed P s r x (switch_inside P r e).1 (switch_inside P r e).0 free a;
      void = λ s y o e x positive a. void_none P s y.y (void_only (is_void P s y.y) (off_balance P c y.s y.y) (bound P s y.s y.y) e) x positive a;
      bound = λ s y b o e x positive a. subst (λ b. at_most b (cost P c x) ≡ true) (sym (tells s y b e).1) (holds (bounded P c s y.s y.y x (tells s y b e).0 a));
      fair_cost = λ s x k o e. subst Fair (sym (price_taken P s x (cost P c x) k e).1) (fair_price p rates x small o);
      fair_bound = λ s y b o e. subst Fair (sym (tells s y b e).1) (fair_proof p s y o);
      positive = λ s x h. positive_of x.q h;
      taken = λ s x k o e. price_taken P s x (cost P c x) k e;
      admitted = λ s x o a. price_given P s x (cost P c x) a;
      stopped = λ s x r o e. price_row P s x (cost P c x) r e;
      unbalanced = λ s y j o e.
          let t = column_only (is_void P s y.y) (off_balance P c y.s y.y) (bound P s y.s y.y) j e in
          (omega (arith, t.2), omega (arith, t.2, failing_inside (λ j. same (column_sum P y.y j) (balancing y.s c j)) 0 P.n t.0 t.1));
    }

-- ---- the meaning is plain
pub plain : (P : Program) (rates : ℕ → ℤ) → PlainMeaning (meaning_of P rates) P
plain P rates = record {
  admits_keeps = λ s x a. admitted_keeps P s x a;
  keeps_admits = λ s x k. keeps_admitted P s x k;
  same_admits = λ s t x agree a. admitted_same P s t agree x a;
  same_points = λ s t x agree. ap (λ a. result_and a (Ok (cost P rates x))) (admission_same P s t agree x);
  same_proofs = λ s t y agree.
      let v = void_same P s t agree y.y in
      let l = level_same P s t agree y.y in
      λ i. cond (v i) (Ok Void) (balanced (off_balance P rates y.s y.y) (neg_ℤ (l i), pos y.s));
}
