-- The laws of the family of least-squares problems.
use Rattle.std.specs.Prelude.{◌≡◌, ℕ, zero, suc, ◌*◌, ◌<◌, ◌≤◌, Bool, true, false, cond, T, ℤ, pos, ◌+ℤ◌, ◌*ℤ◌, neg_ℤ, ◌≤ℤ◌, Ok, Err, Option, Result, unsigned_abs, refl}
use Rattle.std.proofs.Common.{sym, ◌∙◌, ap, subst, arith}
use Rattle.std.proofs.lemmas.Int.{ints}
use Rattle.std.proofs.Math.IntN.{*ℤ_comm}
use Rattle.std.proofs.lemmas.Nat.{mul-le}
use Rattle.sums.specs.Sums.{total, dot}
use Rattle.sums.specs.Duality.{Within, column, level}
use Rattle.sums.proofs.Ring.{diff_of, diff_same, as_diff, square_sum, square_le, mul_le as scaled_le, linear}
use Rattle.sums.proofs.Totals.{total_le, total_add, total_scale, total_same, total_zero}
use Rattle.sums.proofs.Dual.{weak_duality}
use Rattle.family.specs.declared.fault.ProofFault.{ProofFault}
use Rattle.family.specs.declared.judgement.Judgement.{Judgement}
use Rattle.family.specs.declared.judgement.Judgement.TheVariants.{Void, Bound}
use Rattle.family.specs.declared.side.Side.{Side}
use Rattle.family.specs.Fractions.{Fraction, Fair, at_most}
use Rattle.family.specs.Meaning.{Laws}
use Rattle.family.specs.Points.{AnyPoint, AnyProof, OfferedPoint, OfferedProof}
use Rattle.family.proofs.Casts.{product_near}
use Rattle.problem.specs.declared.table.Problem.{Problem}
use Rattle.problem.specs.Programs.{Program, program}
use Rattle.rows.specs.Duals.{column_sum, level_of, is_void}
use Rattle.rows.specs.Rules.{low_end, high_end}
use Rattle.rows.proofs.Admission.{admitted_freed, admitted_fixed, admitted_within}
use Rattle.std.specs.Result.{result_and}
use Rattle.rows.specs.Claims.{PlainMeaning}
use Rattle.rows.proofs.Plainness.{admitted_keeps, keeps_admitted, admitted_same, admission_same, void_same, level_same}
use Rattle.rows.proofs.Sizes.{column_near, level_near, sum_near}
use Rattle.rows.proofs.Voids.{holds, switch_inside, void_none, price_taken, price_given, price_row}
use Rattle.squares.specs.Bounds.{bound, judgement, meaning_of}
use Rattle.squares.specs.Costs.{cost}

-- the sum over j of (s p_j + q t_j)^2
square_parts : (n s q : ℕ) (p t : ℕ → ℤ) → pos 0 ≤ℤ (pos (s * s) *ℤ dot n p p +ℤ pos (2 * (s * q)) *ℤ dot n t p +ℤ pos (q * q) *ℤ dot n t t)
square_parts n s q p t =
    let whole : (j : ℕ) → ℤ = λ j. (pos s *ℤ p j +ℤ pos q *ℤ t j) *ℤ (pos s *ℤ p j +ℤ pos q *ℤ t j) in
    let first : (j : ℕ) → ℤ = λ j. pos (s * s) *ℤ (p j *ℤ p j) in
    let second : (j : ℕ) → ℤ = λ j. pos (2 * (s * q)) *ℤ (t j *ℤ p j) in
    let third : (j : ℕ) → ℤ = λ j. pos (q * q) *ℤ (t j *ℤ t j) in
    let parts : total n whole ≡ total n (λ j. first j +ℤ second j +ℤ third j) = total_same n _ _ (λ j h. square_sum s q (p j) (t j)) in
    omega (
      arith,
      linear,
      parts,
      total_add n (λ j. first j +ℤ second j) third,
      total_add n first second,
      total_scale n (pos (s * s)) (λ j. p j *ℤ p j),
      total_scale n (pos (2 * (s * q))) (λ j. t j *ℤ p j),
      total_scale n (pos (q * q)) (λ j. t j *ℤ t j),
      total_zero n,
      total_le n (λ j. pos 0) whole (λ j h. square_le (pos s *ℤ p j +ℤ pos q *ℤ t j)),
    )

-- over plain numbers
last_step : (s q : ℕ) (P T X L : ℤ) → pos 0 ≤ℤ (pos (s * s) *ℤ P +ℤ pos (2 * (s * q)) *ℤ X +ℤ pos (q * q) *ℤ T) → X ≤ℤ (pos q *ℤ L)
    → (neg_ℤ (T +ℤ pos (2 * s) *ℤ L) *ℤ pos (q * q)) ≤ℤ (P *ℤ pos (s * s))
last_step s q P T X L above below =
    let scaled = scaled_le (2 * (s * q)) X (pos q *ℤ L) below in
    let parts : neg_ℤ (T +ℤ pos (2 * s) *ℤ L) *ℤ pos (q * q) ≡ neg_ℤ (pos (q * q) *ℤ T +ℤ pos (2 * (s * q)) *ℤ (pos q *ℤ L)) =
    rw (diff_of T, diff_of L) (simp as_diff (diff_same _ _ _ _ (omega arith))) in
    let turned = *ℤ_comm P (pos (s * s)) in
    omega (arith, linear)

pub bounded : (m n : ℕ) (a : ℕ → ℕ → ℤ) (lo hi : ℕ → ℤ) (q s : ℕ) (p y : ℕ → ℤ) → Within m n a lo hi q p
    → (neg_ℤ (dot n (column m a y) (column m a y) +ℤ pos (2 * s) *ℤ level m lo hi y) *ℤ pos (q * q)) ≤ℤ (dot n p p *ℤ pos (s * s))
bounded m n a lo hi q s p y within =
    last_step s q (dot n p p) (dot n (column m a y) (column m a y)) (dot n (column m a y) p) (level m lo hi y)
    (square_parts n s q p (column m a y))
    (weak_duality m n a lo hi q p y within)

-- ---- the judgement of a proof
pub judged_void : (P : Program) (s : ℕ → Option Side) (scale : ℕ) (y : ℕ → ℤ) → is_void P s y ≡ true → Ok Void ≡ judgement P s scale y
judged_void P s scale y e = sym (ap (λ b. cond b (Ok Void) (Ok (Bound (bound P s scale y)))) e)

pub judged_bound : (P : Program) (s : ℕ → Option Side) (scale : ℕ) (y : ℕ → ℤ) {b : Fraction} → is_void P s y ≡ false → b ≡ bound P s scale y → Ok (Bound b) ≡ judgement P s scale y
judged_bound P s scale y e same = ap (λ (b : Fraction). Ok (Bound b)) same ∙ sym (ap (λ b. cond b (Ok Void) (Ok (Bound (bound P s scale y)))) e)

-- the numbers that the code hands to its bound
pub bound_read : (P : Program) (s : ℕ → Option Side) (scale : ℕ) (y : ℕ → ℤ) {q z l : ℤ} → q ≡ dot P.n (column_sum P y) (column_sum P y) → z ≡ pos scale → l ≡ level_of P s y
    → ◌≡◌ {A = Fraction} (neg_ℤ (q +ℤ (pos 2 *ℤ z) *ℤ l), z *ℤ z) (bound P s scale y)
bound_read P s scale y a b c = λ i. (neg_ℤ (a i +ℤ (pos 2 *ℤ b i) *ℤ c i), b i *ℤ b i)

void_only : (b : Bool) (f : Fraction) → ◌≡◌ {A = Result Judgement ProofFault} (cond b (Ok Void) (Ok (Bound f))) (Ok Void) → b ≡ true
void_only true f e = refl
void_only false f e = let c : ◌≡◌ {A = ℕ} 0 1 = cc in let no : ⊥ = omega arith in elim no [ ]

bound_only : (b : Bool) (f g : Fraction) → ◌≡◌ {A = Result Judgement ProofFault} (cond b (Ok Void) (Ok (Bound f))) (Ok (Bound g)) → g ≡ f
bound_only true f g e = let c : ◌≡◌ {A = ℕ} 0 1 = cc in let no : ⊥ = omega arith in elim no [ ]
bound_only false f g e = let same : f ≡ g = cc in sym same

no_fault : (b : Bool) (f : Fraction) {d : ProofFault} → ◌≡◌ {A = Result Judgement ProofFault} (cond b (Ok Void) (Ok (Bound f))) (Err d) → ⊥
no_fault true f e = let c : ◌≡◌ {A = ℕ} 0 1 = cc in omega arith
no_fault false f e = let c : ◌≡◌ {A = ℕ} 0 1 = cc in omega arith

-- ---- sizes
square_size : (q b : ℕ) → 0 < q → q ≤ b → (pos 1 ≤ℤ pos (q * q)) × (pos (q * q) ≤ℤ pos (b * b))
square_size (suc q) b h l = (omega (arith, ints), omega (arith, ints, mul-le (suc q) (suc q) b b l l))
square_size zero b h l = let no : ⊥ = omega arith in elim no [ ]

fair_price : (p : Problem) (x : AnyPoint) → OfferedPoint x → Fair (cost (program p) x)
fair_price p x o =
    let size = square_size x.q 1000 o.positive o.fine in
    record {
      numerator = sum_near p 1000000000000 (λ j. x.p j *ℤ x.p j) (λ j. product_near 1000000 1000000 (x.p j) (x.p j) (o.near j) (o.near j));
      positive = size.0;
      denominator = size.1;
    }

fair_proof : (p : Problem) (s : ℕ → Option Side) (y : AnyProof) → OfferedProof y → Fair (bound (program p) s y.s y.y)
fair_proof p s y o =
    let size = square_size y.s 1000 o.positive o.fine in
    let squares = sum_near p 640000000000 (λ j. column_sum (program p) y.y j *ℤ column_sum (program p) y.y j) (λ j. product_near 800000 800000 (column_sum (program p) y.y j) (column_sum (program p) y.y j) (column_near p y j o) (column_near p y j o)) in
    let levels = product_near 2000 160000000 (pos (2 * y.s)) (level_of (program p) s y.y) (omega (arith, o.fine)) (level_near p s y o) in
    record {
      numerator = within (dot p.n (column_sum (program p) y.y) (column_sum (program p) y.y)) (pos (2 * y.s) *ℤ level_of (program p) s y.y) squares levels;
      positive = size.0;
      denominator = size.1;
    }
  where
    within : (a b : ℤ) → unsigned_abs a ≤ 8 * 640000000000 → unsigned_abs b ≤ 2000 * 160000000 → unsigned_abs (neg_ℤ (a +ℤ b)) ≤ 8000000000000
    within a b h k = omega (arith, ints)

-- ---- the laws, for every problem
pub laws : (p : Problem) → Laws (meaning_of (program p))
laws p =
    let P = program p in record {
      some = p.some;
      few = p.few;
      fits = p.fits;
      inside = λ r e. (switch_inside P r e).0;
      frees = λ s r x e a. (admitted_freed P s r x a, refl);
      splits = λ s r x e free a. admitted_fixed P s r x (switch_inside P r e).1 (switch_inside P r e).0 free a;
      void = λ s y o e x positive a. void_none P s y.y (void_only (is_void P s y.y) (bound P s y.s y.y) e) x positive a;
      bound = λ s y b o e x positive a. subst (λ b. at_most b (cost P x) ≡ true) (sym (bound_only (is_void P s y.y) (bound P s y.s y.y) b e))
          (holds (bounded P.m P.n P.coefficient (low_end P s) (high_end P s) x.q y.s x.p y.y (admitted_within P s x a)));
      fair_cost = λ s x c o e. subst Fair (sym (price_taken P s x (cost P x) c e).1) (fair_price p x o);
      fair_bound = λ s y b o e. subst Fair (sym (bound_only (is_void P s y.y) (bound P s y.s y.y) b e)) (fair_proof p s y o);
      positive = λ s x h. (square_size x.q x.q h (same x.q)).0;
      taken = λ s x c o e. price_taken P s x (cost P x) c e;
      admitted = λ s x o a. price_given P s x (cost P x) a;
      stopped = λ s x r o e. price_row P s x (cost P x) r e;
      unbalanced = λ s y j o e. let no : ⊥ = no_fault (is_void P s y.y) (bound P s y.s y.y) e in elim no [ ];
    }
  where
    same : (n : ℕ) → n ≤ n
    same n = omega arith

-- ---- the meaning is plain
pub plain : (P : Program) → PlainMeaning (meaning_of P) P
plain P = record {
  admits_keeps = λ s x a. admitted_keeps P s x a;
  keeps_admits = λ s x k. keeps_admitted P s x k;
  same_admits = λ s t x agree a. admitted_same P s t agree x a;
  same_points = λ s t x agree. ap (λ a. result_and a (Ok (cost P x))) (admission_same P s t agree x);
  same_proofs = λ s t y agree.
      let v = void_same P s t agree y.y in
      let l = level_same P s t agree y.y in
      λ i. cond (v i) (Ok Void) (Ok (Bound (neg_ℤ (dot P.n (column_sum P y.y) (column_sum P y.y) +ℤ pos (2 * y.s) *ℤ l i), pos (y.s * y.s))));
}
