-- The first number at which a test fails: what a search for it finds, and what it tells of the numbers before.
use Rattle.std.proofs.Common.{◌≡◌, ℕ, zero, suc, ◌+◌, ◌<◌, ◌≤◌, Bool, true, false, cond, Some, None, Option, MatchOption, sym, refl, ap, ◌∙◌, subst, arith}
use Rattle.rows.specs.Searches.{first_failing}

module _ (test : ℕ → Bool) where
  split : (b : Bool) (i : ℕ) (rest : Option ℕ) → cond b rest (Some i) ≡ None → (b ≡ true) × (rest ≡ None)
  split true i rest e = (refl, e)
  split false i rest e = let c : ◌≡◌ {A = ℕ} 0 1 = cc in let no : ⊥ = omega arith in elim no [ ]

  pub failing_none : (i count : ℕ) → first_failing test i count ≡ None → (k : ℕ) → k < count → test (i + k) ≡ true
  unfolding first_failing
  failing_none i zero e k h = let no : ⊥ = omega arith in elim no [ ]
  failing_none i (suc count) e zero h = let q : i ≡ i + 0 = omega arith in subst (λ n. test n ≡ true) q (split (test i) i (first_failing test (i + 1) count) e).0
  failing_none i (suc count) e (suc k) h =
      let q : i + 1 + k ≡ i + suc k = omega arith in
      subst (λ n. test n ≡ true) q (failing_none (i + 1) count (split (test i) i (first_failing test (i + 1) count) e).1 k (omega arith))

  pub none_failing : (i count : ℕ) → ((k : ℕ) → k < count → test (i + k) ≡ true) → first_failing test i count ≡ None
  unfolding first_failing
  none_failing i zero a = refl
  none_failing i (suc count) a =
      let here : test i ≡ true = (let q : i + 0 ≡ i = omega arith in subst (λ n. test n ≡ true) q (a 0 (omega arith))) in
      ap (λ b. cond b (first_failing test (i + 1) count) (Some i)) here
      ∙ none_failing (i + 1) count (λ k h. let q : i + suc k ≡ i + 1 + k = omega arith in subst (λ n. test n ≡ true) q (a (suc k) (omega arith)))

  pub failing_inside : (i count r : ℕ) → first_failing test i count ≡ Some r → r < i + count
  unfolding first_failing
  failing_inside i zero r e = let c : ◌≡◌ {A = ℕ} 0 1 = cc in let no : ⊥ = omega arith in elim no [ ]
  failing_inside i (suc count) r e = by (failing_inside (i + 1) count r) (test i) e
    where
      by : (first_failing test (i + 1) count ≡ Some r → r < i + 1 + count) → (b : Bool) → cond b (first_failing test (i + 1) count) (Some i) ≡ Some r → r < i + suc count
      by more true e = omega (arith, more e)
      by more false e = let q : i ≡ r = cc in omega arith

  failing_at : (i count k : ℕ) → k < count → ((l : ℕ) → l < k → test (i + l) ≡ true) → test (i + k) ≡ false → first_failing test i count ≡ Some (i + k)
  unfolding first_failing
  failing_at i zero k h a e = let no : ⊥ = omega arith in elim no [ ]
  failing_at i (suc count) zero h a e =
      let q : i + 0 ≡ i = omega arith in
      ap (λ b. cond b (first_failing test (i + 1) count) (Some i)) (subst (λ n. test n ≡ false) q e) ∙ ap Some (sym q)
  failing_at i (suc count) (suc k) h a e =
      let here : test i ≡ true = (let q : i + 0 ≡ i = omega arith in subst (λ n. test n ≡ true) q (a 0 (omega arith))) in
      let there : i + suc k ≡ i + 1 + k = omega arith in
      ap (λ b. cond b (first_failing test (i + 1) count) (Some i)) here
      ∙ failing_at (i + 1) count k (omega arith) (λ l m. let q : i + suc l ≡ i + 1 + l = omega arith in subst (λ n. test n ≡ true) q (a (suc l) (omega arith))) (subst (λ n. test n ≡ false) there e)
      ∙ ap Some (sym there)

  -- what a search from 0 on found
  pub found : (n : ℕ) (r : Option ℕ) → MatchOption r ((k : ℕ) → 0 ≤ k → k < n → test k ≡ true) (λ i. (0 ≤ i) × (i < n) × (test i ≡ false) × ((k : ℕ) → 0 ≤ k → k < i → test k ≡ true)) → r ≡ first_failing test 0 n
  found n None a = sym (none_failing 0 n (λ k h. let q : k ≡ 0 + k = omega arith in subst (λ n. test n ≡ true) q (a k (omega arith) h)))
  found n (Some i) a =
      let there : 0 + i ≡ i = omega arith in
      sym (failing_at 0 n i a.1 (λ l h. let q : l ≡ 0 + l = omega arith in subst (λ n. test n ≡ true) q (a.3 l (omega arith) h)) (subst (λ n. test n ≡ false) (sym there) a.2) ∙ ap Some there)

-- the numbers that are looked at decide
pub failing_same : (s t : ℕ → Bool) (i count : ℕ) → ((k : ℕ) → k < i + count → s k ≡ t k) → first_failing s i count ≡ first_failing t i count
unfolding first_failing
failing_same s t i zero e = refl
failing_same s t i (suc count) e =
    let here = e i (omega arith) in
    let rest = failing_same s t (i + 1) count (λ k l. e k (omega arith)) in
    λ d. cond (here d) (rest d) (Some i)
