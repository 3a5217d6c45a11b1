-- The walk over the rows that finds the one to split at.
use Rattle.std.proofs.Common.{◌≡◌, ℕ, zero, suc, ◌+◌, ◌<◌, ◌≤◌, List, ◌∷◌, ℤ, IsTrue, Some, None, Ok, Option, Result, MatchOption, IfSome, IsSomeAnd, sym, refl, ap, ◌∙◌, subst, ⊎_elim, arith}
use denote.Param.Members.{Mut}
use Rattle.std.proofs.iter.Yields.{nat_range_steps}
use Rattle.std.proofs.iter.runs.Sources.{range_runs}
use Rattle.std.proofs.lemmas.Bool.{cases_eq}
use Rattle.std.proofs.lemmas.Option.{same_Some}
use Rattle.std.specs.declared.ops.Range.{Range}
use Rattle.std.specs.Fn.{Called}
use Rattle.std.specs.Iterator.Runs.{SomeRun, AllItemsGive, IsFirstToGive, CallKeepsClosure, ItemsCountUp}
use Rattle.std.specs.Option.{option_map, option_or}
use Rattle.std.specs.Result.{result_and}
use Rattle.family.specs.declared.fault.Fault.{Fault}
use Rattle.family.specs.Points.{Point}
use Rattle.family.specs.declared.shape.Shape.TheVariants.{Point as PointShape}
use Rattle.family.specs.Lists.{list_fault}
use Rattle.family.specs.Meaning.{Meaning}
use Rattle.family.specs.Points.{AnyPoint, Holds, any_point, point_in}
use Rattle.search.specs.declared.advice.Advice.{Advice}
use Rattle.search.specs.Advising.{advised_at, at_row, least_from, advice}
use Rattle.search.specs.Tally.{Sides, list_judged, at_current}
use Rattle.search.proofs.Offers.{point_is}

-- ---- what `find_map` over a range answers, where its closure computes h
of_some : (o : Option ℕ) (k : ℕ) (P : ℕ → Type 0) → option_map (λ y. y) o ≡ Some (0 + k) → IfSome o P → P k
of_some None k P e h = cc
of_some (Some n) k P e h = let q : n ≡ k = omega (arith, same_Some n (0 + k) e) in subst P q h

of_that : (o : Option ℕ) (k : ℕ) (P : ℕ → Type 0) → option_map (λ y. y) o ≡ Some (0 + k) → IsSomeAnd o P → P k
of_that None k P e h = cc
of_that (Some n) k P e h = of_some (Some n) k P e h

-- the least number below m at which h answers, if there is one
abbrev pub Least : {B : Type 0} → (ℕ → Option B) → ℕ → Option B → Type 0
Least h m r = MatchOption r ((k : ℕ) → k < m → h k ≡ None) (λ y. (i : ℕ) × (i < m) × (h i ≡ Some y) × ((k : ℕ) → k < i → h k ≡ None))

module _ {F B : Type 0} {g : Mut F (ℕ × Unit {0}) (Option B)} (h : ℕ → Option B) (f : F) (m : ℕ)
    (says : (k : ℕ) (o : Option B) (q : F) → Called g f (k, tt) o q → (q ≡ f) × (o ≡ h k)) where
  pub found : (r : Option B)
      → SomeRun nat_range_steps (record { start = 0; end = m }) (λ p. MatchOption r (IsTrue p.whole × AllItemsGive p g f None) (λ y. (i : ℕ) × (i < p.len) × (p.len ≡ i + 1) × IsFirstToGive p g f (Some y) None i))
      → Least h m r
  found r d = go r d.2
    where
      keeps : CallKeepsClosure g f
      keeps a o q c = (says a.0 o q c).0

      counts : ItemsCountUp d.0 0 m
      counts = subst (λ (s : Range ℕ). ItemsCountUp d.0 s.start s.end) d.1 (range_runs d.0 d.0.seen)

      go : (r : Option B) → MatchOption r (IsTrue d.0.whole × AllItemsGive d.0 g f None) (λ y. (i : ℕ) × (i < d.0.len) × (d.0.len ≡ i + 1) × IsFirstToGive d.0 g f (Some y) None i) → Least h m r
      go None t = λ k lt. let long : d.0.len ≡ m = omega (arith, counts.1 t.0) in sym (says k None f (of_some (d.0.at k) k (λ n. Called g f (n, tt) None f) (counts.3 k (omega arith)) (t.1 keeps k))).1
      go (Some y) t = (
        t.0,
        omega (arith, counts.0, t.1),
        sym (says t.0 (Some y) f (of_that (d.0.at t.0) t.0 (λ n. Called g f (n, tt) (Some y) f) (counts.3 t.0 t.1) (t.3 keeps).0)).1,
        λ k lt. sym (says k None f (of_that (d.0.at k) k (λ n. Called g f (n, tt) None f) (counts.3 k (omega (arith, t.1))) ((t.3 keeps).1 k lt))).1,
      )

-- ---- the same of the rows
module _ (M : Meaning) (s : Sides) (x : AnyPoint) where
  abbrev pub advised : ℕ → Option Advice
  advised r = option_map (at_row r) (advised_at M s x r)

  least_none : (r n : ℕ) → ((k : ℕ) → r ≤ k → k < r + n → advised k ≡ None) → least_from M s x r n ≡ None
  unfolding least_from
  least_none r zero h = refl
  least_none r (suc n) h = rw (h r (omega arith) (omega arith)) (least_none (r + 1) n (λ k lo hi. h k (omega arith) (omega arith)))

  least_some : (r n i : ℕ) (a : Advice) → r ≤ i → i < r + n → advised i ≡ Some a → ((k : ℕ) → r ≤ k → k < i → advised k ≡ None) → least_from M s x r n ≡ Some a
  unfolding least_from
  least_some r zero i a lo hi e h = absurd (omega arith)
  least_some r (suc n) i a lo hi e h = ⊎_elim
      (λ q. ap (λ o. option_or o (least_from M s x (r + 1) n)) (ap advised q ∙ e))
      (λ ne. ap (λ o. option_or o (least_from M s x (r + 1) n)) (h r (omega arith) (omega arith)) ∙ least_some (r + 1) n i a (omega arith) (omega arith) e (λ k lo hi. h k (omega arith) hi))
      (cases_eq r i)

  pub least_is : (m : ℕ) (r : Option Advice) → Least advised m r → least_from M s x 0 m ≡ r
  least_is m None h = least_none 0 m (λ k lo hi. h k (omega arith))
  least_is m (Some a) h = least_some 0 m h.0 a (omega arith) (omega (arith, h.1)) h.2 (λ k lo hi. h.3 k hi)

-- the whole answer, once the list is read and the current node is known
pub advice_is : (M : Meaning) (n m : ℕ) → n ≡ M.n → m ≡ M.m → (nodes pending : List Sides) → nodes ≡ pending → (s : Sides) (others : List Sides) → nodes ≡ s ∷ others
    → (list : List ℤ) (x : Point) → (list_fault (PointShape n) list ≡ Ok tt) × Holds list x → (r : Option Advice) → least_from M s (any_point x) 0 m ≡ r → Ok r ≡ advice M pending list
advice_is M n m is_n is_m nodes pending same s others top list x read r e =
    let fine : list_fault (PointShape M.n) list ≡ Ok tt = subst (λ k. list_fault (PointShape k) list ≡ Ok tt) is_n read.0 in
    let at_node : Sides → Result (Option Advice) Fault = λ z. Ok (least_from M z (point_in list) 0 M.m) in
    ap Ok (sym e ∙ ap (λ y. least_from M s y 0 m) (point_is list x read.1) ∙ ap (least_from M s (point_in list) 0) is_m)
    ∙ sym (ap (λ z. result_and (list_judged z) (at_current pending at_node)) fine ∙ ap (λ z. at_current z at_node) (sym same ∙ top))
