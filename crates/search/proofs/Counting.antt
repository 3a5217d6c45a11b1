-- The open and the closed nodes are one more than the splits.
use Rattle.std.proofs.Common.{◌≡◌, ℕ, ◌+◌, List, [], ◌∷◌, length, ℤ, refl, arith}
use Rattle.family.specs.declared.side.Side.{Side}
use Rattle.family.specs.declared.side.Side.TheVariants.{Lower, Upper}
use Rattle.family.specs.Meaning.{Meaning}
use Rattle.search.specs.Tally.{OnTop, Sides, Call, Tally, Deed, take, keep, close, branch, apply, fresh, rest, closing, branched, after}
use Rattle.search.proofs.Steps.{Legal, Shown, May, kept}

abbrev Even : Tally → Type 0
Even t = length t.pending + length t.closed ≡ t.splits + 1

on_close : (P : Sides → Type 0) (ss done : List Sides) (n : ℕ) → OnTop P ss → length ss + length done ≡ n → length (rest ss) + length (closing ss done) ≡ n
on_close P [] done n top e = absurd top
on_close P (s ∷ ss) done n top e = omega arith

on_branch : (P : Sides → Type 0) (ss : List Sides) (r : ℕ) (d : Side) (k n : ℕ) → OnTop P ss → length ss + k ≡ n + 1 → length (branched r d ss) + k ≡ n + 1 + 1
on_branch P [] r d k n top e = absurd top
on_branch P (s ∷ ss) r Lower k n top e = omega arith
on_branch P (s ∷ ss) r Upper k n top e = omega arith

module _ (M : Meaning) (gap : ℕ) where
  even : (t : Tally) (deed : Deed) → Legal M gap t deed → Even t → Even (apply t deed)
  even t (take list cost) l e = e
  even t (keep cost) l e = e
  even t (close j) l e = on_close (λ s. (list : List ℤ) × Shown M gap t.held list j s) t.pending t.closed (t.splits + 1) l e
  even t (branch r d) l e = on_branch (May M r) t.pending r d (length t.closed) t.splits l e

  pub counted : (calls : List Call) → Even (after M gap fresh calls)
  counted calls = kept M gap Even even fresh calls refl
