-- What a family over a program means, in the rules' own words.
use Rattle.std.specs.Prelude.{◌≡◌, ℕ, ◌<◌, true, ◌⊎◌, ℤ, ◌≤ℤ◌, Some, Option}
use Rattle.family.specs.declared.side.Side.{Side}
use Rattle.family.specs.declared.side.Side.TheVariants.{Lower, Upper}
use Rattle.family.specs.Meaning.{Meaning}
use Rattle.family.specs.Points.{AnyPoint, AnyProof}
use Rattle.problem.specs.declared.kind.Kind.TheVariants.{Switch}
use Rattle.problem.specs.Programs.{Program}
use Rattle.rows.specs.Rules.{value, scaled, switch_at}

-- the end of row i at a side
abbrev pub end_at : Program → ℕ → Side → ℤ
end_at P i Lower = P.lo i
end_at P i Upper = P.hi i

-- a point keeps every row, every switch stands at an end, and every fixed switch stands at its fixed end
pub record Keeps (P : Program) (s : ℕ → Option Side) (x : AnyPoint) : Type 0 where
  pub kept : (i : ℕ) → i < P.m → (scaled x (P.lo i) ≤ℤ value P i x) × (value P i x ≤ℤ scaled x (P.hi i))
  pub stands : (i : ℕ) → i < P.m → P.kind i ≡ Switch → (value P i x ≡ scaled x (P.lo i)) ⊎ (value P i x ≡ scaled x (P.hi i))
  pub fixed : (i : ℕ) (d : Side) → i < P.m → P.kind i ≡ Switch → s i ≡ Some d → value P i x ≡ scaled x (end_at P i d)

-- two choices of sides agree on every switch
abbrev pub Agree : Program → (ℕ → Option Side) → (ℕ → Option Side) → Type 0
Agree P s t = (i : ℕ) → switch_at P i ≡ true → s i ≡ t i

-- a meaning is plain over a program: admitted is as above, and what sides say of other rows changes no answer
pub record PlainMeaning (M : Meaning) (P : Program) : Type 0 where
  pub admits_keeps : (s : ℕ → Option Side) (x : AnyPoint) → M.admits s x → Keeps P s x
  pub keeps_admits : (s : ℕ → Option Side) (x : AnyPoint) → Keeps P s x → M.admits s x
  pub same_admits : (s t : ℕ → Option Side) (x : AnyPoint) → Agree P s t → M.admits s x → M.admits t x
  pub same_points : (s t : ℕ → Option Side) (x : AnyPoint) → Agree P s t → M.judge_point s x ≡ M.judge_point t x
  pub same_proofs : (s t : ℕ → Option Side) (y : AnyProof) → Agree P s t → M.judge_proof s y ≡ M.judge_proof t y
