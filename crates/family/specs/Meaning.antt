-- What a family of problems means, and the laws that it keeps. Sides are a choice for each row: None is free.
use Rattle.std.specs.Prelude.{◌≡◌, ℕ, ◌<◌, ◌≤◌, Bool, true, cond, pos, ◌≤ℤ◌, None, Ok, Err, Option, Result, ◌==◌}
use Rattle.family.specs.declared.fault.PointFault.{PointFault}
use Rattle.family.specs.declared.fault.PointFault.TheVariants.{NotAdmitted}
use Rattle.family.specs.declared.fault.ProofFault.{ProofFault}
use Rattle.family.specs.declared.fault.ProofFault.TheVariants.{NotBalanced}
use Rattle.family.specs.declared.judgement.Judgement.{Judgement}
use Rattle.family.specs.declared.judgement.Judgement.TheVariants.{Void, Bound}
use Rattle.family.specs.declared.position.Position.{Position}
use Rattle.family.specs.declared.side.Side.{Side}
use Rattle.family.specs.Fractions.{Fraction, at_most, Fair}
use Rattle.family.specs.Points.{AnyPoint, AnyProof, OfferedPoint, OfferedProof}
use Rattle.family.specs.Sides.{fixed}

-- sides with the row r free
abbrev pub freed : (ℕ → Option Side) → ℕ → ℕ → Option Side
freed s r k = cond (k == r) None (s k)

pub record Meaning : Type 1 where
  -- the numbers of quantities and of rows, and which rows are switches
  pub n : ℕ
  pub m : ℕ
  pub switch : ℕ → Bool
  -- for every choice of sides the admitted points, of any size, each with a cost
  pub admits : (ℕ → Option Side) → AnyPoint → Type 0
  pub cost : (ℕ → Option Side) → AnyPoint → Fraction
  -- the answers to what is offered
  pub judge_point : (ℕ → Option Side) → AnyPoint → Result Fraction PointFault
  pub judge_proof : (ℕ → Option Side) → AnyProof → Result Judgement ProofFault
  pub position : ℕ → AnyPoint → Position

pub record Laws (M : Meaning) : Type 0 where
  pub some : 1 ≤ M.n
  pub few : M.n ≤ 8
  pub fits : M.m ≤ 16
  pub inside : (r : ℕ) → M.switch r ≡ true → r < M.m
  -- freeing a switch loses no admitted point and alters no cost
  pub frees : (s : ℕ → Option Side) (r : ℕ) (x : AnyPoint) → M.switch r ≡ true → M.admits s x → M.admits (freed s r) x × (M.cost (freed s r) x ≡ M.cost s x)
  -- a point admitted with a switch free is admitted with it at one of its positions
  pub splits : (s : ℕ → Option Side) (r : ℕ) (x : AnyPoint) → M.switch r ≡ true → s r ≡ None → M.admits s x → (d : Side) × M.admits (fixed s r d) x
  -- where a proof is void no point is admitted
  pub void : (s : ℕ → Option Side) (y : AnyProof) → OfferedProof y → M.judge_proof s y ≡ Ok Void → (x : AnyPoint) → 0 < x.q → M.admits s x → ⊥
  -- where a proof has a bound every admitted point costs at least the bound
  pub bound : (s : ℕ → Option Side) (y : AnyProof) (b : Fraction) → OfferedProof y → M.judge_proof s y ≡ Ok (Bound b) → (x : AnyPoint) → 0 < x.q → M.admits s x → at_most b (M.cost s x) ≡ true
  -- answers to offers lie within the limits, and every cost has a positive denominator
  pub fair_cost : (s : ℕ → Option Side) (x : AnyPoint) (c : Fraction) → OfferedPoint x → M.judge_point s x ≡ Ok c → Fair c
  pub fair_bound : (s : ℕ → Option Side) (y : AnyProof) (b : Fraction) → OfferedProof y → M.judge_proof s y ≡ Ok (Bound b) → Fair b
  pub positive : (s : ℕ → Option Side) (x : AnyPoint) → 0 < x.q → pos 1 ≤ℤ (M.cost s x).1
  -- a point is answered by its cost exactly if it is admitted, and else by a row
  pub taken : (s : ℕ → Option Side) (x : AnyPoint) (c : Fraction) → OfferedPoint x → M.judge_point s x ≡ Ok c → M.admits s x × (c ≡ M.cost s x)
  pub admitted : (s : ℕ → Option Side) (x : AnyPoint) → OfferedPoint x → M.admits s x → M.judge_point s x ≡ Ok (M.cost s x)
  pub stopped : (s : ℕ → Option Side) (x : AnyPoint) (r : ℕ) → OfferedPoint x → M.judge_point s x ≡ Err (NotAdmitted r) → (1 ≤ r) × (r ≤ M.m)
  -- a proof that does not balance is answered by a column
  pub unbalanced : (s : ℕ → Option Side) (y : AnyProof) (j : ℕ) → OfferedProof y → M.judge_proof s y ≡ Err (NotBalanced j) → (1 ≤ j) × (j ≤ M.n)
