-- The sample problem, and what the definitions answer to a list that is offered to it.
use Rattle.std.specs.Prelude.{ℕ, Bool, List, [], ◌∷◌, ◌++◌, take, replicate, ℤ, pos, Ok, Err, Option, Result, slice_index_or}
use Rattle.family.specs.declared.fault.Denial.{Denial}
use Rattle.family.specs.declared.fault.Fault.TheVariants.{List as list_fault_of, Point as point_fault_of, Proof as proof_fault_of}
use Rattle.family.specs.declared.fault.ListFault.{ListFault}
use Rattle.family.specs.declared.fault.PointFault.{PointFault}
use Rattle.family.specs.declared.fault.ProofFault.{ProofFault}
use Rattle.family.specs.declared.judgement.Judgement.{Judgement}
use Rattle.family.specs.declared.judgement.Judgement.TheVariants.{Void, Bound}
use Rattle.family.specs.declared.shape.Shape.TheVariants.{Point as PointShape, Proof as ProofShape}
use Rattle.family.specs.declared.side.Side.{Side}
use Rattle.family.specs.Denials.{denial_of}
use Rattle.family.specs.Fractions.{Fraction, cheaper, closes}
use Rattle.family.specs.Lists.{list_fault}
use Rattle.family.specs.Numbers.{at}
use Rattle.family.specs.Points.{AnyPoint, AnyProof, point_in, proof_in}
use Rattle.problem.specs.declared.kind.Kind.TheVariants.{Plain, Switch}
use Rattle.problem.specs.Programs.{Program}
use Rattle.linear.specs.Costs as linear_costs
use Rattle.linear.specs.Bounds as linear_bounds
use Rattle.squares.specs.Costs as square_costs
use Rattle.squares.specs.Bounds as square_bounds

-- two quantities; row 1 a switch 0 to 3 on the first, row 2 a switch 0 to 4 on the second, row 3 plain from start to
-- 10,000 on their sum
abbrev pub sample : ℤ → Program
sample start = record {
  n = 2;
  m = 3;
  kind = λ i. slice_index_or (Switch ∷ (Switch ∷ [])) i Plain;
  lo = at (pos 0 ∷ (pos 0 ∷ (start ∷ [])));
  hi = at (pos 3 ∷ (pos 4 ∷ (pos 10000 ∷ [])));
  coefficient = λ i. at (slice_index_or ((pos 1 ∷ (pos 0 ∷ [])) ∷ ((pos 0 ∷ (pos 1 ∷ [])) ∷ ((pos 1 ∷ (pos 1 ∷ [])) ∷ []))) i []);
}

-- the two cost families
pub data Costs : Type 0 where
  squares : Costs
  rated : List ℤ → Costs

-- what is asked of a list
pub data Question : Type 0 where
  -- the point in it: what does it cost
  price : List ℤ → Question
  -- is its cost strictly cheaper than a held one
  beats : Fraction → List ℤ → Question
  -- the proof in it: what does it show
  show : List ℤ → Question
  -- does its bound close against a held cost at a gap
  shuts : ℕ → Fraction → List ℤ → Question

pub data Answer : Type 0 where
  costs : Fraction → Answer
  bounds : Fraction → Answer
  void : Answer
  -- a denial's number and place
  denied : ℕ → ℕ → Answer
  decided : Bool → Answer

abbrev pub by_denial : Denial → Answer
by_denial d = denied d.number d.place

-- trailing zeros are left out in the listing
abbrev pub padded : ℕ → List ℤ → List ℤ
padded n list = take n (list ++ replicate n (pos 0))

-- the families' answers, by the cost
abbrev pub priced : Costs → Program → (ℕ → Option Side) → AnyPoint → Result Fraction PointFault
priced squares P s x = square_costs.price P s x
priced (rated rates) P s x = linear_costs.price P (at rates) s x

abbrev pub judged : Costs → Program → (ℕ → Option Side) → AnyProof → Result Judgement ProofFault
judged squares P s y = square_bounds.judgement P s y.s y.y
judged (rated rates) P s y = linear_bounds.judgement P (at rates) s y.s y.y

abbrev pub point_answer : (Fraction → Answer) → Result (Unit {0}) ListFault → Result Fraction PointFault → Answer
point_answer f (Err e) r = by_denial (denial_of (list_fault_of e))
point_answer f (Ok x) (Err e) = by_denial (denial_of (point_fault_of e))
point_answer f (Ok x) (Ok c) = f c

abbrev pub proof_answer : (Fraction → Answer) → Result (Unit {0}) ListFault → Result Judgement ProofFault → Answer
proof_answer f (Err e) r = by_denial (denial_of (list_fault_of e))
proof_answer f (Ok x) (Err e) = by_denial (denial_of (proof_fault_of e))
proof_answer f (Ok x) (Ok Void) = void
proof_answer f (Ok x) (Ok (Bound b)) = f b

abbrev pub asked_point : (Fraction → Answer) → Costs → Program → (ℕ → Option Side) → List ℤ → Answer
asked_point f c P s list = point_answer f (list_fault (PointShape P.n) list) (priced c P s (point_in list))

abbrev pub asked_proof : (Fraction → Answer) → Costs → Program → (ℕ → Option Side) → List ℤ → Answer
asked_proof f c P s list = proof_answer f (list_fault (ProofShape P.m) list) (judged c P s (proof_in list))

abbrev pub answer : Costs → Program → (ℕ → Option Side) → Question → Answer
answer c P s (price list) = asked_point costs c P s (padded 9 list)
answer c P s (beats held list) = asked_point (λ k. decided (cheaper k held)) c P s (padded 9 list)
answer c P s (show list) = asked_proof bounds c P s (padded 17 list)
answer c P s (shuts gap held list) = asked_proof (λ b. decided (closes gap b held)) c P s (padded 17 list)
