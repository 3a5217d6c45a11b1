-- What a proof shows of a least-squares problem, and what the family means.
use Rattle.std.specs.Prelude.{ℕ, ◌*◌, cond, ℤ, pos, ◌+ℤ◌, ◌*ℤ◌, neg_ℤ, Ok, Option, Result}
use Rattle.sums.specs.Sums.{dot}
use Rattle.family.specs.declared.fault.ProofFault.{ProofFault}
use Rattle.family.specs.declared.judgement.Judgement.{Judgement}
use Rattle.family.specs.declared.judgement.Judgement.TheVariants.{Void, Bound}
use Rattle.family.specs.declared.side.Side.{Side}
use Rattle.family.specs.Fractions.{Fraction}
use Rattle.family.specs.Meaning.{Meaning}
use Rattle.problem.specs.Programs.{Program}
use Rattle.rows.specs.Rules.{Admitted, switch_at, position}
use Rattle.rows.specs.Duals.{column_sum, level_of, is_void}
use Rattle.squares.specs.Costs.{cost, price}

-- the bound that column sums of eight columns and a level give at a scale
abbrev pub bound_of : ℕ → (ℕ → ℤ) → ℤ → Fraction
bound_of scale sums level = (neg_ℤ (dot 8 sums sums +ℤ (pos 2 *ℤ pos scale) *ℤ level), pos scale *ℤ pos scale)

-- the bound of multipliers y at a scale: -(sum of S_j squared + 2 times scale times L) over the scale squared
abbrev pub bound : Program → (ℕ → Option Side) → ℕ → (ℕ → ℤ) → Fraction
bound P s scale y =
    (neg_ℤ (dot P.n (column_sum P y) (column_sum P y) +ℤ pos (2 * scale) *ℤ level_of P s y), pos (scale * scale))

-- a proof is void, or it has its bound
abbrev pub judgement : Program → (ℕ → Option Side) → ℕ → (ℕ → ℤ) → Result Judgement ProofFault
judgement P s scale y = cond (is_void P s y) (Ok Void) (Ok (Bound (bound P s scale y)))

abbrev pub meaning_of : Program → Meaning
meaning_of P = record {
  n = P.n;
  m = P.m;
  switch = switch_at P;
  admits = Admitted P;
  cost = λ s x. cost P x;
  judge_point = λ s x. price P s x;
  judge_proof = λ s y. judgement P s y.s y.y;
  position = λ i x. position P i x;
}
