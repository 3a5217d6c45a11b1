-- What a proof shows of a linear problem, and what the family means. Rates are counted by j < n.
use Rattle.std.specs.Prelude.{ℕ, ◌+◌, cond, ℤ, pos, ◌*ℤ◌, neg_ℤ, Some, None, Ok, Err, Option, Result}
use Rattle.family.specs.declared.fault.ProofFault.{ProofFault}
use Rattle.family.specs.declared.fault.ProofFault.TheVariants.{NotBalanced}
use Rattle.family.specs.declared.judgement.Judgement.{Judgement}
use Rattle.family.specs.declared.judgement.Judgement.TheVariants.{Void, Bound}
use Rattle.family.specs.declared.side.Side.{Side}
use Rattle.family.specs.Fractions.{Fraction}
use Rattle.family.specs.Meaning.{Meaning}
use Rattle.family.specs.Numbers.{same}
use Rattle.problem.specs.Programs.{Program}
use Rattle.rows.specs.Rules.{Admitted, switch_at, position}
use Rattle.rows.specs.Searches.{first_failing}
use Rattle.rows.specs.Duals.{column_sum, level_of, is_void}
use Rattle.linear.specs.Costs.{cost, price}

-- the least of count places from j on at which two sequences differ
abbrev pub first_difference : (ℕ → ℤ) → (ℕ → ℤ) → ℕ → ℕ → Option ℕ
first_difference f g = first_failing (λ j. same (f j) (g j))

-- the column sum that balances the rate of column j at a scale
abbrev pub balancing : ℕ → (ℕ → ℤ) → ℕ → ℤ
balancing scale rates j = neg_ℤ (pos scale *ℤ rates j)

-- a proof is balanced when S_j is minus the scale times the rate, for every j; this is the first column that fails
abbrev pub off_balance : Program → (ℕ → ℤ) → ℕ → (ℕ → ℤ) → Option ℕ
off_balance P rates scale y = first_difference (column_sum P y) (balancing scale rates) 0 P.n

-- the bound of multipliers y at a scale: -L over the scale
abbrev pub bound : Program → (ℕ → Option Side) → ℕ → (ℕ → ℤ) → Fraction
bound P s scale y = (neg_ℤ (level_of P s y), pos scale)

-- a balanced proof has its bound, and any other is denied by the first column that fails, counted from 1
abbrev pub balanced : Option ℕ → Fraction → Result Judgement ProofFault
balanced None b = Ok (Bound b)
balanced (Some j) b = Err (NotBalanced (j + 1))

-- a proof is void, or has to balance
abbrev pub judgement : Program → (ℕ → ℤ) → (ℕ → Option Side) → ℕ → (ℕ → ℤ) → Result Judgement ProofFault
judgement P rates s scale y = cond (is_void P s y) (Ok Void) (balanced (off_balance P rates scale y) (bound P s scale y))

abbrev pub meaning_of : Program → (ℕ → ℤ) → Meaning
meaning_of P rates = record {
  n = P.n;
  m = P.m;
  switch = switch_at P;
  admits = Admitted P;
  cost = λ s x. cost P rates x;
  judge_point = λ s x. price P rates s x;
  judge_proof = λ s y. judgement P rates s y.s y.y;
  position = λ i x. position P i x;
}
