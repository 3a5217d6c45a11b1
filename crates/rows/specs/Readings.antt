-- What the code holds of a proof that is not void.
use Rattle.std.specs.Prelude.{◌≡◌, ℕ, false, ℤ, Option}
use Rattle.family.specs.declared.side.Side.{Side}
use Rattle.family.specs.Numbers.{at}
use Rattle.problem.specs.Programs.{Program}
use Rattle.rows.specs.declared.duals.Duals.{Duals}
use Rattle.rows.specs.Duals.{column_sum, level_of, is_void}

-- the multipliers y are not void under sides, and d holds their column sums and their level
pub record HasDuals (P : Program) (s : ℕ → Option Side) (y : ℕ → ℤ) (d : Duals) : Type 0 where
  pub unsettled : is_void P s y ≡ false
  pub columns : (j : ℕ) → at d.columns.sums j ≡ column_sum P y j
  pub level : d.level ≡ level_of P s y
