-- The lists that a draft is written as: the one that HEADER takes, and for each row the one that ADD ROW takes.
use Rattle.std.specs.Prelude.{ℕ, Bool, cond, List, ◌∷◌, replicate, ℤ, pos, nat_lt}
use Rattle.problem.specs.Calls.{Data}
use Rattle.problem.specs.Drafts.{ProblemData}
use Rattle.problem.specs.Kinds.{kind_number}
use Rattle.problem.specs.Tables.{row_at, row_cells}

-- the rates as a list keeps them: eight 0 where costs have no rates
abbrev pub rates_kept : {C : Type 0} → Bool → Data C → List ℤ
rates_kept rated d = cond rated d.rates (replicate 8 (pos 0))

-- the number of quantities, the gap and eight rates
abbrev pub header_list : {C : Type 0} → Bool → Data C → List ℤ
header_list rated d = pos d.problem.n ∷ pos d.gap ∷ rates_kept rated d

-- the eight coefficients of the row with this index; all 0 beyond the matrix
abbrev pub coefficients_of : ProblemData → ℕ → List ℤ
coefficients_of d index = cond (nat_lt index 16) (row_cells d.cells index) (replicate 8 (pos 0))

-- the kind, the ends and eight coefficients of the row with this index
abbrev pub listed_row : {C : Type 0} → Data C → ℕ → List ℤ
listed_row d index =
    pos (kind_number (row_at d.problem.rows index).kind)
    ∷ (row_at d.problem.rows index).lo
    ∷ (row_at d.problem.rows index).hi
    ∷ coefficients_of d.problem index
