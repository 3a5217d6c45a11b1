-- From a proof's dual quantities to its judgement.
use Rattle.std.proofs.Common.{◌≡◌, ℕ, true, ℤ, Some, None, Ok, Option, MatchOption, refl, ap, ◌∙◌}
use Rattle.family.specs.declared.judgement.Judgement.{Judgement}
use Rattle.family.specs.declared.judgement.Judgement.TheVariants.{Void, Bound}
use Rattle.family.specs.declared.side.Side.{Side}
use Rattle.family.specs.Numbers.{at}
use Rattle.problem.specs.declared.table.Problem.{Problem}
use Rattle.problem.specs.Programs.{program}
use Rattle.rows.specs.declared.duals.Duals.{Duals}
use Rattle.rows.specs.Duals.{is_void}
use Rattle.rows.specs.Readings.{HasDuals}
use Rattle.rows.proofs.Columns.{squares_read}
use Rattle.squares.specs.Bounds.{bound_of, judgement}
use Rattle.squares.specs.Laws.{judged_void, judged_bound, bound_read}

-- `Made d` says what the code made of the dual quantities d
pub judged : (p : Problem) (s : ℕ → Option Side) (scale : ℕ) (y : ℕ → ℤ) (Made : Duals → Type 0) (o : Option Duals) (j : Judgement) → MatchOption o (is_void (program p) s y ≡ true) (HasDuals (program p) s y) → MatchOption o (j ≡ Void) Made
    → ((d : Duals) → Made d → j ≡ Bound (bound_of scale (at d.columns.sums) d.level)) → Ok j ≡ judgement (program p) s scale y
judged p s scale y Made None j void made is = ap Ok made ∙ judged_void (program p) s scale y void
judged p s scale y Made (Some d) j h made is =
    ap Ok (is d made) ∙ judged_bound (program p) s scale y h.unsettled (bound_read (program p) s scale y (squares_read p y d.columns.sums h.columns) refl h.level)
