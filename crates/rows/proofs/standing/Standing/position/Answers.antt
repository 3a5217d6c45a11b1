use Rattle.std.proofs.Common.{true, false, sym, ◌∙◌}
use Rattle.rows.proofs.Places.{off_ends, halfway}
use Rattle.rows.proofs.standing.Standing.position.Goals as goal

pub returns-then-self : goal.returns-then-self
returns-then-self c =
    let s = c.args.self in
    sym (off_ends s.value s.low s.high true (sym c.in-false-false.ensures) (sym c.in-false-false.ensures') (sym (halfway s.value s.low s.high s.value_near s.low_near s.high_near) ∙ c.if-self.true))

pub returns-else-self : goal.returns-else-self
returns-else-self c =
    let s = c.args.self in
    sym (off_ends s.value s.low s.high false (sym c.in-false-false.ensures) (sym c.in-false-false.ensures') (sym (halfway s.value s.low s.high s.value_near s.low_near s.high_near) ∙ c.if-self.false))
