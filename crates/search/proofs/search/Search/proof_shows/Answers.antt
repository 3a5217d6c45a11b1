use Rattle.std.proofs.Common.{true, false, Err, sym, ap, ◌∙◌}
use Rattle.family.specs.Reading.{gap_value, side_of}
use Rattle.family.proofs.Scans.{passed}
use Rattle.search.proofs.Judging.{shows_err, shows_ok}
use Rattle.search.proofs.search.Search.proof_shows.Goals as goal

pub returns-in_err-judgement : goal.returns-in_err-judgement
returns-in_err-judgement g c =
    let s = c.args.self.now in
    shows_err (g.F.Family.meaning s.family) (gap_value s.gap) s.inner c.size-m.result.1 c.size-m.ensures.rows c.args.list.now c.in_ok-proof.proof (side_of c.in_ok-sides.sides) c.in_ok-proof.ensures c.in_ok-sides.ensures
    c.in_err-judgement.field-0.0 c.from_residual-in_err-judgement.result (passed c.from_residual-in_err-judgement.result c.from_residual-in_err-judgement.ensures.1) c.in_err-judgement.ensures

pub returns-then-is_shut_by : goal.returns-then-is_shut_by
returns-then-is_shut_by g c =
    let s = c.args.self.now in
    shows_ok (g.F.Family.meaning s.family) (gap_value s.gap) s.inner c.size-m.result.1 c.size-m.ensures.rows c.args.list.now c.in_ok-proof.proof (side_of c.in_ok-sides.sides) c.in_ok-proof.ensures c.in_ok-sides.ensures
    c.in_ok-judgement.judgement c.in_ok-judgement.ensures true (sym c.if-is_shut_by.ensures)

pub returns-else-is_shut_by : goal.returns-else-is_shut_by
returns-else-is_shut_by g c =
    let s = c.args.self.now in
    ap Err c.into.ensures ∙ shows_ok (g.F.Family.meaning s.family) (gap_value s.gap) s.inner c.size-m.result.1 c.size-m.ensures.rows c.args.list.now c.in_ok-proof.proof (side_of c.in_ok-sides.sides) c.in_ok-proof.ensures c.in_ok-sides.ensures
    c.in_ok-judgement.judgement c.in_ok-judgement.ensures false (sym c.if-is_shut_by.ensures)
