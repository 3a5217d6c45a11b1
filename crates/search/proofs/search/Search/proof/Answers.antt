use Rattle.family.proofs.Scans.{passed}
use Rattle.search.proofs.Following.{proof_denied, proof_closed}
use Rattle.search.proofs.search.Search.proof.Goals as goal

pub returns-in_err-judgement : goal.returns-in_err-judgement
returns-in_err-judgement g c =
    proof_denied g.F.Family.meaning c.args.self.now c.args.list.now c.in_err-judgement.field-0.0 c.from_residual.result (passed c.from_residual.result c.from_residual.ensures.1) c.in_err-judgement.ensures

pub returns : goal.returns
returns g c =
    proof_closed g.F.Family.meaning c.args.self.now c.args.list.now c.in_ok-judgement.judgement c.close.new.self c.in_ok-judgement.ensures c.close.ensures
