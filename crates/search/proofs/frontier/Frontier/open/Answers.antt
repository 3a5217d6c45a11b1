use Rattle.std.proofs.Common.{sym}
use Rattle.search.specs.View.{nodes_of}
use Rattle.search.proofs.Stacking.{nodes_length}
use Rattle.search.proofs.frontier.Frontier.open.Goals as goal

pub returns : goal.returns
unfolding nodes_of
returns c =
    let f = c.args.self.now in
    sym (nodes_length f.path f.stack f.height)
