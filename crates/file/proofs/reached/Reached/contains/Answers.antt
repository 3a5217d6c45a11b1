use Rattle.std.proofs.Common.{length, rules}
use Rattle.file.proofs.Tables.{room}
use Rattle.file.proofs.reached.Reached.contains.Goals as goal

pub returns-clause-room : goal.returns-clause-room
returns-clause-room c = λ e. room (length c.args.self.now.order.items) c.args.self.now.seen c.args.k 819 c.requires (search rules) c.args.self.now.room e
