use Rattle.std.proofs.Common.{◌∙◌, ◌<◌, length, arith, rules}
use Rattle.file.proofs.Tables.{room, pushed}
use Rattle.file.proofs.reached.Reached.push.Goals as goal

pub push-requires : goal.push-requires
push-requires c =
    let self = c.args.self.now in
    (omega arith, room (length self.order.items) self.seen c.args.k 819 c.requires.below (search rules) self.room (self.marks c.args.k ∙ c.requires.fresh))

pub invariant_of-self : goal.invariant_of-self
invariant_of-self c =
    let self = c.args.self.now in
    let long : c.args.k < length self.seen = search rules in
    let p = pushed self.order.items self.seen c.args.k 819 c.push.ensures.items long (self.marks c.args.k ∙ c.requires.fresh) self.marks self.room in
    record { marks = p.marks; room = p.room }
