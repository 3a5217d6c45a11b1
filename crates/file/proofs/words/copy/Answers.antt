use Rattle.std.proofs.Common.{arith}
use Rattle.file.specs.Words.{word}
use Rattle.file.proofs.Bytes.{read_back}
use Rattle.file.proofs.Spans.{span_none, span_turn}
use Rattle.file.proofs.words.copy.Goals as goal

pub loop-i-init : goal.loop-i-init
loop-i-init c = span_none _ _

pub loop-i-preserved : goal.loop-i-preserved
loop-i-preserved c =
    span_turn (word c.args.bytes.now) c.args.k c.loop-i.i c.loop-i.place (omega arith) c.loop-i.invariant (read_back c.get.ensures c.get.type_inv)
