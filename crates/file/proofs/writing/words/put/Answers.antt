use Rattle.std.proofs.Common.{arith}
use Rattle.file.proofs.Fours.{put_back}
use Rattle.file.proofs.writing.words.put.Goals as goal

pub returns : goal.returns
returns c = put_back c.args.place.now c.to_le_bytes.result c.args.k _ c.args.x (omega arith) c.ranges.x c.requires c.copy_from_slice.ensures.after c.to_le_bytes.ensures
