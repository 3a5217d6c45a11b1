-- What a file holds, by its values.
use Rattle.std.specs.Prelude.{List}
use Rattle.arrayvec.specs.ArrayVec.{ArrayVec}
use Rattle.problem.specs.declared.cost.Linear.{Linear}
use Rattle.problem.specs.declared.cost.Squares.{Squares}
use Rattle.problem.specs.Calls.{Data, data_of}
use Rattle.file.specs.declared.call.Call.{Call}
use Rattle.file.specs.declared.contents.AnyDraft.{AnyDraft}
use Rattle.file.specs.declared.contents.AnyDraft.TheVariants.{Squares as of_squares, Linear as of_linear}
use Rattle.file.specs.declared.contents.Contents.{Contents}

abbrev pub calls_of : ArrayVec Call → List Call
calls_of calls = calls.items

-- a draft of either family, by all that it holds
pub data AnyData : Type 0 where
  squares : Data Squares → AnyData
  linear : Data Linear → AnyData

abbrev pub any_data : AnyDraft → AnyData
any_data (of_squares draft) = squares (data_of draft)
any_data (of_linear draft) = linear (data_of draft)

abbrev pub contents_of : Contents → AnyData × List Call
contents_of contents = (any_data contents.draft, calls_of contents.calls)
