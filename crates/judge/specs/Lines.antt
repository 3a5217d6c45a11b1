-- Which line is printed where.
use Rattle.std.specs.Prelude.{◌≡◌, ℕ, ◌+◌, ◌<◌, length, slice_index_or}
use Rattle.file.specs.Contents.{calls_of}
use Rattle.judge.specs.declared.judged.Judged.{Judged}
use Rattle.judge.specs.declared.text.LastLine.{LastLine}
use Rattle.judge.specs.declared.text.Line.{Line}

-- the line of the call with index i: its place from 1, the call and its outcome
pub record LineAt (j : Judged) (i : ℕ) (line : Line) : Type 0 where
  pub within : i < length (calls_of j.calls)
  pub place : line.place ≡ i + 1
  pub call : line.call ≡ slice_index_or (calls_of j.calls) i line.call
  pub outcome : line.outcome.0 ≡ slice_index_or j.outcomes i line.outcome.0

-- the line of the report
pub record IsLastLine (j : Judged) (line : LastLine) : Type 0 where
  pub quantities : line.quantities ≡ j.quantities
  pub end : line.end ≡ j.end
