-- What is claimed of a judged file.
use Rattle.std.specs.Prelude.{◌≡◌, ℕ, List, length, take}
use Rattle.family.specs.Meaning.{Meaning}
use Rattle.rows.specs.Claims.{PlainMeaning}
use Rattle.file.specs.declared.call.Call.{Call}
use Rattle.file.specs.Contents.{AnyData, calls_of}
use Rattle.search.specs.Runs.{Ran}
use Rattle.judge.specs.declared.judged.Judged.{Judged}
use Rattle.judge.specs.Problems.{program_of, meaning_in, gap_in, calls_made}

-- the outcomes and the report of a run of these calls over a family and a gap
pub record JudgedBy (M : Meaning) (gap : ℕ) (calls : List Call) (j : Judged) : Type 0 where
  pub quantities : j.quantities ≡ M.n
  pub same : calls_of j.calls ≡ calls
  pub ran : Ran M gap (calls_made calls) j.end.report j.end.point (take (length calls) j.outcomes)

-- the same of what a file holds; and what its family means is plain
pub record JudgedAs (x : AnyData × List Call) (j : Judged) : Type 0 where
  pub judged : JudgedBy (meaning_in x.0) (gap_in x.0) x.1 j
  pub plain : PlainMeaning (meaning_in x.0) (program_of x.0)
