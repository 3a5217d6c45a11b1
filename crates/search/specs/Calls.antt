-- What a call that can change a search does to it.
use Rattle.std.specs.Prelude.{◌≡◌, true, Result, is_err}
use Rattle.family.specs.declared.fault.Fault.{Fault}
use Rattle.family.specs.Meaning.{Meaning}
use Rattle.family.specs.Reading.{gap_value}
use Rattle.search.specs.declared.outcome.Accepted.{Accepted}
use Rattle.search.specs.declared.search.Search.{Search}
use Rattle.search.specs.Shows.{Follows}
use Rattle.search.specs.Tally.{Call}

-- from s the call leads to s', and r is its answer
pub record Made {F : Type 0} (meaning : F → Meaning) (s : Search F) (call : Call) (s' : Search F) (r : Result Accepted Fault) : Type 0 where
  pub family : s'.family ≡ s.family
  pub gap : s'.gap ≡ s.gap
  -- whatever tally is shown before, its next one is shown after, and the answer is the tally's
  pub follows : Follows (meaning s.family) (gap_value s.gap) s.inner call s'.inner r
  -- a denied call changes nothing
  pub denied : is_err r ≡ true → s' ≡ s
