-- A draft that is written and read again.
use Rattle.std.specs.Prelude.{◌≡◌, ℕ, ◌+◌, ◌*◌, ◌<◌, ◌≤◌, Bool, true, false, List, [], length, take, Ok}
use Rattle.problem.specs.Calls.{Data}
use Rattle.problem.specs.Listings.{rates_kept}
use Rattle.problem.specs.Tables.{row_at, cell}
use Rattle.file.specs.Contents.{AnyData, squares, linear}
use Rattle.file.specs.Files.{reading}
use Rattle.file.specs.Written.{rows_in}

-- x holds the same problem as d: as many quantities and rows, the gap, the rates (eight 0 where costs have none), and
-- each row's kind, ends and eight coefficients
pub record Same {C : Type 0} (rated : Bool) (d x : Data C) : Type 0 where
  pub n : x.problem.n ≡ d.problem.n
  pub m : x.problem.m ≡ d.problem.m
  pub gap : x.gap ≡ d.gap
  pub rates : x.rates ≡ rates_kept rated d
  pub row : (i : ℕ) → i < d.problem.m → row_at x.problem.rows i ≡ row_at d.problem.rows i
  pub coefficient : (i j : ℕ) → i < d.problem.m → j < 8 → cell x.problem.cells i j ≡ cell d.problem.cells i j

-- a file is read as a draft that holds the same problem as d, and no calls
pub record Held {C : Type 0} (rated : Bool) (family : Data C → AnyData) (d : Data C) (bs : List ℕ) : Type 0 where
  pub draft : Data C
  pub reads : reading bs ≡ Ok (family draft, [])
  pub same : Same rated d draft

abbrev pub ReadsBack : AnyData → List ℕ → Type 0
ReadsBack (squares d) bs = Held false squares d bs
ReadsBack (linear d) bs = Held true linear d bs

-- the m + 1 records alone, and the whole place if it is as long as a file
pub record RoundTrip (d : AnyData) (place : List ℕ) : Type 0 where
  pub alone : ReadsBack d (take (80 * (rows_in d + 1)) place)
  pub whole : (k : ℕ) → k ≤ 819 → length place ≡ 80 * k → ReadsBack d place
