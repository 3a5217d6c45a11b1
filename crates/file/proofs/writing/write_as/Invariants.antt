use Rattle.problem.specs.Calls.{data_of}
use Rattle.problem.specs.Listings.{listed_row}
use Rattle.file.proofs.Placings.{Rows}
use Rattle.file.proofs.writing.write_as.Given as goal

-- the rows so far stand in their records
abbrev pub invariant-loop-i : goal.invariant-loop-i
invariant-loop-i g l = Rows l.initial.place l.place l.m (listed_row (data_of l.draft)) l.i
