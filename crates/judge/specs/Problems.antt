-- The problem and the calls in a file, as a search takes them.
use Rattle.std.specs.Prelude.{ℕ, cond, List, [], ◌∷◌, pos, nat_lt}
use Rattle.family.specs.Meaning.{Meaning}
use Rattle.family.specs.Numbers.{at}
use Rattle.problem.specs.Drafts.{ProblemData}
use Rattle.problem.specs.Programs.{Program}
use Rattle.problem.specs.Tables.{row_at, cell}
use Rattle.squares.specs.Bounds.{meaning_of as squares_meaning}
use Rattle.linear.specs.Bounds.{meaning_of as linear_meaning}
use Rattle.file.specs.declared.call.Call.{Call}
use Rattle.file.specs.declared.call.Call.TheVariants.{Point, Proof, Split}
use Rattle.file.specs.Contents.{AnyData, squares, linear}
use Rattle.search.specs.Tally as search

-- the program that the data of a problem hold
abbrev pub program_in : ProblemData → Program
program_in d = record {
  n = d.n;
  m = d.m;
  kind = λ i. (row_at d.rows i).kind;
  lo = λ i. (row_at d.rows i).lo;
  hi = λ i. (row_at d.rows i).hi;
  coefficient = λ i j. cond (nat_lt j 8) (cell d.cells i j) (pos 0);
}

abbrev pub program_of : AnyData → Program
program_of (squares d) = program_in d.problem
program_of (linear d) = program_in d.problem

-- what the family of a file means
abbrev pub meaning_in : AnyData → Meaning
meaning_in (squares d) = squares_meaning (program_in d.problem)
meaning_in (linear d) = linear_meaning (program_in d.problem) (at d.rates)

abbrev pub gap_in : AnyData → ℕ
gap_in (squares d) = d.gap
gap_in (linear d) = d.gap

-- the call that a record asks for
abbrev pub call_made : Call → search.Call
call_made (Point list) = search.point list
call_made (Proof list) = search.proof list
call_made (Split row side) = search.split row side

abbrev pub calls_made : List Call → List search.Call
calls_made [] = []
calls_made (call ∷ calls) = call_made call ∷ calls_made calls
