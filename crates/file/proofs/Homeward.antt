-- What was written reads back as the same problem.
use Rattle.std.proofs.Common.{◌≡◌, ℕ, ◌+◌, ◌*◌, ◌<◌, ◌≤◌, Bool, true, false, cond, ltb, List, length, take, pos, IfOk, Ok, Err, Result, sym, refl, ap, subst, arith, MatchResult}
use Rattle.std.proofs.lemmas.List.{length-take-le}
use Rattle.std.proofs.lemmas.Bool.{ltb-false}
use Rattle.family.specs.declared.fault.Fault.{Fault}
use Rattle.family.specs.declared.fault.Fault.TheVariants.{List as in_list}
use Rattle.family.specs.declared.fault.ListFault.TheVariants.{Length}
use Rattle.problem.specs.declared.cost.Linear.{Linear}
use Rattle.problem.specs.declared.cost.Squares.{Squares}
use Rattle.problem.specs.declared.draft.Draft.{Draft}
use Rattle.problem.specs.Calls.{Data, data_of}
use Rattle.problem.specs.Listings.{header_list, listed_row}
use Rattle.file.specs.declared.contents.AnyDraft.{AnyDraft}
use Rattle.file.specs.declared.contents.AnyDraft.TheVariants.{Squares as of_squares, Linear as of_linear}
use Rattle.file.specs.Contents.{AnyData, squares, linear, any_data}
use Rattle.file.specs.Records.{is}
use Rattle.file.specs.Trips.{Held, ReadsBack, RoundTrip}
use Rattle.file.specs.Written.{rows_in, write_answer, Written, WrittenAs}
use Rattle.file.proofs.Accepted.{Sound, draft_sound}
use Rattle.file.proofs.Backs.{built_upto, in_file_is, first_row, first_call, counted_is, alone}
use Rattle.file.proofs.Exits.{read_squares, read_linear}
use Rattle.file.proofs.Rebuilt.{rebuilt, upto_same}

module _ (d : Data Squares) (s : Sound d) {from to : List ℕ} (p : Written from to d.problem.m (pos 1) (header_list false d) (listed_row d)) (n : ℕ) (lt : d.problem.m < n) (le : n ≤ 819) (l : length to ≡ 80 * n) where
  squares_held : Held false squares d to
  squares_held = record {
    draft = rebuilt (record {}) false d d.problem.m;
    reads = read_squares to n (counted_is to n (omega arith) le l) (first_row (record {}) false d s p n lt le) (first_call (record {}) false d s p n lt le) (ap (is 1) (p.head 2 (omega arith)))
        (sym (in_file_is (record {}) false d s p n lt le));
    same = upto_same false d (rebuilt (record {}) false d d.problem.m) (built_upto (record {}) false d s p d.problem.m (omega arith));
  }

module _ (d : Data Linear) (s : Sound d) {from to : List ℕ} (p : Written from to d.problem.m (pos 2) (header_list true d) (listed_row d)) (n : ℕ) (lt : d.problem.m < n) (le : n ≤ 819) (l : length to ≡ 80 * n) where
  linear_held : Held true linear d to
  linear_held = record {
    draft = rebuilt (record {}) true d d.problem.m;
    reads = read_linear to n (counted_is to n (omega arith) le l) (first_row (record {}) true d s p n lt le) (first_call (record {}) true d s p n lt le) (ap (is 1) (p.head 2 (omega arith)))
        (ap (is 2) (p.head 2 (omega arith))) (sym (in_file_is (record {}) true d s p n lt le));
    same = upto_same true d (rebuilt (record {}) true d d.problem.m) (built_upto (record {}) true d s p d.problem.m (omega arith));
  }

-- a place that was not denied has room for the records
room_for : (len m : ℕ) → Ok tt ≡ write_answer len m → 80 * (m + 1) ≤ len
room_for len m e = by (ltb len (80 * (m + 1))) refl e
  where
    by : (b : Bool) → ltb len (80 * (m + 1)) ≡ b → ◌≡◌ {A = Result (Unit {0}) Fault} (Ok tt) (cond b (Err (in_list Length)) (Ok tt)) → 80 * (m + 1) ≤ len
    by true t e = let z : ◌≡◌ {A = ℕ} 0 1 = cc in let no : ⊥ = omega arith in elim no [ ]
    by false t e = ltb-false len (80 * (m + 1)) t

-- all that is said of an answer r to a draft, where the place was `from` and is `to`
pub record Answered (x : AnyDraft) (from to : List ℕ) (r : Result (Unit {0}) Fault) : Type 0 where
  pub answer : r ≡ write_answer (length from) (rows_in (any_data x))
  pub written : MatchResult r (λ _. WrittenAs from to (any_data x)) (λ _. to ≡ from)
  pub trip : IfOk r (λ _. RoundTrip (any_data x) to)

module _ (d : AnyData) {from to : List ℕ} (few : rows_in d ≤ 16) (p : WrittenAs from to d) (room : 80 * (rows_in d + 1) ≤ length from)
    (held : (from to : List ℕ) → WrittenAs from to d → (n : ℕ) → rows_in d < n → n ≤ 819 → length to ≡ 80 * n → ReadsBack d to) where
  both_ways_home : RoundTrip d to
  both_ways_home = record {
    alone = held (take (80 * (rows_in d + 1)) to) (take (80 * (rows_in d + 1)) to) (alone p) (rows_in d + 1) (omega arith) (omega arith) (length-take-le (80 * (rows_in d + 1)) to (omega (arith, p.len)));
    whole = λ k le l. held from to p k (omega (arith, p.len)) le l;
  }

home_by : (x : AnyDraft) {from to : List ℕ} (r : Result (Unit {0}) Fault) → rows_in (any_data x) ≤ 16
    → ((from to : List ℕ) → WrittenAs from to (any_data x) → (n : ℕ) → rows_in (any_data x) < n → n ≤ 819 → length to ≡ 80 * n → ReadsBack (any_data x) to)
    → r ≡ write_answer (length from) (rows_in (any_data x)) → MatchResult r (λ _. WrittenAs from to (any_data x)) (λ _. to ≡ from) → Answered x from to r
home_by x {from} {to} (Ok v) few held a w = record { answer = a; written = w; trip = both_ways_home (any_data x) few w (room_for (length from) (rows_in (any_data x)) a) held }
home_by x (Err e) few held a w = record { answer = a; written = w; trip = tt }

pub squares_home : {x : AnyDraft} (d : Draft Squares) {from to : List ℕ} (r : Result (Unit {0}) Fault) → x ≡ of_squares d → r ≡ write_answer (length from) d.problem.m
    → MatchResult r (λ _. Written from to d.problem.m (pos 1) (header_list false (data_of d)) (listed_row (data_of d))) (λ _. to ≡ from) → Answered x from to r
squares_home d {from} {to} r e a w =
    subst (λ x. Answered x from to r) (sym e)
    (home_by (of_squares d) r (draft_sound d).fits (λ _ _ p n lt le l. squares_held (data_of d) (draft_sound d) p n lt le l) a w)

pub linear_home : {x : AnyDraft} (d : Draft Linear) {from to : List ℕ} (r : Result (Unit {0}) Fault) → x ≡ of_linear d → r ≡ write_answer (length from) d.problem.m
    → MatchResult r (λ _. Written from to d.problem.m (pos 2) (header_list true (data_of d)) (listed_row (data_of d))) (λ _. to ≡ from) → Answered x from to r
linear_home d {from} {to} r e a w =
    subst (λ x. Answered x from to r) (sym e)
    (home_by (of_linear d) r (draft_sound d).fits (λ _ _ p n lt le l. linear_held (data_of d) (draft_sound d) p n lt le l) a w)
