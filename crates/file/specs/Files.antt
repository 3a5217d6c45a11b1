-- What a file holds, or what is wrong with it first.
use Rattle.std.specs.Prelude.{ℕ, ◌-◌, ◌/◌, ◌%◌, Bool, true, false, cond, List, [], ◌∷◌, ◌++◌, length, ℤ, Some, None, Ok, Err, Option, Result, ◌==◌, nat_lt}
use Rattle.std.specs.Result.{result_and, result_map_both}
use Rattle.problem.specs.Calls.{Data, fresh_draft, header_answer, with_header}
use Rattle.file.specs.declared.call.Call.{Call}
use Rattle.file.specs.declared.fault.FileFault.{FileFault}
use Rattle.file.specs.declared.fault.FileFault.TheVariants.{Length, Family, Link}
use Rattle.file.specs.Chains.{targeted, chained}
use Rattle.file.specs.declared.kinds.FamilyKind.TheVariants.{Squares, Linear}
use Rattle.file.specs.Contents.{AnyData, squares, linear}
use Rattle.file.specs.Kinds.{family_number}
use Rattle.file.specs.Records.{is, unused, in_record, and_then, row_added, call_in}
use Rattle.file.specs.Words.{word, span}

-- how many records of eighty bytes a file of so many bytes has: from 1 to 819
abbrev pub counted : ℕ → Result ℕ FileFault
counted len = cond (len % 80 == 0) (cond (nat_lt len 80) (Err Length) (cond (nat_lt 65520 len) (Err Length) (Ok (len / 80)))) (Err Length)

-- the link in word w of record 0 lies in the file
abbrev pub by_link : Option ℕ → ℕ → Result (Unit {0}) FileFault
by_link None w = Err (Link 0 w)
by_link (Some k) w = Ok tt

abbrev pub linked : (ℕ → ℤ) → ℕ → ℕ → Result (Unit {0}) FileFault
linked f n w = by_link (targeted (f w) n) w

-- the rest of record 0: unused words, and then HEADER on a fresh draft
abbrev pub headed : {C : Type 0} → C → Bool → (ℕ → ℤ) → Result (Data C) FileFault
headed cost rated f =
    result_and (unused f 0 13)
    (result_and (in_record 0 (header_answer rated (fresh_draft cost) (span f 3 10))) (Ok (with_header (fresh_draft cost) (span f 3 10))))

-- one more call
abbrev pub call_added : (ℕ → ℤ) → ℕ → List Call → Result (List Call) FileFault
call_added f r calls = and_then (call_in f r) (λ call. Ok (calls ++ (call ∷ [])))

-- the calls, whose chain may not meet the records of the rows
abbrev pub with_calls : {C : Type 0} → (ℕ → ℤ) → ℕ → Data C × List ℕ → Result (Data C × List Call) FileFault
with_calls f n x =
    and_then (chained (call_added f) f n (819 - length x.1) x.1 [] 0 1) (λ y. Ok (x.0, y.0))

-- a file of one family, after its links and its family are judged
abbrev pub in_file : {C : Type 0} → C → Bool → (ℕ → ℤ) → ℕ → Result (Data C × List Call) FileFault
in_file cost rated f n =
    and_then (headed cost rated f) (λ d. and_then (chained (row_added f) f n 819 [] d 0 0) (with_calls f n))

abbrev pub by_family : (ℕ → ℤ) → ℕ → Result (AnyData × List Call) FileFault
by_family f n =
    cond (is (family_number Squares) (f 2)) (result_map_both (λ x. (squares x.0, x.1)) (λ e. e) (in_file (record {}) false f n))
    (cond (is (family_number Linear) (f 2)) (result_map_both (λ x. (linear x.0, x.1)) (λ e. e) (in_file (record {}) true f n)) (Err Family))

unfoldable pub reading : List ℕ → Result (AnyData × List Call) FileFault
reading bs =
    and_then (counted (length bs)) (λ n. result_and (linked (word bs) n 0) (result_and (linked (word bs) n 1) (by_family (word bs) n)))
