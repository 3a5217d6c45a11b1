-- One record of a file whose words are f. A record has twenty words: in record 0 the two first records of the chains,
-- the family and HEADER's ten numbers; in any other the link to the next record, a kind and a list.
use Rattle.std.specs.Prelude.{ℕ, zero, suc, ◌+◌, ◌-◌, ◌*◌, Bool, false, cond, ◌||◌, List, ℤ, pos, negsuc, Ok, Err, Result, ◌==◌}
use Rattle.std.specs.Result.{result_and, result_map_both}
use Rattle.family.specs.declared.fault.Fault.{Fault}
use Rattle.problem.specs.declared.kind.Kind.TheVariants.{Plain, Switch}
use Rattle.problem.specs.Calls.{Data, row_answer, with_listed_row}
use Rattle.problem.specs.Kinds.{kind_number}
use Rattle.file.specs.declared.call.Call.{Call}
use Rattle.file.specs.declared.call.Call.TheVariants.{Point, Proof, Split}
use Rattle.file.specs.declared.fault.FileFault.{FileFault}
use Rattle.file.specs.declared.fault.FileFault.TheVariants.{Unused, Kind, Inside}
use Rattle.file.specs.declared.kinds.CallKind.{CallKind}
use Rattle.file.specs.Kinds.{call_number}
use Rattle.file.specs.Words.{span}

-- word w of record r
abbrev pub cell : (ℕ → ℤ) → ℕ → ℕ → ℤ
cell f r w = f (20 * r + w)

abbrev pub is : ℕ → ℤ → Bool
is n (pos k) = k == n
is n (negsuc k) = false

-- the first of the words from w on, of so many, that is not 0
unfoldable pub unused_from : (ℕ → ℤ) → ℕ → ℕ → ℕ → Result (Unit {0}) FileFault
unused_from f r w zero = Ok tt
unused_from f r w (suc count) = cond (is 0 (cell f r w)) (unused_from f r (w + 1) count) (Err (Unused r w))

-- the words of record r from w on are not in use
abbrev pub unused : (ℕ → ℤ) → ℕ → ℕ → Result (Unit {0}) FileFault
unused f r w = unused_from f r w (20 - w)

-- n numbers of record r from word w on, after which no word is in use
abbrev pub listed : (ℕ → ℤ) → ℕ → ℕ → ℕ → Result (List ℤ) FileFault
listed f r w n = result_and (unused f r (w + n)) (Ok (span f (20 * r + w) n))

-- a fault below is kept whole, with the record
abbrev pub in_record : {T : Type 0} → ℕ → Result T Fault → Result T FileFault
in_record r x = result_map_both (λ v. v) (λ e. Inside (record { at = r; fault = e })) x

abbrev pub and_then : {T U E : Type 0} → Result T E → (T → Result U E) → Result U E
and_then (Ok x) next = next x
and_then (Err e) next = Err e

-- ---- rows: the kind and the list, words 1 to 11, are the list that ADD ROW takes
abbrev pub row_list : (ℕ → ℤ) → ℕ → List ℤ
row_list f r = span f (20 * r + 1) 11

abbrev pub row_kind : (ℕ → ℤ) → ℕ → Result (Unit {0}) FileFault
row_kind f r = cond (is (kind_number Plain) (cell f r 1) || is (kind_number Switch) (cell f r 1)) (Ok tt) (Err (Kind r))

-- the draft with the row that record r holds: its kind, its unused words, and then as ADD ROW judges it
abbrev pub row_added : {C : Type 0} → (ℕ → ℤ) → ℕ → Data C → Result (Data C) FileFault
row_added f r d =
    result_and (row_kind f r)
    (result_and (unused f r 12)
    (result_and (in_record r (row_answer d (row_list f r))) (Ok (with_listed_row d (row_list f r)))))

-- ---- calls: their lists are judged when they are made
abbrev pub used : (ℕ → ℤ) → ℕ → ℕ → Call → Result Call FileFault
used f r w call = result_and (unused f r w) (Ok call)

abbrev pub call_in : (ℕ → ℤ) → ℕ → Result Call FileFault
call_in f r =
    cond (is (call_number CallKind.Point) (cell f r 1)) (used f r 11 (Point (span f (20 * r + 2) 9)))
    (cond (is (call_number CallKind.Proof) (cell f r 1)) (used f r 19 (Proof (span f (20 * r + 2) 17)))
    (cond (is (call_number CallKind.Split) (cell f r 1)) (used f r 4 (Split (cell f r 2) (cell f r 3))) (Err (Kind r))))
