-- Words that are put into a place, and the file that a draft is written as: record 0, and its rows in records 1 to m.
use Rattle.std.specs.Prelude.{◌≡◌, ℕ, ◌+◌, ◌*◌, ◌<◌, ◌≤◌, true, false, cond, ◌≢◌, List, ◌∷◌, ◌++◌, length, replicate, ℤ, pos, Ok, Err, Result, nat_lt, slice_index}
use Rattle.family.specs.declared.fault.Fault.{Fault}
use Rattle.family.specs.declared.fault.Fault.TheVariants.{List as in_list}
use Rattle.family.specs.declared.fault.ListFault.TheVariants.{Length}
use Rattle.family.specs.Numbers.{at}
use Rattle.problem.specs.Listings.{header_list, listed_row}
use Rattle.file.specs.declared.kinds.FamilyKind.TheVariants.{Squares, Linear}
use Rattle.file.specs.Contents.{AnyData, squares, linear}
use Rattle.file.specs.Kinds.{family_number}
use Rattle.file.specs.Words.{word}

-- `to` is `from` with z in word k
pub record Put (from to : List ℕ) (k : ℕ) (z : ℤ) : Type 0 where
  pub len : length to ≡ length from
  pub here : word to k ≡ z
  pub others : (j : ℕ) → j ≢ k → word to j ≡ word from j
  pub past : (i : ℕ) → 4 * k + 4 ≤ i → slice_index to i ≡ slice_index from i

-- `to` is `from` with the words xs from word k on, as far as the words before them and the bytes past them go
pub record Puts (from to : List ℕ) (k : ℕ) (xs : List ℤ) : Type 0 where
  pub len : length to ≡ length from
  pub here : (j : ℕ) → j < length xs → word to (k + j) ≡ at xs j
  pub below : (j : ℕ) → j < k → word to j ≡ word from j
  pub past : (i : ℕ) → 4 * (k + length xs) ≤ i → slice_index to i ≡ slice_index from i

-- the link in word 0 of record i, in a file of m rows: to the next record, and 0 in the last
abbrev pub link_after : ℕ → ℕ → ℤ
link_after i m = cond (nat_lt i m) (pos (i + 1)) (pos 0)

-- the twenty words of record 0: the first row's record, no first call, the family, HEADER's list, and seven 0
abbrev pub head_words : ℕ → ℤ → List ℤ → List ℤ
head_words m family header = link_after 0 m ∷ pos 0 ∷ family ∷ (header ++ replicate 7 (pos 0))

-- the twenty words of record i: a link, ADD ROW's list, and eight 0
abbrev pub row_words : ℕ → ℕ → List ℤ → List ℤ
row_words i m list = link_after i m ∷ (list ++ replicate 8 (pos 0))

-- `to` is `from` with record 0 and the m rows in the records after it; every byte past those is as it was
pub record Written (from to : List ℕ) (m : ℕ) (family : ℤ) (header : List ℤ) (rows : ℕ → List ℤ) : Type 0 where
  pub len : length to ≡ length from
  pub head : (w : ℕ) → w < 20 → word to w ≡ at (head_words m family header) w
  pub row : (i w : ℕ) → i < m → w < 20 → word to (20 * (i + 1) + w) ≡ at (row_words (i + 1) m (rows i)) w
  pub ten : length header ≡ 10
  pub eleven : (i : ℕ) → i < m → length (rows i) ≡ 11
  pub past : (i : ℕ) → 80 * (m + 1) ≤ i → slice_index to i ≡ slice_index from i

-- ---- a draft of either family: its number of rows, its family's number and its lists
abbrev pub rows_in : AnyData → ℕ
rows_in (squares d) = d.problem.m
rows_in (linear d) = d.problem.m

abbrev pub family_of : AnyData → ℤ
family_of (squares d) = pos (family_number Squares)
family_of (linear d) = pos (family_number Linear)

abbrev pub header_of : AnyData → List ℤ
header_of (squares d) = header_list false d
header_of (linear d) = header_list true d

abbrev pub row_of : AnyData → ℕ → List ℤ
row_of (squares d) i = listed_row d i
row_of (linear d) i = listed_row d i

-- the place holds the draft, in its m + 1 records
abbrev pub WrittenAs : List ℕ → List ℕ → AnyData → Type 0
WrittenAs from to d = Written from to (rows_in d) (family_of d) (header_of d) (row_of d)

-- a place that is shorter than m + 1 records is denied
abbrev pub write_answer : ℕ → ℕ → Result (Unit {0}) Fault
write_answer len m = cond (nat_lt len (80 * (m + 1))) (Err (in_list Length)) (Ok tt)
