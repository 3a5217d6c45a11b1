-- Chains of records: the distinct records that the links give, one after the other, ending in the link 0.
use Rattle.std.specs.Prelude.{ℕ, zero, suc, Bool, true, false, cond, List, [], ◌∷◌, ◌++◌, ℤ, pos, negsuc, Some, None, Ok, Err, Option, Result, ◌==◌, nat_lt}
use Rattle.file.specs.declared.fault.FileFault.{FileFault}
use Rattle.file.specs.declared.fault.FileFault.TheVariants.{Link}
use Rattle.file.specs.Records.{cell, and_then}

-- whether k stands in the list
unfoldable pub has : List ℕ → ℕ → Bool
has [] k = false
has (x ∷ xs) k = cond (x == k) true (has xs k)

-- how many flags are not set
unfoldable pub left : List Bool → ℕ
left [] = 0
left (true ∷ bs) = left bs
left (false ∷ bs) = suc (left bs)

-- the record that a link names, in a file of n records
abbrev pub targeted : ℤ → ℕ → Option ℕ
targeted (pos k) n = cond (nat_lt k n) (Some k) None
targeted (negsuc k) n = None

-- the link in word w of record r leads to the end (None), or to a record that was not reached before
abbrev pub by_target : Option ℕ → List ℕ → ℕ → ℕ → Result (Option ℕ) FileFault
by_target None reached r w = Err (Link r w)
by_target (Some zero) reached r w = Ok None
by_target (Some (suc k)) reached r w = cond (has reached (suc k)) (Err (Link r w)) (Ok (Some (suc k)))

abbrev pub next : (ℕ → ℤ) → ℕ → List ℕ → ℕ → ℕ → Result (Option ℕ) FileFault
next f n reached r w = by_target (targeted (cell f r w) n) reached r w

abbrev pub goes : {X : Type 0} → Result (Option ℕ) FileFault → Result X FileFault → (ℕ → Result X FileFault) → Result X FileFault
goes (Err e) end go = Err e
goes (Ok None) end go = end
goes (Ok (Some k)) end go = go k

-- what visiting each record of a chain makes of s, one after the other, and all records reached then. The chain goes
-- on in word w of record r; turns is as many as there can still be records
unfoldable pub chained : {S : Type 0} → (ℕ → S → Result S FileFault) → (ℕ → ℤ) → ℕ → ℕ → List ℕ → S → ℕ → ℕ → Result (S × List ℕ) FileFault
chained visit f n zero reached s r w = goes (next f n reached r w) (Ok (s, reached)) (λ k. Err (Link r w))
chained visit f n (suc turns) reached s r w =
    goes (next f n reached r w) (Ok (s, reached)) (λ k. and_then (visit k s) (λ s'. chained visit f n turns (reached ++ (k ∷ [])) s' k 0))
