-- What the numbers of kinds say.
use Rattle.std.proofs.Common.{◌≡◌, ℕ, ◌+◌, ◌*◌, true, false, ◌||◌, cond, List, ℤ, pos, negsuc, Ok, Err, Result, ◌≢◌, is_ok, sym, refl, ap, ◌∙◌, add-zero, arith}
use Rattle.std.proofs.lemmas.Bool.{ne_eqb}
use Rattle.std.specs.Result.{result_and}
use Rattle.file.specs.declared.call.Call.{Call}
use Rattle.file.specs.declared.call.Call.TheVariants.{Point, Proof, Split}
use Rattle.file.specs.declared.fault.FileFault.{FileFault}
use Rattle.file.specs.declared.fault.FileFault.TheVariants.{Kind}
use Rattle.file.specs.declared.kinds.CallKind.{CallKind}
use Rattle.file.specs.declared.kinds.CallKind.TheVariants.{Point as a_point, Proof as a_proof, Split as a_split}
use Rattle.file.specs.Kinds.{call_number}
use Rattle.file.specs.Records.{is, cell, used, unused, call_in, listed}
use Rattle.file.specs.Words.{span}
use Rattle.family.specs.Numbers.{at}
use Rattle.family.specs.declared.fault.ListFault.{ListFault}
use Rattle.problem.specs.declared.kind.Kind.{Kind as RowKind}
use Rattle.problem.specs.declared.kind.Kind.TheVariants.{Plain, Switch}
use Rattle.problem.specs.Kinds.{KindRead}

pub is_not : (n : ℕ) (z : ℤ) → pos n ≢ z → is n z ≡ false
is_not n (pos k) h = ne_eqb k n (λ e. h (ap pos (sym e)))
is_not n (negsuc k) h = refl

-- the call of record r, by the kind z
abbrev by_kind : (ℕ → ℤ) → ℕ → ℤ → Result Call FileFault
by_kind f r z =
    cond (is 3 z) (used f r 11 (Point (span f (20 * r + 2) 9)))
    (cond (is 4 z) (used f r 19 (Proof (span f (20 * r + 2) 17))) (cond (is 5 z) (used f r 4 (Split (cell f r 2) (cell f r 3))) (Err (Kind r))))

-- the list that a record holds, after which no word is in use
listed_ok : (f : ℕ → ℤ) (r w n : ℕ) {xs : List ℤ} (u : Result (Unit {0}) FileFault) → Ok xs ≡ result_and u (Ok (span f (20 * r + w) n)) → (u ≡ Ok tt) × (xs ≡ span f (20 * r + w) n)
listed_ok f r w n {xs} (Ok tt) e = let same : xs ≡ span f (20 * r + w) n = cc in (refl, same)
listed_ok f r w n (Err fault) e = let z : ◌≡◌ {A = ℕ} 0 1 = cc in let no : ⊥ = omega arith in elim no [ ]

pub listed_is : (f : ℕ → ℤ) (r w n : ℕ) {xs : List ℤ} → Ok xs ≡ listed f r w n → (unused f r (w + n) ≡ Ok tt) × (xs ≡ span f (20 * r + w) n)
listed_is f r w n e = listed_ok f r w n (unused f r (w + n)) e

first_of : (f : ℕ → ℤ) (k : ℕ) → at (span f k 2) 0 ≡ f k
unfolding span
first_of f k = ap f (add-zero k)

second_of : (f : ℕ → ℤ) (k : ℕ) → at (span f k 2) 1 ≡ f (k + 1)
unfolding span
second_of f k = refl

pub call_split : (f : ℕ → ℤ) (r : ℕ) {xs : List ℤ} {row side : ℤ} → pos 5 ≡ cell f r 1 → Ok xs ≡ listed f r 2 2 → row ≡ at xs 0 → side ≡ at xs 1 → Ok (Split row side) ≡ call_in f r
call_split f r {xs} kind list first second =
    let l = listed_is f r 2 2 list in
    let row = first ∙ ap (λ xs. at xs 0) l.1 ∙ first_of f (20 * r + 2) in
    let side = second ∙ ap (λ xs. at xs 1) l.1 ∙ second_of f (20 * r + 2) ∙ ap f (omega arith) in
    (λ i. Ok (Split (row i) (side i))) ∙ (λ i. result_and (sym l.0 i) (Ok (Split (cell f r 2) (cell f r 3)))) ∙ ap (by_kind f r) kind

-- the kind of a row
pub known : (z : ℤ) (o : Result RowKind ListFault) → KindRead z o → is_ok o ≡ true → (is 1 z || is 2 z) ≡ true
known z (Ok Plain) e t = λ i. is 1 (sym e i) || is 2 (sym e i)
known z (Ok Switch) e t = λ i. is 1 (sym e i) || is 2 (sym e i)
known z (Err fault) e t = let z : ◌≡◌ {A = ℕ} 0 1 = cc in let no : ⊥ = omega arith in elim no [ ]

pub unknown : (z : ℤ) (o : Result RowKind ListFault) → KindRead z o → is_ok o ≡ false → (is 1 z || is 2 z) ≡ false
unknown z (Ok kind) e t = let z : ◌≡◌ {A = ℕ} 0 1 = cc in let no : ⊥ = omega arith in elim no [ ]
unknown z (Err fault) e t = λ i. is_not 1 z (e.1 Plain) i || is_not 2 z (e.1 Switch) i

pub call_unknown : (f : ℕ → ℤ) (r : ℕ) → ((kind : CallKind) → pos (call_number kind) ≢ cell f r 1) → Err (Kind r) ≡ call_in f r
call_unknown f r none =
    let z = cell f r 1 in
    sym (
    (λ i. cond (is_not 3 z (none a_point) i) (used f r 11 (Point (span f (20 * r + 2) 9)))
    (cond (is 4 z) (used f r 19 (Proof (span f (20 * r + 2) 17))) (cond (is 5 z) (used f r 4 (Split (cell f r 2) (cell f r 3))) (Err (Kind r)))))
    ∙ (λ i. cond (is_not 4 z (none a_proof) i) (used f r 19 (Proof (span f (20 * r + 2) 17))) (cond (is 5 z) (used f r 4 (Split (cell f r 2) (cell f r 3))) (Err (Kind r))))
    ∙ (λ i. cond (is_not 5 z (none a_split) i) (used f r 4 (Split (cell f r 2) (cell f r 3))) (Err (Kind r)))
    )
