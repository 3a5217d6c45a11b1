-- What the lists of a header and of a row hold once they are judged.
use Rattle.std.proofs.Common.{◌≡◌, ℕ, ◌+◌, ◌≤◌, Bool, true, false, cond, ◌&&◌, T, eqb, ltb, List, drop, ℤ, pos, negsuc, neg_ℤ, nat_abs, ◌≤ℤ◌, Some, None, Ok, Err, sym, refl, ap, ◌∙◌, subst, arith}
use borrow.Author.Differences.{ints}
use lib.Signed.{le_z, le_z_yes}
use Rattle.std.proofs.lemmas.Bool.{ne_eqb, le-ltb, and_parts, or_from}
use Rattle.std.specs.Result.{result_and}
use Rattle.family.specs.declared.fault.ListFault.TheVariants.{Kind as UnknownKind, Ends}
use Rattle.family.specs.declared.shape.Shape.TheVariants.{Header as HeaderShape, Row as RowShape}
use Rattle.family.specs.Lists.{limits_at, from_to, around, in_use, length_fault, numbers_fault, list_fault}
use Rattle.family.specs.Numbers.{at}
use Rattle.family.specs.Reading.{gap_of}
use Rattle.family.proofs.Scans.{and_ok, Sound, Used, sound, used, fine_within}
use Rattle.problem.specs.declared.kind.Kind.{Kind}
use Rattle.problem.specs.declared.kind.Kind.TheVariants.{Plain, Switch}
use Rattle.problem.specs.Headers.{rates_in_use, header_fault}
use Rattle.problem.specs.Kinds.{kind_number}
use Rattle.problem.specs.NewRows.{known_kind, kind_fault, ends_fault, row_fault}

-- ---- headers
pub record HeaderSound (k : ℕ) (xs : List ℤ) : Type 0 where
  pub some : 1 ≤ nat_abs (at xs 0)
  pub few : nat_abs (at xs 0) ≤ 8
  pub n_is : pos (nat_abs (at xs 0)) ≡ at xs 0
  pub gap_in : (pos 0 ≤ℤ at xs 1) × (at xs 1 ≤ℤ pos 1000000)
  pub rates : Used 50 2 8 k xs

whole_of : (z : ℤ) → pos 0 ≤ℤ z → pos (nat_abs z) ≡ z
whole_of (pos n) h = refl
whole_of (negsuc n) h = let no : ⊥ = omega (arith, ints) in elim no [ ]

rates_limits : (k j : ℕ) → limits_at (HeaderShape k) (2 + j) ≡ in_use 2 k (2 + j) (pos 50)
rates_limits k j =
    ap (λ b. cond b (Some (from_to (pos 1) (pos 8))) (cond (eqb (2 + j) 1) (Some (from_to (pos 0) (pos 1000000))) (in_use 2 k (2 + j) (pos 50)))) (ne_eqb (2 + j) 0 (λ e. omega arith))
    ∙ ap (λ b. cond b (Some (from_to (pos 0) (pos 1000000))) (in_use 2 k (2 + j) (pos 50))) (ne_eqb (2 + j) 1 (λ e. omega arith))

pub header_sound : (k : ℕ) (xs : List ℤ) → Ok tt ≡ list_fault (HeaderShape k) xs → HeaderSound k xs
header_sound k xs e =
    let s = sound (HeaderShape k) xs (sym e) in
    let n = fine_within (pos 1) (pos 8) (at xs 0) 1 (s.fine 0 (omega (arith, s.long))) in
    let g = fine_within (pos 0) (pos 1000000) (at xs 1) 2 (s.fine 1 (omega (arith, s.long))) in
    record {
      some = omega (arith, ints, n.0);
      few = omega (arith, ints, n.0, n.1);
      n_is = whole_of (at xs 0) (omega (arith, ints, n.0));
      gap_in = g;
      rates = used (HeaderShape k) 50 2 8 k xs refl (rates_limits k) s;
    }

-- a number in the gap's range is a gap, and a gap that is read is its number
gap_by : (z : ℤ) (v : ℕ) (b : Bool) → (b ≡ true → pos 0 ≤ℤ z) → Some v ≡ cond b (Some (nat_abs z)) None → pos v ≡ z
gap_by z v true h e = let f : v ≡ nat_abs z = cc in ap pos f ∙ whole_of z (h refl)
gap_by z v false h e = let c : ◌≡◌ {A = ℕ} 0 1 = cc in let no : ⊥ = omega arith in elim no [ ]

pub gap_is : {z x : ℤ} (v : ℕ) → z ≡ x → Some v ≡ gap_of z → pos v ≡ x
gap_is {z} v same e = gap_by z v (le_z (pos 0) z && le_z z (pos 1000000)) (λ t. le_z_yes (subst T (sym (and_parts _ _ t).0) tt)) e ∙ same

in_gap : (z : ℤ) → (pos 0 ≤ℤ z) × (z ≤ℤ pos 1000000) → gap_of z ≡ Some (nat_abs z)
in_gap z h = grind (arith, ints)

pub gap_there : {z x : ℤ} → z ≡ x → (pos 0 ≤ℤ x) × (x ≤ℤ pos 1000000) → None ≡ gap_of z → ⊥
gap_there {z} {x} same h e =
    let s : None ≡ Some (nat_abs x) = e ∙ ap gap_of same ∙ in_gap x h in
    let c : ◌≡◌ {A = ℕ} 0 1 = cc in omega arith

-- the rates beyond the quantities of a judged header are 0
pub header_filler : (rated : Bool) (xs : List ℤ) {ys : List ℤ} {n : ℕ} → header_fault rated xs ≡ Ok tt → pos n ≡ at xs 0 → ys ≡ drop 2 xs → (j : ℕ) → n ≤ j → at ys j ≡ pos 0
header_filler rated xs {ys} {n} e same rest j h = ap (λ ys. at ys j) rest ∙ (header_sound (rates_in_use rated xs) xs (sym e)).rates.filler j (beyond rated)
  where
    n_is : nat_abs (at xs 0) ≡ n
    n_is = ap nat_abs (sym same)

    beyond : (rated : Bool) → rates_in_use rated xs ≤ j
    beyond true = omega (arith, n_is)
    beyond false = omega arith

-- ---- rows
pub record RowSound (n : ℕ) (xs : List ℤ) : Type 0 where
  pub low : nat_abs (at xs 1) ≤ 10000
  pub high : nat_abs (at xs 2) ≤ 10000
  pub coefficients : Used 50 3 8 n xs

row_limits : (n j : ℕ) → limits_at (RowShape n) (3 + j) ≡ in_use 3 n (3 + j) (pos 50)
row_limits n j =
    ap (λ b. cond b (Some (from_to (pos 1) (pos 2))) (cond (ltb (3 + j) 3) (Some (around (pos 10000))) (in_use 3 n (3 + j) (pos 50)))) (ne_eqb (3 + j) 0 (λ e. omega arith))
    ∙ ap (λ b. cond b (Some (around (pos 10000))) (in_use 3 n (3 + j) (pos 50))) (le-ltb (3 + j) 3 (omega arith))

pub row_sound : (n : ℕ) (xs : List ℤ) → Ok tt ≡ length_fault (RowShape n) xs → Ok tt ≡ numbers_fault (RowShape n) 0 xs → RowSound n xs
row_sound n xs l e =
    let s : Sound (RowShape n) xs = sound (RowShape n) xs (ap (λ r. result_and r (numbers_fault (RowShape n) 0 xs)) (sym l) ∙ sym e) in
    let lo = fine_within (neg_ℤ (pos 10000)) (pos 10000) (at xs 1) 2 (s.fine 1 (omega (arith, s.long))) in
    let hi = fine_within (neg_ℤ (pos 10000)) (pos 10000) (at xs 2) 3 (s.fine 2 (omega (arith, s.long))) in
    record {
      low = omega (arith, ints, lo.0, lo.1);
      high = omega (arith, ints, hi.0, hi.1);
      coefficients = used (RowShape n) 50 3 8 n xs refl (row_limits n) s;
    }

kind_known : (k : Kind) (z : ℤ) → pos (kind_number k) ≡ z → known_kind z ≡ true
kind_known Plain z e = ap known_kind (sym e)
kind_known Switch z e = ap known_kind (sym e)

kind_unknown : (z : ℤ) → ((k : Kind) → pos (kind_number k) ≡ z → ⊥) → known_kind z ≡ false
kind_unknown (pos n) h =
    or_from (eqb n 1) (eqb n 2) (ne_eqb n 1 (λ e. h Plain (ap pos (sym e)))) (ne_eqb n 2 (λ e. h Switch (ap pos (sym e))))
kind_unknown (negsuc n) h = refl

module _ (n : ℕ) (xs : List ℤ) (l : Ok tt ≡ length_fault (RowShape n) xs) where
  pub row_unknown : {z : ℤ} → z ≡ at xs 0 → ((k : Kind) → pos (kind_number k) ≡ z → ⊥) → row_fault n xs ≡ Err UnknownKind
  row_unknown same h =
      let k : known_kind (at xs 0) ≡ false = kind_unknown (at xs 0) (λ k e. h k (e ∙ sym same)) in
      let l' = sym l in
      λ i. result_and (l' i) (result_and (cond (k i) (Ok tt) (Err UnknownKind)) (result_and (numbers_fault (RowShape n) 0 xs) (ends_fault (at xs 1) (at xs 2))))

  pub row_whole : {z : ℤ} (kind : Kind) → z ≡ at xs 0 → pos (kind_number kind) ≡ z → Ok tt ≡ numbers_fault (RowShape n) 0 xs → le_z (at xs 1) (at xs 2) ≡ true → row_fault n xs ≡ Ok tt
  row_whole kind same k e o =
      let known : known_kind (at xs 0) ≡ true = kind_known kind (at xs 0) (k ∙ same) in
      let l' = sym l in
      let e' = sym e in
      (λ i. result_and (l' i) (result_and (cond (known i) (Ok tt) (Err UnknownKind)) (result_and (e' i) (ends_fault (at xs 1) (at xs 2)))))
      ∙ ap (λ b. cond b (Ok tt) (Err Ends)) o

-- the coefficients beyond the quantities of a judged row are 0
pub row_filler : (n : ℕ) (xs : List ℤ) {ys : List ℤ} → row_fault n xs ≡ Ok tt → ys ≡ drop 3 xs → (j : ℕ) → n ≤ j → at ys j ≡ pos 0
row_filler n xs e same j h =
    let p = and_ok (length_fault (RowShape n) xs) _ e in
    let q = and_ok (kind_fault (at xs 0)) _ p.1 in
    let r = and_ok (numbers_fault (RowShape n) 0 xs) (ends_fault (at xs 1) (at xs 2)) q.1 in
    ap (λ ys. at ys j) same ∙ (row_sound n xs (sym p.0) (sym r.0)).coefficients.filler j h
