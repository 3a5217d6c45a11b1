-- The exits of a reading, and a row that is added.
use Rattle.std.proofs.Common.{◌≡◌, ℕ, ◌+◌, ◌*◌, true, false, cond, ◌||◌, List, length, ℤ, IsErrAnd, Ok, Err, Result, sym, ap, ◌∙◌, subst}
use Rattle.std.specs.Result.{result_and, result_map_both}
use Rattle.family.specs.declared.fault.Fault.{Fault}
use Rattle.problem.specs.Calls.{Data, row_answer, with_listed_row}
use Rattle.problem.specs.Drafts.{Grown}
use Rattle.problem.specs.declared.cost.Linear.{Linear}
use Rattle.problem.specs.declared.cost.Squares.{Squares}
use Rattle.file.specs.declared.call.Call.{Call}
use Rattle.file.specs.declared.fault.FileFault.{FileFault}
use Rattle.file.specs.declared.fault.FileFault.TheVariants.{Kind, Family}
use Rattle.file.specs.Contents.{squares, linear}
use Rattle.file.specs.Files.{counted, linked, in_file, by_family, reading}
use Rattle.file.specs.Records.{is, cell, unused, in_record, and_then, row_list, row_added}
use Rattle.file.specs.Walks.{ComesTo}
use Rattle.file.specs.Words.{word}

-- what the exit of a `?` returns is the fault d
pub mapped_stopped : {T U E : Type 0} (g : T → U) (r : Result T E) (d : E) {x : Result U E} → x ≡ Err d → IsErrAnd r (λ y. y ≡ d) → result_map_both g (λ e. e) r ≡ x
mapped_stopped g (Ok t) d e by = elim by [ ]
mapped_stopped g (Err y) d e by = ap Err by ∙ sym e

module _ (bs : List ℕ) where
  pub read_length : (d : FileFault) → Err d ≡ counted (length bs) → reading bs ≡ Err d
  unfolding reading
  read_length d e = λ i. and_then (sym e i) (λ n. result_and (linked (word bs) n 0) (result_and (linked (word bs) n 1) (by_family (word bs) n)))

  module _ (n : ℕ) (e : Ok n ≡ counted (length bs)) where
    read_counted : reading bs ≡ result_and (linked (word bs) n 0) (result_and (linked (word bs) n 1) (by_family (word bs) n))
    unfolding reading
    read_counted = λ i. and_then (sym e i) (λ n. result_and (linked (word bs) n 0) (result_and (linked (word bs) n 1) (by_family (word bs) n)))

    pub read_first : (d : FileFault) → Err d ≡ linked (word bs) n 0 → reading bs ≡ Err d
    read_first d l = read_counted ∙ (λ i. result_and (sym l i) (result_and (linked (word bs) n 1) (by_family (word bs) n)))

    module _ (l : Ok tt ≡ linked (word bs) n 0) where
      read_first_good : reading bs ≡ result_and (linked (word bs) n 1) (by_family (word bs) n)
      read_first_good = read_counted ∙ (λ i. result_and (sym l i) (result_and (linked (word bs) n 1) (by_family (word bs) n)))

      pub read_second : (d : FileFault) → Err d ≡ linked (word bs) n 1 → reading bs ≡ Err d
      read_second d m = read_first_good ∙ (λ i. result_and (sym m i) (by_family (word bs) n))

      module _ (m : Ok tt ≡ linked (word bs) n 1) where
        read_links : reading bs ≡ by_family (word bs) n
        read_links = read_first_good ∙ (λ i. result_and (sym m i) (by_family (word bs) n))

        by_squares : is 1 (word bs 2) ≡ true → reading bs ≡ result_map_both (λ x. (squares x.0, x.1)) (λ e. e) (in_file (record {}) false (word bs) n)
        by_squares t =
            read_links
            ∙ (λ i. cond (t i) (result_map_both (λ x. (squares x.0, x.1)) (λ e. e) (in_file (record {}) false (word bs) n)) (cond (is 2 (word bs 2)) (result_map_both (λ x. (linear x.0, x.1)) (λ e. e) (in_file (record {}) true (word bs) n)) (Err Family)))

        not_squares : is 1 (word bs 2) ≡ false → reading bs ≡ cond (is 2 (word bs 2)) (result_map_both (λ x. (linear x.0, x.1)) (λ e. e) (in_file (record {}) true (word bs) n)) (Err Family)
        not_squares t =
            read_links
            ∙ (λ i. cond (t i) (result_map_both (λ x. (squares x.0, x.1)) (λ e. e) (in_file (record {}) false (word bs) n)) (cond (is 2 (word bs 2)) (result_map_both (λ x. (linear x.0, x.1)) (λ e. e) (in_file (record {}) true (word bs) n)) (Err Family)))

        by_linear : is 1 (word bs 2) ≡ false → is 2 (word bs 2) ≡ true → reading bs ≡ result_map_both (λ x. (linear x.0, x.1)) (λ e. e) (in_file (record {}) true (word bs) n)
        by_linear t u = not_squares t ∙ (λ i. cond (u i) (result_map_both (λ x. (linear x.0, x.1)) (λ e. e) (in_file (record {}) true (word bs) n)) (Err Family))

        pub read_unknown : is 1 (word bs 2) ≡ false → is 2 (word bs 2) ≡ false → reading bs ≡ Err Family
        read_unknown t u = not_squares t ∙ (λ i. cond (u i) (result_map_both (λ x. (linear x.0, x.1)) (λ e. e) (in_file (record {}) true (word bs) n)) (Err Family))

        pub read_squares : is 1 (word bs 2) ≡ true → {x : Result (Data Squares × List Call) FileFault} → x ≡ in_file (record {}) false (word bs) n
            → reading bs ≡ result_map_both (λ y. (squares y.0, y.1)) (λ e. e) x
        read_squares t e = by_squares t ∙ (λ i. result_map_both (λ y. (squares y.0, y.1)) (λ e. e) (sym e i))

        pub read_linear : is 1 (word bs 2) ≡ false → is 2 (word bs 2) ≡ true → {x : Result (Data Linear × List Call) FileFault} → x ≡ in_file (record {}) true (word bs) n
            → reading bs ≡ result_map_both (λ y. (linear y.0, y.1)) (λ e. e) x
        read_linear t u e = by_linear t u ∙ (λ i. result_map_both (λ y. (linear y.0, y.1)) (λ e. e) (sym e i))

-- ---- the row of record r, whose list ADD ROW answered, leaving the draft d'
row_came : {C : Type 0} (f : ℕ → ℤ) (r : ℕ) (d d' : Data C) (answer : Result (Unit {0}) Fault)
    → row_added f r d ≡ result_and (in_record r answer) (Ok (with_listed_row d (row_list f r))) → Grown answer d d' (with_listed_row d (row_list f r))
    → ComesTo (row_added f r d) d' (in_record r answer)
row_came f r d d' (Ok tt) e after = e ∙ ap Ok (sym after)
row_came f r d d' (Err fault) e after = e

pub row_unknown : {C : Type 0} (f : ℕ → ℤ) (r : ℕ) (d : Data C) {kind : ℤ} → kind ≡ f (20 * r + 1) → (is 1 kind || is 2 kind) ≡ false → row_added f r d ≡ Err (Kind r)
row_unknown f r d k t =
    let e = (λ i. is 1 (sym k i) || is 2 (sym k i)) ∙ t in
    λ i. result_and (cond (e i) (Ok tt) (Err (Kind r))) (result_and (unused f r 12) (result_and (in_record r (row_answer d (row_list f r))) (Ok (with_listed_row d (row_list f r)))))

module _ {C : Type 0} (f : ℕ → ℤ) (r : ℕ) (d d' : Data C) where
  row_judged : (is 1 (cell f r 1) || is 2 (cell f r 1)) ≡ true → Ok tt ≡ unused f r 12
      → row_added f r d ≡ result_and (in_record r (row_answer d (row_list f r))) (Ok (with_listed_row d (row_list f r)))
  row_judged t u =
      (λ i. result_and (cond (t i) (Ok tt) (Err (Kind r))) (result_and (unused f r 12) (result_and (in_record r (row_answer d (row_list f r))) (Ok (with_listed_row d (row_list f r))))))
      ∙ (λ i. result_and (sym u i) (result_and (in_record r (row_answer d (row_list f r))) (Ok (with_listed_row d (row_list f r)))))

  pub row_comes : (kind : ℤ) (list : List ℤ) (answer : Result (Unit {0}) Fault) (v : Result (Unit {0}) FileFault) → kind ≡ f (20 * r + 1) → (is 1 kind || is 2 kind) ≡ true → Ok tt ≡ unused f r 12
      → list ≡ row_list f r → answer ≡ row_answer d list → Grown answer d d' (with_listed_row d list) → v ≡ in_record r answer → ComesTo (row_added f r d) d' v
  row_comes kind list answer v k t u l a after e =
      subst (ComesTo (row_added f r d) d') (sym e)
      (row_came f r d d' answer
      (row_judged ((λ i. is 1 (sym k i) || is 2 (sym k i)) ∙ t) u ∙ (λ i. result_and (in_record r (sym (a ∙ (λ j. row_answer d (l j))) i)) (Ok (with_listed_row d (row_list f r)))))
      (subst (λ xs. Grown answer d d' (with_listed_row d xs)) l after))
