-- Reading what was written.
use Rattle.std.proofs.Common.{◌≡◌, ℕ, zero, suc, ◌+◌, ◌-◌, ◌*◌, ◌/◌, ◌%◌, ◌<◌, ◌≤◌, Bool, true, false, cond, ◌||◌, eqb, ltb, List, [], ◌∷◌, ◌++◌, length, take, replicate, ℤ, pos, Some, None, Ok, Err, sym, refl, ap, ◌∙◌, add-one, arith}
use Rattle.std.proofs.lemmas.List.{length-append, get_or_append_left, get_or-append_right, get_or-replicate, get_or-take, take_more, take_all}
use Rattle.std.proofs.lemmas.Bool.{lt-ltb, le-ltb}
use Rattle.std.specs.Result.{result_and}
use Rattle.family.specs.declared.fault.StateFault.TheVariants.{Full}
use Rattle.family.specs.Numbers.{at}
use Rattle.problem.specs.declared.kind.Kind.{Kind}
use Rattle.problem.specs.declared.kind.Kind.TheVariants.{Plain, Switch}
use Rattle.problem.specs.Calls.{Data, fresh_draft, with_header, header_answer, with_listed_row, row_answer, from_list, from_state}
use Rattle.problem.specs.Drafts.{push_answer}
use Rattle.problem.specs.Kinds.{kind_number}
use Rattle.problem.specs.Listings.{header_list, coefficients_of, listed_row}
use Rattle.problem.specs.NewRows.{row_fault}
use Rattle.problem.specs.Tables.{row_at}
use Rattle.file.specs.declared.fault.FileFault.TheVariants.{Kind as WrongKind, Length, Link}
use Rattle.file.specs.Chains.{has, targeted, by_target, next, chained}
use Rattle.file.specs.Files.{counted, by_link, linked, headed, call_added, with_calls, in_file}
use Rattle.file.specs.Records.{is, cell, unused, in_record, and_then, row_list, row_kind, row_added}
use Rattle.file.specs.Words.{of_bytes, word, span}
use Rattle.file.specs.Written.{link_after, head_words, row_words, Written}
use Rattle.file.proofs.Accepted.{Sound, header_accepted, row_accepted}
use Rattle.file.proofs.Rebuilt.{rebuilt, Upto, rebuilt_upto}
use Rattle.file.proofs.Scans.{unused_at}
use Rattle.file.proofs.Tables.{has_push}
use Rattle.file.proofs.Turns.{chained_end, turn}

at_same : (f : ℕ → ℤ) (a b : ℕ) → a ≡ b → f a ≡ f b
at_same f a b e = ap f e

-- ---- words in a row, and words that are not in use
span_take : (f : ℕ → ℤ) (k n : ℕ) (xs : List ℤ) → n ≤ length xs → ((j : ℕ) → j < n → f (k + j) ≡ at xs j) → span f k n ≡ take n xs
unfolding span
span_take f k zero xs l h = refl
span_take f k (suc n) xs l h =
    (λ t. span_take f k n xs (omega arith) (λ j b. h j (omega arith)) t ++ (h n (omega arith) t ∷ []))
    ∙ sym (take_more xs n (pos 0) (omega arith))
    ∙ (λ t. take (add-one n t) xs)

span_is : (f : ℕ → ℤ) (k n : ℕ) (xs : List ℤ) → length xs ≡ n → ((j : ℕ) → j < n → f (k + j) ≡ at xs j) → span f k n ≡ xs
span_is f k n xs l h = span_take f k n xs (omega arith) h ∙ take_all n xs (omega arith)

unused_all : (f : ℕ → ℤ) (r d w : ℕ) → w + d ≡ 20 → ((v : ℕ) → w ≤ v → v < 20 → cell f r v ≡ pos 0) → unused f r w ≡ Ok tt
unused_all f r d w s h = unused_at f r w None (omega arith) (λ v a b. ap (is 0) (h v a b))

-- ---- the parts of a record
row_part : (i m : ℕ) (list : List ℤ) (j : ℕ) → length list ≡ 11 → j < 11 → at (row_words i m list) (1 + j) ≡ at list j
row_part i m list j l h =
    let e : 1 + j ≡ suc j = omega arith in
    (λ t. at (row_words i m list) (e t)) ∙ get_or_append_left list (replicate 8 (pos 0)) (pos 0) j (omega arith)

row_rest : (i m : ℕ) (list : List ℤ) (w : ℕ) → length list ≡ 11 → 12 ≤ w → w < 20 → at (row_words i m list) w ≡ pos 0
row_rest i m list w l h k =
    let e : w ≡ suc (w - 1) = omega arith in
    (λ t. at (row_words i m list) (e t))
    ∙ get_or-append_right list (replicate 8 (pos 0)) 11 (w - 1) (pos 0) l (omega arith)
    ∙ get_or-replicate 8 (w - 1 - 11) (pos 0) (pos 0) (omega arith)

head_part : (m : ℕ) (family : ℤ) (list : List ℤ) (j : ℕ) → length list ≡ 10 → j < 10 → at (head_words m family list) (3 + j) ≡ at list j
head_part m family list j l h =
    let e : 3 + j ≡ suc (suc (suc j)) = omega arith in
    (λ t. at (head_words m family list) (e t)) ∙ get_or_append_left list (replicate 7 (pos 0)) (pos 0) j (omega arith)

head_rest : (m : ℕ) (family : ℤ) (list : List ℤ) (w : ℕ) → length list ≡ 10 → 13 ≤ w → w < 20 → at (head_words m family list) w ≡ pos 0
head_rest m family list w l h k =
    let e : w ≡ suc (suc (suc (w - 3))) = omega arith in
    (λ t. at (head_words m family list) (e t))
    ∙ get_or-append_right list (replicate 7 (pos 0)) 10 (w - 3) (pos 0) l (omega arith)
    ∙ get_or-replicate 7 (w - 3 - 10) (pos 0) (pos 0) (omega arith)

-- ---- links
next_on : (f : ℕ → ℤ) (n : ℕ) (reached : List ℕ) (r w k : ℕ) → cell f r w ≡ pos (suc k) → suc k < n → has reached (suc k) ≡ false → Ok (Some (suc k)) ≡ next f n reached r w
next_on f n reached r w k e lt new =
    sym
    ((λ t. by_target (targeted (e t) n) reached r w)
    ∙ (λ t. by_target (cond (lt-ltb (suc k) n lt t) (Some (suc k)) None) reached r w)
    ∙ (λ t. cond (new t) (Err (Link r w)) (Ok (Some (suc k)))))

next_end : (f : ℕ → ℤ) (n : ℕ) (reached : List ℕ) (r w : ℕ) → cell f r w ≡ pos 0 → 0 < n → Ok None ≡ next f n reached r w
next_end f n reached r w e lt = sym ((λ t. by_target (targeted (e t) n) reached r w) ∙ (λ t. by_target (cond (lt-ltb 0 n lt t) (Some 0) None) reached r w))

-- 1, 2 and so on to k
unfoldable numbers : ℕ → List ℕ
numbers zero = []
numbers (suc k) = numbers k ++ (suc k ∷ [])

numbers_none : numbers 0 ≡ []
unfolding numbers
numbers_none = refl

numbers_more : (k : ℕ) → numbers (suc k) ≡ numbers k ++ (suc k ∷ [])
unfolding numbers
numbers_more k = refl

has_numbers : (i k : ℕ) → i < k → has (numbers i) k ≡ false
unfolding has numbers
has_numbers zero k h = refl
has_numbers (suc i) k h = has_push (numbers i) (suc i) k ∙ (λ t. cond (other t) true (has (numbers i) k)) ∙ has_numbers i k (omega arith)
  where
    other : eqb (suc i) k ≡ false
    other = grind arith

length_numbers : (k : ℕ) → length (numbers k) ≡ k
unfolding numbers
length_numbers zero = refl
length_numbers (suc k) = omega (arith, length-append (numbers k) (suc k ∷ []), length_numbers k)

-- ---- how many records
counted_of : (n : ℕ) → 0 < n → n ≤ 819 → counted (80 * n) ≡ Ok n
counted_of n h k = (λ t. cond (a t) (cond (b t) (Err Length) (cond (c t) (Err Length) (Ok (d t)))) (Err Length))
  where
    a : eqb (80 * n % 80) 0 ≡ true
    a = grind arith

    b : ltb (80 * n) 80 ≡ false
    b = grind arith

    c : ltb 65520 (80 * n) ≡ false
    c = grind arith

    d : 80 * n / 80 ≡ n
    d = omega arith

known : (k : Kind) → (is 1 (pos (kind_number k)) || is 2 (pos (kind_number k))) ≡ true
known Plain = refl
known Switch = refl

-- ---- a file that holds the draft d
module _ {C : Type 0} (cost : C) (rated : Bool) (d : Data C) (s : Sound d) {from to : List ℕ} {family : ℤ} (p : Written from to d.problem.m family (header_list rated d) (listed_row d)) where
  abbrev f : ℕ → ℤ
  f = word to

  abbrev m : ℕ
  m = d.problem.m

  abbrev built : ℕ → Data C
  built k = rebuilt cost rated d k

  eights : (i : ℕ) → i < m → length (coefficients_of d.problem i) ≡ 8
  eights i h = omega (arith, p.eleven i h)

  pub built_upto : (k : ℕ) → k ≤ m → Upto rated d (built k) k
  built_upto = rebuilt_upto cost rated d m s.fits eights

  head_list : span f 3 10 ≡ header_list rated d
  head_list = span_is f 3 10 (header_list rated d) p.ten (λ j h. p.head (3 + j) (omega arith) ∙ head_part m family (header_list rated d) j p.ten h)

  head_unused : unused f 0 13 ≡ Ok tt
  head_unused = unused_all f 0 7 13 refl (λ w a b. at_same f (20 * 0 + w) w (omega arith) ∙ p.head w b ∙ head_rest m family (header_list rated d) w p.ten a b)

  header_answers : header_answer rated (fresh_draft cost) (header_list rated d) ≡ Ok tt
  header_answers = λ t. result_and (from_list (header_accepted rated d s p.ten t)) (Ok tt)

  headed_is : headed cost rated f ≡ Ok (built 0)
  unfolding rebuilt
  headed_is =
      (λ t. result_and (head_unused t) (result_and (in_record 0 (header_answer rated (fresh_draft cost) (head_list t))) (Ok (with_header (fresh_draft cost) (head_list t)))))
      ∙ (λ t. result_and (in_record 0 (header_answers t)) (Ok (with_header (fresh_draft cost) (header_list rated d))))

  module _ (i : ℕ) (h : i < m) where
    row_list_is : row_list f (i + 1) ≡ listed_row d i
    row_list_is =
        span_is f (20 * (i + 1) + 1) 11 (listed_row d i) (p.eleven i h)
        (λ j l. at_same f (20 * (i + 1) + 1 + j) (20 * (i + 1) + (1 + j)) (omega arith) ∙ p.row i (1 + j) h (omega arith) ∙ row_part (i + 1) m (listed_row d i) j (p.eleven i h) l)

    row_kind_is : row_kind f (i + 1) ≡ Ok tt
    row_kind_is =
        (λ t. cond (is 1 (p.row i 1 h (omega arith) t) || is 2 (p.row i 1 h (omega arith) t)) (Ok tt) (Err (WrongKind (i + 1))))
        ∙ (λ t. cond (known (row_at d.problem.rows i).kind t) (Ok tt) (Err (WrongKind (i + 1))))

    row_unused : unused f (i + 1) 12 ≡ Ok tt
    row_unused = unused_all f (i + 1) 8 12 refl (λ w a b. p.row i w h b ∙ row_rest (i + 1) m (listed_row d i) w (p.eleven i h) a b)

    row_answers : row_answer (built i) (listed_row d i) ≡ Ok tt
    row_answers =
        let u = built_upto i (omega arith) in
        let few : i < 16 = omega (arith, s.fits) in
        let room : (built i).problem.m < 16 = omega (arith, u.m) in
        (λ t. result_and (from_list (row_fault (u.n t) (listed_row d i))) (from_state (push_answer (built i).problem)))
        ∙ (λ t. result_and (from_list (row_accepted d i s few (p.eleven i h) t)) (from_state (push_answer (built i).problem)))
        ∙ (λ t. from_state (cond (lt-ltb (built i).problem.m 16 room t) (Ok tt) (Err Full)))

    row_is : row_added f (suc i) (built i) ≡ Ok (built (suc i))
    unfolding rebuilt
    row_is =
        (λ t. row_added f (sym (add-one i) t) (built i))
        ∙ (λ t. result_and (row_kind_is t) (result_and (row_unused t) (result_and (in_record (i + 1) (row_answer (built i) (row_list_is t))) (Ok (with_listed_row (built i) (row_list_is t))))))
        ∙ (λ t. result_and (in_record (i + 1) (row_answers t)) (Ok (with_listed_row (built i) (listed_row d i))))

  links : (k : ℕ) → k ≤ m → cell f k 0 ≡ link_after k m
  links zero h = p.head 0 (omega arith)
  links (suc k) h = (λ t. cell f (sym (add-one k) t) 0) ∙ p.row k 0 (omega arith) (omega arith) ∙ (λ t. link_after (add-one k t) m)

  module _ (n : ℕ) (lt : m < n) (le : n ≤ 819) where
    rows_chained : (e i : ℕ) → i + e ≡ m → chained (row_added f) f n (819 - length (numbers i)) (numbers i) (built i) i 0 ≡ Ok (built m, numbers m)
    rows_chained zero i sum =
        let same : i ≡ m = omega arith in
        let last : link_after i m ≡ pos 0 = ap (λ b. cond b (pos (i + 1)) (pos 0)) (le-ltb i m (omega arith)) in
        chained_end (row_added f) f n (numbers i) (built i) i 0 (819 - length (numbers i)) (next_end f n (numbers i) i 0 (links i (omega arith) ∙ last) (omega arith))
        ∙ (λ t. Ok (built (same t), numbers (same t)))
    rows_chained (suc e) i sum =
        let on : link_after i m ≡ pos (suc i) = ap (λ b. cond b (pos (i + 1)) (pos 0)) (lt-ltb i m (omega arith)) ∙ (λ t. pos (add-one i t)) in
        let fresh : has (numbers i) (suc i) ≡ false = has_numbers i (suc i) (omega arith) in
        turn (row_added f) f n (numbers i) (built i) i 0 (suc i) refl (next_on f n (numbers i) i 0 i (links i (omega arith) ∙ on) (omega arith) fresh)
        (omega arith, fresh, omega (arith, length_numbers i)) (row_is i (omega arith)) (numbers_more i)
        ∙ rows_chained e (suc i) (omega arith)

    from_none : chained (row_added f) f n 819 [] (built 0) 0 0 ≡ Ok (built m, numbers m)
    from_none = (λ t. chained (row_added f) f n (819 - length (sym numbers_none t)) (sym numbers_none t) (built 0) 0 0) ∙ rows_chained m 0 (omega arith)

    no_calls : chained (call_added f) f n (819 - length (numbers m)) (numbers m) [] 0 1 ≡ Ok ([], numbers m)
    no_calls = chained_end (call_added f) f n (numbers m) [] 0 1 (819 - length (numbers m)) (next_end f n (numbers m) 0 1 (p.head 1 (omega arith)) (omega arith))

    pub in_file_is : in_file cost rated f n ≡ Ok (built m, [])
    in_file_is =
        (λ t. and_then (headed_is t) (λ x. and_then (chained (row_added f) f n 819 [] x 0 0) (with_calls f n)))
        ∙ (λ t. and_then (from_none t) (with_calls f n))
        ∙ (λ t. and_then (no_calls t) (λ y. Ok (built m, y.0)))

    pub first_row : Ok tt ≡ linked f n 0
    first_row = sym ((λ t. by_link (targeted (p.head 0 (omega arith) t) n) 0) ∙ grind arith)

    pub first_call : Ok tt ≡ linked f n 1
    first_call = sym ((λ t. by_link (targeted (p.head 1 (omega arith) t) n) 1) ∙ grind arith)

pub counted_is : (bs : List ℕ) (n : ℕ) → 0 < n → n ≤ 819 → length bs ≡ 80 * n → Ok n ≡ counted (length bs)
counted_is bs n h k l = sym (ap counted l ∙ counted_of n h k)

-- ---- the records alone
word_take : (bs : List ℕ) (long k : ℕ) → 4 * k + 4 ≤ long → word (take long bs) k ≡ word bs k
word_take bs long k h = λ t. of_bytes (get_or-take long bs (4 * k) 0 (omega arith) t) (get_or-take long bs (4 * k + 1) 0 (omega arith) t) (get_or-take long bs (4 * k + 2) 0 (omega arith) t) (get_or-take long bs (4 * k + 3) 0 (omega arith) t)

pub alone : {from to : List ℕ} {m : ℕ} {family : ℤ} {header : List ℤ} {rows : ℕ → List ℤ} → Written from to m family header rows
    → Written (take (80 * (m + 1)) to) (take (80 * (m + 1)) to) m family header rows
alone {from} {to} {m} p = record {
  len = refl;
  head = λ w h. word_take to (80 * (m + 1)) w (omega arith) ∙ p.head w h;
  row = λ i w h k. word_take to (80 * (m + 1)) (20 * (i + 1) + w) (omega arith) ∙ p.row i w h k;
  ten = p.ten;
  eleven = p.eleven;
  past = λ i h. refl;
}
