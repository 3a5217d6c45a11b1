-- The flat matrix: what stands where after a row is written.
use Rattle.std.proofs.Common.{◌≡◌, ℕ, ◌+◌, ◌-◌, ◌*◌, ◌%◌, ◌<◌, ◌≤◌, Bool, true, false, cond, ltb, List, ◌++◌, length, take, drop, replicate, ℤ, pos, nat_abs, sym, ap, ◌∙◌, subst, arith, length-take}
use native.Mathlib.Decide.{dec_lt}
use borrow.Rule.Slice.PartMut.{put_mid, Post-is}
use lib.ListN.{length-replicate}
use Rattle.std.proofs.lemmas.List.{get_or_append_left, get_or-append_right, get_or-take, get_or-drop, get_or_past, get_or-replicate}
use Rattle.family.specs.Numbers.{at, Small}
use Rattle.problem.specs.Tables.{cell, with_row}

pub zeros : (n k : ℕ) → at (replicate n (pos 0)) k ≡ pos 0
zeros n k = elim (dec_lt k n) [ yes h ↦ get_or-replicate n k (pos 0) (pos 0) h | no h ↦ get_or_past (replicate n (pos 0)) k (pos 0) (omega (arith, length-replicate n (pos 0))) ]

-- a cell of the matrix, or 0 beyond its columns, is as small as the matrix's numbers
pub cell_near : (b : ℕ) (cells : List ℤ) (r j : ℕ) → Small b cells → nat_abs (cond (ltb j 8) (cell cells r j) (pos 0)) ≤ b
cell_near b cells r j small = by (ltb j 8)
  where
    by : (t : Bool) → nat_abs (cond t (cell cells r j) (pos 0)) ≤ b
    by true = small (8 * r + j)
    by false = omega arith

module _ (cells : List ℤ) (r : ℕ) (ys : List ℤ) (room : 8 * r + 8 ≤ length cells) (eight : length ys ≡ 8) where
  before_long : length (take (8 * r) cells) ≡ 8 * r
  before_long = omega (arith, length-take (8 * r) cells)

  pub row_before : (k : ℕ) → k < 8 * r → at (with_row cells r ys) k ≡ at cells k
  row_before k h =
      get_or_append_left (take (8 * r) cells) (ys ++ drop (8 * r + 8) cells) (pos 0) k (omega (arith, before_long)) ∙ get_or-take (8 * r) cells k (pos 0) h

  after_before : (k : ℕ) → 8 * r ≤ k → at (with_row cells r ys) k ≡ at (ys ++ drop (8 * r + 8) cells) (k - 8 * r)
  after_before k h = get_or-append_right (take (8 * r) cells) (ys ++ drop (8 * r + 8) cells) (8 * r) k (pos 0) before_long h

  pub row_here : (k : ℕ) → 8 * r ≤ k → k < 8 * r + 8 → at (with_row cells r ys) k ≡ at ys (k - 8 * r)
  row_here k h l = after_before k h ∙ get_or_append_left ys (drop (8 * r + 8) cells) (pos 0) (k - 8 * r) (omega (arith, eight))

  pub row_after : (k : ℕ) → 8 * r + 8 ≤ k → at (with_row cells r ys) k ≡ at cells k
  row_after k h =
      after_before k (omega arith)
      ∙ get_or-append_right ys (drop (8 * r + 8) cells) 8 (k - 8 * r) (pos 0) eight (omega arith)
      ∙ get_or-drop (8 * r + 8) cells (k - 8 * r - 8) (pos 0)
      ∙ ap (at cells) (back k h)
    where
      back : (k : ℕ) → 8 * r + 8 ≤ k → 8 * r + 8 + (k - 8 * r - 8) ≡ k
      back k h = omega arith

  pub row_small : (b : ℕ) → Small b cells → Small b ys → Small b (with_row cells r ys)
  row_small b old new k =
      elim (dec_lt k (8 * r)) [
        | yes h ↦ subst (λ x. nat_abs x ≤ b) (sym (row_before k h)) (old k)
        | no h ↦ elim (dec_lt k (8 * r + 8)) [
          | yes l ↦ subst (λ x. nat_abs x ≤ b) (sym (row_here k (omega arith) l)) (new (k - 8 * r))
          | no l ↦ subst (λ x. nat_abs x ≤ b) (sym (row_after k (omega arith))) (old k)
        ]
      ]

-- what holds of a matrix of m rows and n columns in use holds of it with one more row
module _ (n m : ℕ) (cells ys : List ℤ) (room : 8 * m + 8 ≤ length cells) (eight : length ys ≡ 8) where
  pub unused_more : ((k : ℕ) → 8 * m ≤ k → at cells k ≡ pos 0) → (k : ℕ) → 8 * (m + 1) ≤ k → at (with_row cells m ys) k ≡ pos 0
  unused_more old k h = row_after cells m ys room eight k (omega arith) ∙ old k (omega arith)

  pub fillers_more : ((k : ℕ) → n ≤ k % 8 → at cells k ≡ pos 0) → ((j : ℕ) → n ≤ j → at ys j ≡ pos 0) → (k : ℕ) → n ≤ k % 8 → at (with_row cells m ys) k ≡ pos 0
  fillers_more old new k h = elim (dec_lt k (8 * m)) [
    | yes l ↦ row_before cells m ys room eight k l ∙ old k h
    | no l ↦ elim (dec_lt k (8 * m + 8)) [
      | yes b ↦ row_here cells m ys room eight k (omega arith) b ∙ new (k - 8 * m) (column k (omega arith) b h)
      | no b ↦ row_after cells m ys room eight k (omega arith) ∙ old k h
    ]
  ]
    where
      column : (k : ℕ) → 8 * m ≤ k → k < 8 * m + 8 → n ≤ k % 8 → n ≤ k - 8 * m
      column k h l f = omega arith

-- the write of a part of the array is the row written
pub written : (cells : List ℤ) (r : ℕ) {ys zs : List ℤ} → zs ≡ ys → put_mid (8 * r) (8 * r + 8 - 8 * r) cells zs ≡ with_row cells r ys
written cells r e = λ i. take (8 * r) cells ++ (e i ++ Post-is (8 * r) (8 * r + 8) cells (omega arith) i)
