-- How large the dual quantities of an offered proof can be.
use Rattle.std.proofs.Common.{ℕ, ◌*◌, ◌≤◌, Bool, true, false, cond, ℤ, pos, ◌*ℤ◌, nat_abs, Some, None, Option, arith}
use lib.Signed.{lt_z}
use Rattle.std.proofs.lemmas.Nat.{mul-le}
use Rattle.family.specs.declared.side.Side.{Side}
use Rattle.family.specs.declared.side.Side.TheVariants.{Lower, Upper}
use Rattle.family.specs.Points.{AnyProof, OfferedProof}
use Rattle.family.proofs.Casts.{product_near}
use Rattle.problem.specs.declared.kind.Kind.{Kind}
use Rattle.problem.specs.declared.kind.Kind.TheVariants.{Plain, Switch}
use Rattle.problem.specs.declared.table.Problem.{Problem}
use Rattle.problem.specs.Programs.{program}
use Rattle.problem.proofs.Cells.{cell_near}
use Rattle.problem.proofs.Rows.{ends_of}
use Rattle.sums.specs.Sums.{total}
use Rattle.sums.proofs.Totals.{total_near}
use Rattle.rows.specs.Rules.{fixed_end, low_end, high_end}
use Rattle.rows.specs.Duals.{column_sum, met_end, level_of}

cond_near : (b : ℕ) (t : Bool) (x y : ℤ) → nat_abs x ≤ b → nat_abs y ≤ b → nat_abs (cond t x y) ≤ b
cond_near b true x y h k = h
cond_near b false x y h k = k

pub coefficient_near : (p : Problem) (i j : ℕ) → nat_abs ((program p).coefficient i j) ≤ 50
coefficient_near p i j = cell_near 50 p.matrix.cells i j p.matrix.small

end_near : (k : Kind) (side : Option Side) (lo hi free : ℤ) → nat_abs lo ≤ 10000 → nat_abs hi ≤ 10000 → nat_abs free ≤ 10000 → nat_abs (fixed_end k side lo hi free) ≤ 10000
end_near Plain side lo hi free a b c = c
end_near Switch None lo hi free a b c = c
end_near Switch (Some Lower) lo hi free a b c = a
end_near Switch (Some Upper) lo hi free a b c = b

met_near : (p : Problem) (s : ℕ → Option Side) (y : ℕ → ℤ) (i : ℕ) → nat_abs (met_end (program p) s y i) ≤ 10000
met_near p s y i =
    let e = ends_of p.rows i in
    cond_near 10000 (lt_z (pos 0) (y i)) (high_end (program p) s i) (low_end (program p) s i)
    (end_near ((program p).kind i) (s i) _ _ _ e.low e.high e.high) (end_near ((program p).kind i) (s i) _ _ _ e.low e.high e.low)

rows_near : (m b : ℕ) (z : ℤ) → m ≤ 16 → nat_abs z ≤ m * b → nat_abs z ≤ 16 * b
rows_near m b z h k = let same : b ≤ b = omega arith in omega (arith, mul-le m b 16 b h same)

pub column_near : (p : Problem) (y : AnyProof) (j : ℕ) → OfferedProof y → nat_abs (column_sum (program p) y.y j) ≤ 800000
column_near p y j o =
    rows_near p.m 50000 (column_sum (program p) y.y j) p.fits
    (total_near 50000 p.m (λ i. (program p).coefficient i j *ℤ y.y i) (λ i h. product_near 50 1000 ((program p).coefficient i j) (y.y i) (coefficient_near p i j) (o.near i)))

pub level_near : (p : Problem) (s : ℕ → Option Side) (y : AnyProof) → OfferedProof y → nat_abs (level_of (program p) s y.y) ≤ 160000000
level_near p s y o =
    rows_near p.m 10000000 (level_of (program p) s y.y) p.fits
    (total_near 10000000 p.m (λ i. y.y i *ℤ met_end (program p) s y.y i) (λ i h. product_near 1000 10000 (y.y i) (met_end (program p) s y.y i) (o.near i) (met_near p s y.y i)))

pub sum_near : (p : Problem) (b : ℕ) (f : ℕ → ℤ) → ((k : ℕ) → nat_abs (f k) ≤ b) → nat_abs (total p.n f) ≤ 8 * b
sum_near p b f h = eight p.n (total p.n f) p.few (total_near b p.n f (λ k l. h k))
  where
    eight : (n : ℕ) (z : ℤ) → n ≤ 8 → nat_abs z ≤ n * b → nat_abs z ≤ 8 * b
    eight n z l k = let same : b ≤ b = omega arith in omega (arith, mul-le n b 8 b l same)
