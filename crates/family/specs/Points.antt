-- The numbers of a point and of a proof, and what their lists hold.
use Rattle.std.specs.Prelude.{◌≡◌, ℕ, ◌<◌, ◌≤◌, List, drop, ℤ, pos, unsigned_abs}
use Rattle.family.specs.declared.offered.Offered.{Offered}
use Rattle.family.specs.Numbers.{at}

abbrev pub Point : Type 0
Point = Offered 8 1000000

abbrev pub Proof : Type 0
Proof = Offered 16 1000

abbrev pub denominator_of : {count bound : ℕ} → Offered count bound → ℕ
denominator_of x = x.denominator

abbrev pub numerator_of : {count bound : ℕ} → Offered count bound → ℕ → ℤ
numerator_of x = at x.numerators

-- a list holds a denominator and then the numerators
pub record Holds {count bound : ℕ} (list : List ℤ) (x : Offered count bound) : Type 0 where
  pub head : pos x.denominator ≡ at list 0
  pub rest : x.numerators ≡ drop 1 list

-- a point of any size, q at least 1 where a law says so: the quantities p j / q
pub record AnyPoint : Type 0 where
  pub q : ℕ
  pub p : ℕ → ℤ

-- an offered point as a point: a reading, not a fact of a type, so that contracts speak of values
abbrev pub any_point : Point → AnyPoint
any_point x = record { q = denominator_of x; p = numerator_of x }

-- a proof of any size: multipliers y i over the scale s
pub record AnyProof : Type 0 where
  pub s : ℕ
  pub y : ℕ → ℤ

-- an offered proof as a proof
abbrev pub any_proof : Proof → AnyProof
any_proof x = record { s = denominator_of x; y = numerator_of x }

-- the point and the proof that a list of numbers holds
abbrev pub point_in : List ℤ → AnyPoint
point_in list = record { q = unsigned_abs (at list 0); p = at (drop 1 list) }

abbrev pub proof_in : List ℤ → AnyProof
proof_in list = record { s = unsigned_abs (at list 0); y = at (drop 1 list) }

-- within the limits of offers
pub record OfferedPoint (x : AnyPoint) : Type 0 where
  pub positive : 0 < x.q
  pub fine : x.q ≤ 1000
  pub near : (k : ℕ) → unsigned_abs (x.p k) ≤ 1000000

pub record OfferedProof (y : AnyProof) : Type 0 where
  pub positive : 0 < y.s
  pub fine : y.s ≤ 1000
  pub near : (k : ℕ) → unsigned_abs (y.y k) ≤ 1000
