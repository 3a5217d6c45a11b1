-- What an offered list holds once it has no fault.
use Rattle.std.proofs.Common.{◌≡◌, ℕ, ◌<◌, ◌≤◌, List, length, ℤ, pos, ◌≤ℤ◌, nat_abs, Ok, sym, ap, arith}
use borrow.Author.Differences.{ints}
use Rattle.family.specs.declared.shape.Shape.TheVariants.{Point as PointShape, Proof as ProofShape}
use Rattle.family.specs.Lists.{list_fault}
use Rattle.family.specs.Numbers.{at}
use Rattle.family.specs.Points.{Point, Proof, Holds, any_point, any_proof, point_in, proof_in, OfferedPoint, OfferedProof}
use Rattle.family.proofs.Scans.{sound, point_read, proof_read}

head_of : (z : ℤ) → pos 1 ≤ℤ z → z ≤ℤ pos 1000 → (0 < nat_abs z) × (nat_abs z ≤ 1000)
head_of z h k = (omega (arith, ints), omega (arith, ints))

pub offered_point : (n : ℕ) (list : List ℤ) → list_fault (PointShape n) list ≡ Ok tt → OfferedPoint (point_in list)
offered_point n list e = let s = point_read n list (sym e) in let h = head_of (at list 0) s.positive s.fine in record { positive = h.0; fine = h.1; near = s.near }

pub offered_proof : (m : ℕ) (list : List ℤ) → list_fault (ProofShape m) list ≡ Ok tt → OfferedProof (proof_in list)
offered_proof m list e = let s = proof_read m list (sym e) in let h = head_of (at list 0) s.positive s.fine in record { positive = h.0; fine = h.1; near = s.near }

pub nine : (n : ℕ) (list : List ℤ) → list_fault (PointShape n) list ≡ Ok tt → length list ≡ 9
nine n list e = (sound (PointShape n) list e).long

pub point_is : (list : List ℤ) (x : Point) → Holds list x → any_point x ≡ point_in list
point_is list x h = λ i. record { q = ap nat_abs h.head i; p = at (h.rest i) }

pub proof_is : (list : List ℤ) (x : Proof) → Holds list x → any_proof x ≡ proof_in list
proof_is list x h = λ i. record { s = ap nat_abs h.head i; y = at (h.rest i) }
