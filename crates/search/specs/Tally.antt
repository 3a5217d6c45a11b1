-- The tally of a search: what every call does, by the rules alone. It is fed the arguments of the calls and none
-- of the search's answers, and it keeps each node with its full sides. Rows go by their index from 0; a SPLIT
-- names its row from 1.
use Rattle.std.specs.Prelude.{ℕ, ◌+◌, ◌-◌, Bool, true, false, cond, ◌&&◌, List, [], ◌∷◌, ◌++◌, length, replicate, ℤ, pos, Some, None, Ok, Err, Option, Result, int_le, unsigned_abs}
use Rattle.std.specs.Option.{option_map as mapped_option}
use Rattle.std.specs.Result.{result_and, result_map_both}
use Rattle.family.specs.declared.fault.ListFault.{ListFault}
use Rattle.family.specs.declared.fault.ListFault.TheVariants.{Limit}
use Rattle.family.specs.declared.fault.PointFault.{PointFault}
use Rattle.family.specs.declared.fault.ProofFault.{ProofFault}
use Rattle.family.specs.declared.fault.StateFault.TheVariants.{NotSwitch, NoNode, AlreadyFixed, Weak}
use Rattle.family.specs.declared.fault.Fault.{Fault}
use Rattle.family.specs.declared.fault.Fault.TheVariants.{List as in_list, Point as in_point, Proof as in_proof, State as in_state}
use Rattle.family.specs.declared.judgement.Judgement.{Judgement}
use Rattle.family.specs.declared.judgement.Judgement.TheVariants.{Void, Bound}
use Rattle.family.specs.declared.shape.Shape.TheVariants.{Point as PointShape, Proof as ProofShape}
use Rattle.family.specs.declared.side.Side.{Side}
use Rattle.family.specs.declared.side.Side.TheVariants.{Lower, Upper}
use Rattle.family.specs.Fractions.{Fraction, cheaper, closes}
use Rattle.family.specs.Lists.{list_fault}
use Rattle.family.specs.Meaning.{Meaning}
use Rattle.family.specs.Numbers.{same}
use Rattle.family.specs.Points.{point_in, proof_in}
use Rattle.family.specs.Sides.{fixed}
use Rattle.search.specs.declared.outcome.Accepted.{Accepted}
use Rattle.search.specs.declared.report.Report.{Report}
use Rattle.search.specs.declared.report.Verdict.{Verdict}
use Rattle.search.specs.declared.report.Verdict.TheVariants.{Stopped, Best, Nothing}

-- the full sides of a node: each row free (None) or fixed at a side
abbrev pub Sides : Type 0
Sides = ℕ → Option Side

abbrev pub all_free : Sides
all_free k = None

abbrev pub is_free : Option Side → Bool
is_free None = true
is_free (Some d) = false

-- the calls that can change a search, with their arguments: a list, or a row and a side
pub data Call : Type 0 where
  point : List ℤ → Call
  proof : List ℤ → Call
  split : ℤ → ℤ → Call

-- a held point: its nine numbers and its cost
pub record Held : Type 0 where
  pub numbers : List ℤ
  pub cost : Fraction

pub record Tally : Type 0 where
  -- the open nodes, the one opened last first: it is the current one
  pub pending : List Sides
  pub closed : List Sides
  pub splits : ℕ
  pub held : Option Held

-- the root alone is open
abbrev pub fresh : Tally
fresh = record { pending = all_free ∷ []; closed = []; splits = 0; held = None }

-- ---- what is judged, in the order of the denials
abbrev pub and_then : {T U E : Type 0} → Result T E → (T → Result U E) → Result U E
and_then (Ok x) f = f x
and_then (Err e) f = Err e

abbrev pub if_not : Bool → Fault → Result (Unit {0}) Fault
if_not b fault = cond b (Ok tt) (Err fault)

abbrev pub list_judged : Result (Unit {0}) ListFault → Result (Unit {0}) Fault
list_judged r = result_map_both (λ u. u) in_list r

abbrev pub point_judged : Result Fraction PointFault → Result Fraction Fault
point_judged r = result_map_both (λ c. c) in_point r

abbrev pub proof_judged : Result Judgement ProofFault → Result Judgement Fault
proof_judged r = result_map_both (λ j. j) in_proof r

-- what f says of the current node
abbrev pub at_current : {T : Type 0} → List Sides → (Sides → Result T Fault) → Result T Fault
at_current [] f = Err (in_state NoNode)
at_current (s ∷ ss) f = f s

-- the cost of an offered point: its list is judged, and then the point with every switch free
abbrev pub point_cost : Meaning → List ℤ → Result Fraction Fault
point_cost M list =
    result_and (list_judged (list_fault (PointShape M.n) list)) (point_judged (M.judge_point all_free (point_in list)))

-- the first point, or one strictly cheaper than the held one
abbrev pub beats : Fraction → Option Held → Bool
beats cost None = true
beats cost (Some held) = cheaper cost held.cost

-- whether a judgement closes a node while a point, or none, is held
abbrev pub shuts : ℕ → Option Held → Judgement → Bool
shuts gap held Void = true
shuts gap None (Bound bound) = false
shuts gap (Some held) (Bound bound) = closes gap bound held.cost

abbrev pub strong : ℕ → Option Held → Judgement → Result Judgement Fault
strong gap held judgement = cond (shuts gap held judgement) (Ok judgement) (Err (in_state Weak))

-- what an offered proof shows of the current node, if that closes it
abbrev pub proof_shows : Meaning → ℕ → List Sides → Option Held → List ℤ → Result Judgement Fault
proof_shows M gap nodes held list =
    result_and (list_judged (list_fault (ProofShape M.m) list))
    (at_current nodes (λ s. and_then (proof_judged (M.judge_proof s (proof_in list))) (strong gap held)))

-- the index of the row that a number from 1 to m names
abbrev pub row_named : ℕ → ℤ → Result ℕ Fault
row_named m z = cond (int_le (pos 1) z && int_le z (pos m)) (Ok (unsigned_abs z - 1)) (Err (in_list (Limit 1)))

-- the side that a number names: 0 lower, 1 upper
abbrev pub side_named : ℤ → Result Side Fault
side_named z = cond (same z (pos 0)) (Ok Lower) (cond (same z (pos 1)) (Ok Upper) (Err (in_list (Limit 2))))

-- the row and the side that an offered split fixes at the current node
abbrev pub split_fixes : Meaning → List Sides → ℤ → ℤ → Result (ℕ × Side) Fault
split_fixes M nodes row side =
    and_then (row_named M.m row) (λ r.
    and_then (side_named side) (λ d.
    result_and (if_not (M.switch r) (in_state NotSwitch))
    (at_current nodes (λ s. result_and (if_not (is_free (s r)) (in_state AlreadyFixed)) (Ok (r, d))))))

-- ---- what an accepted call does
pub data Deed : Type 0 where
  take : List ℤ → Fraction → Deed
  keep : Fraction → Deed
  close : Judgement → Deed
  branch : ℕ → Side → Deed

-- the positions of a switch row
abbrev pub positions : List Side
positions = Lower ∷ Upper ∷ []

abbrev pub same_side : Side → Side → Bool
same_side Lower Lower = true
same_side Lower Upper = false
same_side Upper Lower = false
same_side Upper Upper = true

abbrev pub without : Side → List Side → List Side
without d [] = []
without d (e ∷ es) = cond (same_side d e) (without d es) (e ∷ without d es)

-- the order in which a split opens its children: the others first, the named one last
abbrev pub opening_order : Side → List Side
opening_order d = without d positions ++ (d ∷ [])

-- children opened one after the other on top of what is open
abbrev pub opened : (Side → Sides) → List Side → List Sides → List Sides
opened child [] ss = ss
opened child (d ∷ ds) ss = opened child ds (child d ∷ ss)

abbrev pub branched : ℕ → Side → List Sides → List Sides
branched r d [] = []
branched r d (s ∷ ss) = opened (fixed s r) (opening_order d) ss

-- P of the current node, which there is
abbrev pub OnTop : (Sides → Type 0) → List Sides → Type 0
OnTop P [] = ⊥
OnTop P (s ∷ ss) = P s

abbrev pub rest : List Sides → List Sides
rest [] = []
rest (s ∷ ss) = ss

abbrev pub closing : List Sides → List Sides → List Sides
closing [] done = done
closing (s ∷ ss) done = s ∷ done

abbrev pub apply : Tally → Deed → Tally
apply t (take numbers cost) = record { pending = t.pending; closed = t.closed; splits = t.splits; held = Some (record { numbers = numbers; cost = cost }) }
apply t (keep cost) = t
apply t (close judgement) = record { pending = rest t.pending; closed = closing t.pending t.closed; splits = t.splits; held = t.held }
apply t (branch r d) = record { pending = branched r d t.pending; closed = t.closed; splits = t.splits + 1; held = t.held }

-- a denied call changes nothing
abbrev pub changed : Tally → Result Deed Fault → Tally
changed t (Ok deed) = apply t deed
changed t (Err fault) = t

abbrev pub told : Deed → Accepted
told (take numbers cost) = Accepted.Taken cost
told (keep cost) = Accepted.Kept cost
told (close judgement) = Accepted.Closed judgement
told (branch r d) = Accepted.Split

module _ (M : Meaning) (gap : ℕ) where
  abbrev pub judged : Tally → Call → Result Deed Fault
  judged t (point list) = result_map_both (λ cost. cond (beats cost t.held) (take list cost) (keep cost)) (λ e. e) (point_cost M list)
  judged t (proof list) = result_map_both close (λ e. e) (proof_shows M gap t.pending t.held list)
  judged t (split row side) = result_map_both (λ x. branch x.0 x.1) (λ e. e) (split_fixes M t.pending row side)

  -- what the call is answered
  abbrev pub answer : Tally → Call → Result Accepted Fault
  answer t call = result_map_both told (λ e. e) (judged t call)

  unfoldable pub step : Tally → Call → Tally
  step t call = changed t (judged t call)

  abbrev pub after : Tally → List Call → Tally
  after t [] = t
  after t (call ∷ calls) = after (step t call) calls

  -- the answers to calls, one after the other
  abbrev pub answers : Tally → List Call → List (Result Accepted Fault)
  answers t [] = []
  answers t (call ∷ calls) = answer t call ∷ answers (step t call) calls

-- ---- how it ends
abbrev pub verdict_of : List Sides → Option Held → Verdict
verdict_of (s ∷ ss) held = Stopped
verdict_of [] (Some held) = Best
verdict_of [] None = Nothing

abbrev pub cost_of : Option Held → Option Fraction
cost_of held = mapped_option (λ (h : Held). h.cost) held

-- the nine numbers of the held point, all 0 if there is none
abbrev pub numbers_of : Option Held → List ℤ
numbers_of None = replicate 9 (pos 0)
numbers_of (Some held) = held.numbers

abbrev pub report_of : Tally → Report
report_of t = record {
  verdict = verdict_of t.pending t.held;
  cost = cost_of t.held;
  «open» = length t.pending;
  splits = t.splits;
  closed = length t.closed;
}
