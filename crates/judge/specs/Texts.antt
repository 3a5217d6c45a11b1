-- The text that is printed of a judged file, as bytes.
use Rattle.std.specs.Prelude.{ℕ, cond, List, [], ◌++◌, ℤ, Some, None, Ok, Err, codes, decimal, Option, Result, nat_le}
use Rattle.std.specs.Fmt.{signed_decimal}
use Rattle.family.specs.declared.fault.Fault.{Fault}
use Rattle.family.specs.declared.judgement.Judgement.TheVariants.{Void, Bound}
use Rattle.family.specs.Denials.{denial_of, denial_text}
use Rattle.family.specs.Fractions.{Fraction, fraction_text}
use Rattle.family.specs.Numbers.{at}
use Rattle.file.specs.declared.call.Call.{Call}
use Rattle.file.specs.declared.call.Call.TheVariants.{Point, Proof, Split}
use Rattle.search.specs.declared.outcome.Accepted.{Accepted}
use Rattle.search.specs.declared.report.Report.{Report}
use Rattle.search.specs.Texts.{verdict_text}

abbrev pub outcome_text : Result Accepted Fault → List ℕ
outcome_text (Ok (Accepted.Taken cost)) = codes "taken " ++ fraction_text cost
outcome_text (Ok (Accepted.Kept cost)) = codes "kept " ++ fraction_text cost
outcome_text (Ok (Accepted.Closed Void)) = codes "closed void"
outcome_text (Ok (Accepted.Closed (Bound bound))) = codes "closed " ++ fraction_text bound
outcome_text (Ok Accepted.Split) = codes "done"
outcome_text (Err fault) = denial_text (denial_of fault)

abbrev pub call_text : Call → List ℕ
call_text (Point list) = codes " point "
call_text (Proof list) = codes " proof "
call_text (Split row side) = codes " split "

-- the line of a call
abbrev pub line_text : ℕ → Call → Result Accepted Fault → List ℕ
line_text place call outcome = decimal place ++ (call_text call ++ outcome_text outcome)

abbrev pub cost_text : Option Fraction → List ℕ
cost_text None = codes "-"
cost_text (Some cost) = fraction_text cost

-- a quantity after a space, or nothing
abbrev pub quantity_text : Option (ℤ × ℤ) → List ℕ
quantity_text None = []
quantity_text (Some x) = codes " " ++ (signed_decimal x.0 ++ (codes "/" ++ signed_decimal x.1))

-- the quantity with number j of n, counted from 1, in the nine numbers of a point
abbrev pub quantity_in : ℕ → List ℤ → ℕ → Option (ℤ × ℤ)
quantity_in n numbers j = cond (nat_le j n) (Some (at numbers j, at numbers 0)) None

abbrev pub quantities_text : ℕ → List ℤ → List ℕ
quantities_text n numbers =
    quantity_text (quantity_in n numbers 1) ++ (quantity_text (quantity_in n numbers 2) ++ (quantity_text (quantity_in n numbers 3)
    ++ (quantity_text (quantity_in n numbers 4) ++ (quantity_text (quantity_in n numbers 5) ++ (quantity_text (quantity_in n numbers 6)
    ++ (quantity_text (quantity_in n numbers 7) ++ quantity_text (quantity_in n numbers 8)))))))

abbrev pub counts_text : Report → List ℕ
counts_text report =
    codes " open " ++ (decimal report.«open» ++ (codes " splits " ++ (decimal report.splits ++ (codes " closed " ++ decimal report.closed))))

-- a missing point is a dash, as a missing cost is
abbrev pub point_text : Option Fraction → ℕ → List ℤ → List ℕ
point_text None n numbers = codes " -"
point_text (Some cost) n numbers = quantities_text n numbers

abbrev pub last_text : ℕ → Report → List ℤ → List ℕ
last_text n report numbers =
    verdict_text report.verdict ++ (codes " " ++ (cost_text report.cost ++ (codes " point" ++ (point_text report.cost n numbers ++ counts_text report))))
