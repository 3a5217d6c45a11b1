-- HEADER and ADD ROW on a draft: what each answers, and what the draft holds then.
use Rattle.std.specs.Prelude.{ℕ, Bool, cond, List, drop, replicate, ℤ, pos, negsuc, Ok, Err, Result, ◌==◌, unsigned_abs}
use Rattle.std.specs.Result.{result_and}
use Rattle.family.specs.declared.fault.Fault.{Fault}
use Rattle.family.specs.declared.fault.Fault.TheVariants.{List as list_fault, State as state_fault}
use Rattle.family.specs.declared.fault.ListFault.{ListFault}
use Rattle.family.specs.declared.fault.StateFault.{StateFault}
use Rattle.family.specs.declared.fault.StateFault.TheVariants.{HasRows}
use Rattle.family.specs.Numbers.{at}
use Rattle.problem.specs.declared.draft.Draft.{Draft}
use Rattle.problem.specs.declared.kind.Kind.{Kind}
use Rattle.problem.specs.declared.kind.Kind.TheVariants.{Plain, Switch}
use Rattle.problem.specs.Drafts.{ProblemData, problem_data, fresh_problem, with_quantities, with_new_row, push_answer}
use Rattle.problem.specs.Headers.{header_fault}
use Rattle.problem.specs.Kinds.{kind_number}
use Rattle.problem.specs.NewRows.{row_fault}

-- all that a draft holds
pub record Data (C : Type 0) : Type 0 where
  pub cost : C
  pub gap : ℕ
  pub rates : List ℤ
  pub problem : ProblemData

abbrev pub data_of : {C : Type 0} → Draft C → Data C
data_of d = record { cost = d.cost; gap = d.gap.value; rates = d.rates.numbers; problem = problem_data d.problem }

-- one quantity, gap and rates 0, no rows
abbrev pub fresh_draft : {C : Type 0} → C → Data C
fresh_draft cost = record { cost = cost; gap = 0; rates = replicate 8 (pos 0); problem = fresh_problem }

abbrev pub from_list : Result (Unit {0}) ListFault → Result (Unit {0}) Fault
from_list (Ok x) = Ok x
from_list (Err e) = Err (list_fault e)

abbrev pub from_state : Result (Unit {0}) StateFault → Result (Unit {0}) Fault
from_state (Ok x) = Ok x
from_state (Err e) = Err (state_fault e)

-- the list is judged first, then whether there are rows
abbrev pub header_answer : {C : Type 0} → Bool → Data C → List ℤ → Result (Unit {0}) Fault
header_answer rated d list =
    result_and (from_list (header_fault rated list)) (cond (d.problem.m == 0) (Ok tt) (Err (state_fault HasRows)))

abbrev pub with_header : {C : Type 0} → Data C → List ℤ → Data C
with_header d list = record {
  cost = d.cost;
  gap = unsigned_abs (at list 1);
  rates = drop 2 list;
  problem = with_quantities d.problem (unsigned_abs (at list 0));
}

-- the kind that a judged number stands for
abbrev pub kind_of : ℤ → Kind
kind_of (pos n) = cond (n == kind_number Switch) Switch Plain
kind_of (negsuc n) = Plain

-- the list is judged first, then whether a row is free
abbrev pub row_answer : {C : Type 0} → Data C → List ℤ → Result (Unit {0}) Fault
row_answer d list = result_and (from_list (row_fault d.problem.n list)) (from_state (push_answer d.problem))

abbrev pub with_listed_row : {C : Type 0} → Data C → List ℤ → Data C
with_listed_row d list = record {
  cost = d.cost;
  gap = d.gap;
  rates = d.rates;
  problem = with_new_row d.problem (record { kind = kind_of (at list 0); lo = at list 1; hi = at list 2 }) (drop 3 list);
}
