-- From a run of a file's calls to what is claimed of the file.
use Rattle.std.proofs.Common.{◌≡◌, ℕ, suc, List, [], ◌∷◌, ◌++◌, length, take, ℤ, IsOkAnd, Ok, Result, sym, refl, ap, ◌∙◌, subst, arith}
use Rattle.std.proofs.lemmas.List.{take-append-le, take_all}
use Rattle.family.specs.declared.fault.Fault.{Fault}
use Rattle.family.specs.declared.gap.Gap.{Gap}
use Rattle.family.specs.Meaning.{Meaning}
use Rattle.family.specs.Numbers.{at}
use Rattle.family.specs.Reading.{gap_value}
use Rattle.problem.specs.declared.cost.Linear.{Linear}
use Rattle.problem.specs.declared.cost.Squares.{Squares}
use Rattle.problem.specs.declared.draft.Draft.{Draft}
use Rattle.problem.specs.declared.coefficients.Coefficients.{Coefficients as Rates}
use Rattle.problem.specs.declared.table.Problem.{Problem}
use Rattle.problem.specs.Calls.{data_of}
use Rattle.problem.specs.Programs.{program}
use Rattle.rows.specs.Claims.{PlainMeaning}
use Rattle.squares.specs.Bounds.{meaning_of as squares_meaning}
use Rattle.linear.specs.Bounds.{meaning_of as linear_meaning}
use Rattle.file.specs.declared.call.Call.{Call}
use Rattle.file.specs.declared.fault.FileFault.{FileFault}
use Rattle.file.specs.Contents.{AnyData, squares, linear}
use Rattle.search.specs.declared.outcome.Accepted.{Accepted}
use Rattle.search.specs.declared.report.Report.{Report}
use Rattle.search.specs.Runs.{Ran}
use Rattle.search.specs.Tally as search
use Rattle.judge.specs.declared.judged.Judged.{Judged}
use Rattle.judge.specs.Problems.{calls_made}
use Rattle.judge.specs.Verdicts.{JudgedBy, JudgedAs}

-- what stands at the front of a table
front : {T : Type 0} (n : ℕ) (xs ys : List T) → length xs ≡ n → take n (xs ++ ys) ≡ xs
front n xs ys e = take-append-le n xs ys (omega arith) ∙ take_all n xs (omega arith)

answered : (M : Meaning) (gap : ℕ) (t : search.Tally) (calls : List search.Call) → length (search.answers M gap t calls) ≡ length calls
answered M gap t [] = refl
answered M gap t (c ∷ calls) = ap (λ n. suc n) (answered M gap (search.step M gap t c) calls)

made : (calls : List Call) → length (calls_made calls) ≡ length calls
made [] = refl
made (c ∷ calls) = ap (λ n. suc n) (made calls)

pub ran_front : (M : Meaning) (gap : ℕ) (calls : List Call) (offers : List search.Call) (report : Report) (numbers : List ℤ) (outcomes others : List (Result Accepted Fault))
    → offers ≡ calls_made calls → Ran M gap offers report numbers outcomes → Ran M gap (calls_made calls) report numbers (take (length calls) (outcomes ++ others))
ran_front M gap calls offers report numbers outcomes others e r =
    let l : length outcomes ≡ length calls = ap length r.answers ∙ answered M gap search.fresh offers ∙ ap length e ∙ made calls in
    subst (λ (os : List search.Call). Ran M gap os report numbers (take (length calls) (outcomes ++ others))) e
    (subst (λ (xs : List (Result Accepted Fault)). Ran M gap offers report numbers xs) (sym (front (length calls) outcomes others l)) r)

of_file : (r : Result (AnyData × List Call) FileFault) (x : AnyData × List Call) (j : Judged) → Ok x ≡ r → JudgedAs x j → IsOkAnd r (λ y. JudgedAs y j)
of_file r x j e h = subst (λ (s : Result (AnyData × List Call) FileFault). IsOkAnd s (λ y. JudgedAs y j)) e h

pub squares_judged : (r : Result (AnyData × List Call) FileFault) (draft : Draft Squares) (calls : List Call) (p : Problem) (gap : Gap) (j : Judged)
    → Ok (squares (data_of draft), calls) ≡ r → p ≡ draft.problem → gap ≡ draft.gap → PlainMeaning (squares_meaning (program p)) (program draft.problem)
    → JudgedBy (squares_meaning (program p)) (gap_value gap) calls j → IsOkAnd r (λ y. JudgedAs y j)
squares_judged r draft calls p gap j e is_p is_gap plain h =
    of_file r (squares (data_of draft), calls) j e (record {
      judged = subst (λ (q : Problem). JudgedBy (squares_meaning (program q)) (gap_value draft.gap) calls j) is_p (subst (λ (k : Gap). JudgedBy (squares_meaning (program p)) (gap_value k) calls j) is_gap h);
      plain = subst (λ (q : Problem). PlainMeaning (squares_meaning (program q)) (program draft.problem)) is_p plain;
    })

pub linear_judged : (r : Result (AnyData × List Call) FileFault) (draft : Draft Linear) (calls : List Call) (p : Problem) (rates : Rates) (gap : Gap) (j : Judged)
    → Ok (linear (data_of draft), calls) ≡ r → p ≡ draft.problem → rates ≡ draft.rates → gap ≡ draft.gap → PlainMeaning (linear_meaning (program p) (at rates.numbers)) (program draft.problem)
    → JudgedBy (linear_meaning (program p) (at rates.numbers)) (gap_value gap) calls j → IsOkAnd r (λ y. JudgedAs y j)
linear_judged r draft calls p rates gap j e is_p is_rates is_gap plain h =
    of_file r (linear (data_of draft), calls) j e (record {
      judged = subst (λ (q : Problem). JudgedBy (linear_meaning (program q) (at draft.rates.numbers)) (gap_value draft.gap) calls j) is_p
          (subst (λ (z : Rates). JudgedBy (linear_meaning (program p) (at z.numbers)) (gap_value draft.gap) calls j) is_rates
          (subst (λ (k : Gap). JudgedBy (linear_meaning (program p) (at rates.numbers)) (gap_value k) calls j) is_gap h));
      plain = subst (λ (q : Problem). PlainMeaning (linear_meaning (program q) (at draft.rates.numbers)) (program draft.problem)) is_p
          (subst (λ (z : Rates). PlainMeaning (linear_meaning (program p) (at z.numbers)) (program draft.problem)) is_rates plain);
    })
