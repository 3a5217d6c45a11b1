-- What walking a chain leaves.
use Rattle.std.specs.Prelude.{◌≡◌, ℕ, ◌-◌, ◌<◌, false, List, length, ℤ, Some, None, Ok, Err, Option, Result, MatchResult}
use Rattle.file.specs.declared.fault.FileFault.{FileFault}
use Rattle.file.specs.declared.reached.Reached.{Reached}
use Rattle.file.specs.declared.records.Chain.{Chain}
use Rattle.file.specs.declared.records.Chain.TheVariants.{Rows, Calls}
use Rattle.file.specs.declared.records.Record.{Record}
use Rattle.file.specs.declared.records.Records.{Records}
use Rattle.file.specs.Chains.{has, chained}
use Rattle.file.specs.Files.{counted}
use Rattle.file.specs.Words.{word}

abbrev pub reached_in : Reached → List ℕ
reached_in reached = reached.order.items

abbrev pub words_in : Records → ℕ → ℤ
words_in records = word records.bytes.now

abbrev pub words_of : Record → ℕ → ℤ
words_of one = word one.bytes.now

-- record r of the file
pub record Names (records : Records) (r : ℕ) (one : Record) : Type 0 where
  pub at : one.at ≡ r
  pub same : one.bytes.now ≡ records.bytes.now

-- the word of record 0 in which a chain begins
abbrev pub first_word : Chain → ℕ
first_word Rows = 0
first_word Calls = 1

-- the records of these bytes, as many as their length tells
abbrev pub Counts : List ℕ → Result Records FileFault → Type 0
Counts bytes r = MatchResult r (λ records. (records.bytes.now ≡ bytes) × (Ok records.count ≡ counted (length bytes))) (λ e. Err e ≡ counted (length bytes))

-- a record to go on to is one of the file's, is new, and finds room
abbrev pub New : Result (Option ℕ) FileFault → ℕ → List ℕ → Type 0
New (Err e) n reached = Unit {0}
New (Ok None) n reached = Unit {0}
New (Ok (Some k)) n reached = (k < n) × (has reached k ≡ false) × (length reached < 819)

-- x is what a call that changes s to s' comes to
abbrev pub ComesTo : {S : Type 0} → Result S FileFault → S → Result (Unit {0}) FileFault → Type 0
ComesTo x s' v = MatchResult v (λ _. x ≡ Ok s') (λ e. x ≡ Err e)

-- the walk from word w of record 0, after the records reached before
abbrev pub walked : {S : Type 0} → (ℕ → S → Result S FileFault) → (ℕ → ℤ) → ℕ → List ℕ → S → ℕ → Result (S × List ℕ) FileFault
walked visit f n reached s w = chained visit f n (819 - length reached) reached s 0 w
