-- The words that are printed for verdicts, as bytes.
use Rattle.std.specs.Prelude.{ℕ, List, codes}
use Rattle.search.specs.declared.report.Verdict.{Verdict}
use Rattle.search.specs.declared.report.Verdict.TheVariants.{Stopped, Best, Nothing}

abbrev pub verdict_text : Verdict → List ℕ
verdict_text Stopped = codes "stopped"
verdict_text Best = codes "best"
verdict_text Nothing = codes "none"
