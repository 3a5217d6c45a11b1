use Rattle.std.proofs.Common.{refl, ap, ◌∙◌}
use Rattle.family.specs.Reading.{gap_value}
use Rattle.file.specs.Contents.{calls_of}
use Rattle.search.specs.Runs.{calls_in}
use Rattle.judge.specs.Problems.{calls_made}
use Rattle.judge.proofs.Judgings.{ran_front}
use Rattle.judge.proofs.judging.judge_calls.Goals as goal

pub returns : goal.returns
returns g c =
    record {
      quantities = c.size-quantities.ensures.quantities;
      same = refl;
      ran = ran_front (g.F.Family.meaning c.args.family) (gap_value c.args.gap) (calls_of c.args.calls) _ c.in-Ok.end.report c.in-Ok.end.point c.run.new.outcomes _ (ap calls_in c.as_slice-offers.ensures.value ∙ c.offers_of-offers.ensures) c.in-Ok.ensures.ran;
    }
