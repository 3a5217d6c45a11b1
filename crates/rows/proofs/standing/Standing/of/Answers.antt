use Rattle.std.proofs.Common.{◌≡◌, rules}
use Rattle.problem.specs.Programs.{program}
use Rattle.problem.proofs.Rows.{ends_of}
use Rattle.rows.proofs.Places.{end_scaled}
use Rattle.rows.proofs.standing.Standing.of.Goals as goal

pub invariant_of-result-clause-low_near : goal.invariant_of-result-clause-low_near
invariant_of-result-clause-low_near c =
    let lo : c.from.result ≡ (program c.args.problem.now).lo c.args.row = search rules in
    (end_scaled c.denominator-q.ensures.value c.denominator-q.ensures.small lo (ends_of c.args.problem.now.rows c.args.row).low).near

pub invariant_of-result-clause-high_near : goal.invariant_of-result-clause-high_near
invariant_of-result-clause-high_near c =
    let hi : c.from-2.result ≡ (program c.args.problem.now).hi c.args.row = search rules in
    (end_scaled c.denominator-q.ensures.value c.denominator-q.ensures.small hi (ends_of c.args.problem.now.rows c.args.row).high).near

pub returns-clause-low : goal.returns-clause-low
returns-clause-low c =
    let lo : c.from.result ≡ (program c.args.problem.now).lo c.args.row = search rules in
    (end_scaled c.denominator-q.ensures.value c.denominator-q.ensures.small lo (ends_of c.args.problem.now.rows c.args.row).low).is

pub returns-clause-high : goal.returns-clause-high
returns-clause-high c =
    let hi : c.from-2.result ≡ (program c.args.problem.now).hi c.args.row = search rules in
    (end_scaled c.denominator-q.ensures.value c.denominator-q.ensures.small hi (ends_of c.args.problem.now.rows c.args.row).high).is
