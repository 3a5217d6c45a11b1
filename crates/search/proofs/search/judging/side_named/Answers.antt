use Rattle.std.proofs.Common.{◌≡◌, ap, ◌∙◌, w32, to_z, of_z, rules}
use Rattle.search.specs.Tally.{side_named}
use Rattle.search.proofs.Judging.{side_by}
use Rattle.search.proofs.search.judging.side_named.Goals as goal

pub returns : goal.returns
returns c =
    let e : to_z w32 (of_z w32 c.args.side) ≡ c.args.side = search rules in
    side_by (to_z w32 (of_z w32 c.args.side)) c.try_from.result c.map_err.result c.try_from.ensures c.map_err.ensures.cases (λ _ f p. search rules) ∙ ap side_named e
