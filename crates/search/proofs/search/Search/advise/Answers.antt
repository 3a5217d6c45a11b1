use Rattle.std.proofs.Common.{rules, tests}
use Rattle.family.specs.Points.{any_point}
use Rattle.family.specs.Reading.{side_of}
use Rattle.search.specs.Tally.{rest}
use Rattle.search.specs.View.{nodes_of}
use Rattle.search.proofs.Advices.{found, advised, least_is, advice_is}
use Rattle.search.proofs.search.Search.advise.Goals as goal

pub returns : goal.returns
returns g c =
    let s = c.args.self.now in
    let m = g.F.Family.meaning s.family in
    let nodes = nodes_of s.inner.frontier in
    let sides = side_of c.in_ok-sides.sides in
    let x = any_point c.in_ok-point.point in
    let first = found (advised m sides x) _ c.size-n.result.1 (λ r o q k. search (rules, tests)) c.find_map.result c.find_map.ensures.runs in
    λ t sh. advice_is m c.size-n.result.0 c.size-n.result.1 c.size-n.ensures.quantities c.size-n.ensures.rows nodes t.pending sh.nodes sides (rest nodes) c.in_ok-sides.ensures
    c.args.list.now c.in_ok-point.point c.in_ok-point.ensures c.find_map.result (least_is m sides x c.size-n.result.1 c.find_map.result first)
