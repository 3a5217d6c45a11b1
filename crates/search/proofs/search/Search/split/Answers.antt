use Rattle.std.proofs.Common.{◌≡◌, Ok, Err, w32, to_z, of_z, rules}
use Rattle.family.proofs.Scans.{passed}
use Rattle.search.specs.View.{nodes_of}
use Rattle.search.proofs.Following.{split_denied, split_done}
use Rattle.search.proofs.Judging.{fixes_at}
use Rattle.search.proofs.search.Search.split.Goals as goal

pub returns-in_err-row : goal.returns-in_err-row
returns-in_err-row g c =
    let s = c.args.self.now in
    let e : to_z w32 (of_z w32 c.args.row) ≡ c.args.row = search rules in
    let h : to_z w32 (of_z w32 c.args.side) ≡ c.args.side = search rules in
    let f = fixes_at (g.F.Family.meaning s.family) (nodes_of s.inner.frontier) (Err c.in_err-row.field-0.0) e h c.in_err-row.ensures in
    split_denied g.F.Family.meaning s c.args.row c.args.side c.in_err-row.field-0.0 c.from_residual.result (passed c.from_residual.result c.from_residual.ensures.1) f

pub returns : goal.returns
returns g c =
    let s = c.args.self.now in
    let e : to_z w32 (of_z w32 c.args.row) ≡ c.args.row = search rules in
    let h : to_z w32 (of_z w32 c.args.side) ≡ c.args.side = search rules in
    let f = fixes_at (g.F.Family.meaning s.family) (nodes_of s.inner.frontier) (Ok (c.in_ok-row.row, c.in_ok-row.side)) e h c.in_ok-row.ensures in
    split_done g.F.Family.meaning s c.args.row c.args.side c.in_ok-row.row c.in_ok-row.side c.split.new.self f c.split.ensures
