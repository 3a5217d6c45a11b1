use Rattle.std.proofs.Common.{◌≡◌, length, refl, rules}
use Rattle.problem.specs.Calls.{data_of}
use Rattle.problem.specs.Listings.{listed_row}
use Rattle.file.proofs.Placings.{rows_turn, rows_written, long_enough}
use Rattle.file.proofs.writing.write_as.Goals as goal

pub loop-i-preserved : goal.loop-i-preserved
loop-i-preserved g c =
    let eleven : length c.row_list.result ≡ 11 = search rules in
    rows_turn _ _ _ _ (listed_row (data_of c.args.draft.now)) c.loop-i.i c.loop-i.invariant c.put_row.ensures c.row_list.ensures eleven

pub returns : goal.returns
returns g c =
    let ten : length c.header_list.result ≡ 10 = search rules in
    record {
      answer = long_enough (length c.args.place.now) c.row_count-m.ensures.value c.if-place-m.false;
      written = rows_written _ _ _ c.loop-i.i (listed_row (data_of c.args.draft.now)) c.row_count-m.ensures.value refl c.header_list.ensures
          c.loop-i-test.false c.loop-i.auto.i-end ten c.put_head.ensures c.loop-i.invariant;
    }
