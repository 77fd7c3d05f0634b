use Rattle.std.proofs.Common.{◌≡◌, ◌+◌, ◌*◌, ◌<◌, ◌∷◌, ◌++◌, length, get_or, take, drop, pos, ap, arith}
use Rattle.metering.specs.declared.reading.Reading.TheVariants.{Measured}
use Rattle.stores.specs.Rows.{two, reading_bytes}
use Rattle.stores.proofs.Writing.{one_more}
use Rattle.stores.proofs.journal.rows.write_row.Goals as goal

pub loop-i-preserved : goal.loop-i-preserved
loop-i-preserved c =
    let i = c.loop-i.i in
    let at = 3 + 4 * i in
    let rs = c.args.curve.now.readings in
    let r = c.readings-reading-items.ensures in
    let v = get_or c.readings-reading-items.result.now i (Measured (pos 0)) in
    let e : c.put_reading.new.row ≡ take at c.loop-i.row ++ (reading_bytes v ++ drop (at + 4) c.loop-i.row) = c.put_reading.ensures in
    let w = c.args.curve.now.whole in
    let lt : i < length rs = omega (arith, ap length r, c.loop-i-test.true) in
    one_more c.loop-i.row _ (c.args.resource ∷ two c.args.day) rs at (3 + 4 * (i + 1)) i (Measured (pos 0)) v
    e (ap (λ xs. get_or xs i (Measured (pos 0))) r) (omega arith) lt (omega arith) c.loop-i.invariant
