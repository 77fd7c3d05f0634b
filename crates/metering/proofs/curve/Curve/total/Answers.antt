use Rattle.std.proofs.Common.{◌≡◌, ◌<◌, true, length, drop, ◌+ℤ◌, sym, ap, ◌∙◌, arith}
use Rattle.std.proofs.lemmas.Int.{ints}
use Rattle.metering.specs.Readings.{within, reading_in}
use Rattle.metering.specs.Summary.{total_of}
use Rattle.metering.proofs.Peaks.{part_to, part_from, total_more}
use Rattle.metering.proofs.curve.Curve.total.Goals as goal

pub loop-reading-preserved : goal.loop-reading-preserved
loop-reading-preserved c =
    let rs = c.readings-reading-items.result.now in
    let q = c.loop-reading.reading-index in
    let l = ap length c.readings-reading-items.ensures ∙ c.args.self.now.whole in
    let h : q < 96 = omega arith in
    let w : within (reading_in rs q) ≡ true = ap (λ x. within (reading_in x q)) c.readings-reading-items.ensures ∙ c.args.self.now.limited q h in
    let hi = part_to (reading_in rs q) w in
    let lo = part_from (reading_in rs q) w in
    let m = c.counted-total.ensures in
    let t : c.loop-reading.total +ℤ total_of (drop q rs) ≡ total_of rs = ap (λ z. z +ℤ total_of (drop q rs)) (sym c.loop-reading.total-is) ∙ c.loop-reading.invariant.0 in
    let n = total_more rs q c.loop-reading.total (omega arith) t in
    let i = c.loop-reading.invariant.1 in
    let j = c.loop-reading.invariant.2 in
    (omega (arith, ints), omega (arith, ints), omega (arith, ints))
