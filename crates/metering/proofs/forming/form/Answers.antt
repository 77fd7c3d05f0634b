use Rattle.std.proofs.Common.{◌≡◌, List, Some, rules, sym, ap, ◌∙◌}
use Rattle.metering.specs.declared.reading.Reading.{Reading}
use Rattle.metering.specs.Readings.{reading_in}
use Rattle.metering.proofs.Formed.{placed_more}
use Rattle.metering.proofs.forming.form.Goals as goal

pub loop-q-preserved : goal.loop-q-preserved
loop-q-preserved c k h =
    let f : c.formed.result ≡ Some c.in_ok-reading.reading = search rules in
    let m = placed_more c.args.injected.now c.args.drawn.now c.args.marks.now c.loop-q.curve.readings c.loop-q.q c.in_ok-reading.reading
    c.loop-q.curve.whole c.loop-q-test.true (sym f ∙ c.formed.ensures) c.loop-q.invariant k h in
    m ∙ ap (λ (x : List Reading). Some (reading_in x k)) (sym c.place.ensures)
