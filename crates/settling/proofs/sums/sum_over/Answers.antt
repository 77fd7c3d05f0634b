use Rattle.std.proofs.Common.{ℤ, ap, ◌∙◌, arith}
use Rattle.std.proofs.lemmas.Int.{ints}
use Rattle.settling.specs.declared.history_day.HistoryDay.{HistoryDay}
use Rattle.ledger.specs.Words.{at, worth, total}
use Rattle.settling.proofs.Totals.{sum_next, sum_end}
use Rattle.settling.proofs.sums.sum_over.Goals as goal

pub loop-day-preserved : goal.loop-day-preserved
loop-day-preserved c =
    let f : HistoryDay → ℤ = λ x. worth (at x.curve c.args.quarter) in
    let xs = c.as_slice-day-items.result.now in
    let n = c.loop-day.invariant.within in
    let v = c.worth_at-sum.ensures.within in
    record {
      value = sum_next f xs c.loop-day.day-index c.day-item.result (total f xs) _ c.worth_at-sum.result _ (omega arith) c.loop-day.invariant.value (c.worth_at-sum.ensures.value ∙ ap f c.day-item.is) (omega (arith, ints));
      within = record { low = omega (arith, ints); high = omega (arith, ints) };
    }

pub returns : goal.returns
returns c =
    let f : HistoryDay → ℤ = λ x. worth (at x.curve c.args.quarter) in
    let xs = c.as_slice-day-items.result.now in
    let n = c.loop-day.invariant.within in
    record {
      value = sum_end f xs c.loop-day.day-index (total f xs) _ c.loop-day-test.false c.loop-day.invariant.value ∙ ap (total f) c.as_slice-day-items.ensures.value;
      within = record { low = omega (arith, ints); high = omega (arith, ints) };
    }
