use Rattle.std.proofs.Common.{leb, get_or, arith}
use Rattle.std.proofs.lemmas.Bool.{and_left, and_right, lt-leb}
use Rattle.ledger.proofs.Fitting.{rise_step, rise_all, rise_ends}
use Rattle.ledger.proofs.feasts.making.are_rising.Goals as goal
use Rattle.ledger.proofs.feasts.making.are_rising.Goals.{then-day-first-via-then-day-first, then-day-first-via-else-day-first+then-day-gt-LAST_DAY}

pub returns-then-day-first : goal.returns-then-day-first
returns-then-day-first c =
    let first = c.loop-day.first in
    let day = get_or c.args.days.now c.loop-day.day-index 0 in
    rise_ends first c.args.days.now c.loop-day.day-index c.loop-day-test.true
    (elim c.then-day-first.branch [
      | then-day-first-via-then-day-first w ↦ and_left (leb first day) (leb day 36524) (lt-leb first day w.if-day-first.true)
      | then-day-first-via-else-day-first+then-day-gt-LAST_DAY w ↦ and_right (leb first day) (leb day 36524) (lt-leb day 36524 w.if-day-gt-LAST_DAY.true)
    ])
    c.loop-day.invariant.1

pub loop-day-preserved : goal.loop-day-preserved
loop-day-preserved c = (omega arith, rise_step c.loop-day.first c.args.days.now c.loop-day.day-index c.loop-day-test.true (omega arith) (omega arith) c.loop-day.invariant.1)

pub returns : goal.returns
returns c = rise_all c.loop-day.first c.args.days.now c.loop-day.day-index (omega arith) c.loop-day.invariant.1
