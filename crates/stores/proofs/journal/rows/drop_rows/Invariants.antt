use Rattle.stores.specs.Closing.{Closing}
use Rattle.stores.proofs.journal.rows.drop_rows.Given as goal

abbrev pub invariant-loop-i : goal.invariant-loop-i
invariant-loop-i l = Closing l.initial.bytes l.bytes l.left l.i l.day
