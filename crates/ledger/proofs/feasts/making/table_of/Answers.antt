use Rattle.std.proofs.Common.{arith, length-append, length-drop}
use Rattle.std.proofs.Math.Seq.{take-append_seam}
use Rattle.ledger.proofs.feasts.making.table_of.Goals as goal

pub returns-clause-held : goal.returns-clause-held
returns-clause-held c = rw c.copy_from_slice.ensures.after (take-append_seam c.args.days.now _)

pub returns-clause-places : goal.returns-clause-places
returns-clause-places c = rw c.copy_from_slice.ensures.after (simp (length-append, length-drop) (omega arith))
