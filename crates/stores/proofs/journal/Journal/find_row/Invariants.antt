use Rattle.std.proofs.Common.{◌*◌}
use Rattle.stores.specs.Rows.{row_at, is_of}
use Rattle.stores.proofs.Ends.{Ends}
use Rattle.stores.proofs.journal.Journal.find_row.Given as goal

abbrev pub invariant-loop-first : goal.invariant-loop-first
invariant-loop-first l = Ends (λ i. is_of l.resource l.day (row_at l.bytes (387 * i))) l.self.rows l.first
