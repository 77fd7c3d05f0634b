use Rattle.std.proofs.Common.{◌≡◌, ℕ, ◌*◌, length, drop}
use Rattle.ledger.specs.declared.records.Resource.{Resource}
use Rattle.ledger.specs.Words.{Granted, each}
use Rattle.ledger.specs.Settling.{Part, part, numbered_from}
use Rattle.ledger.specs.Book.{orders_in, busy_on}
use Rattle.settling.specs.History.{Near}
use Rattle.settling.proofs.SheetRows.{Along}
use Rattle.settling.proofs.context.OrderContext.settle_all.Given as goal

abbrev pub invariant-loop-number : goal.invariant-loop-number
invariant-loop-number g l =
    let f : ℕ × Resource → Granted Part = λ x. part l.self.terms.now (g.R.Rulebook.rules l.self.rules.now) ((g.S.Store.model l.self.store.now).look x.0) (busy_on (orders_in l.self.booked.now)) l.self.order x.0 x.1 in
    record {
      along : Along f (each f (numbered_from 0 l.resources)) l.number (drop l.number l.resources) l.rows.items l.sum l.estimated;
      words : length l.rows.items ≡ 19 * l.number;
      within : Near (1056000000 * l.number) l.sum;
    }
