-- What the table of orders holds.
use Rattle.std.specs.Prelude.{ℕ, List}
use Rattle.ledger.specs.declared.records.Order.{Order}
use Rattle.ledger.specs.declared.records.Booked.{Booked}
use Rattle.ledger.specs.Words.{Granted, ◌>>=◌}
use Rattle.ledger.specs.Book.{numbered, unsettled}
use Rattle.settlement.specs.declared.tables.OrderTable.{OrderTable}

abbrev pub orders_held : OrderTable → List Booked
orders_held t = t.orders.items

-- the order of a number that is still to be settled
abbrev pub unsettled_in : List Booked → ℕ → Granted Order
unsettled_in bs k = numbered bs k >>= (λ a. unsettled a a.result)
