-- What every booked order keeps to.
use Rattle.std.specs.Prelude.{◌<◌, ◌≤◌}
use Rattle.ledger.specs.declared.records.Order.{Order}

pub record Placed (o : Order) : Type 0 where
  pub leads : 8 ≤ o.q0
  pub rises : o.q0 < o.q1
  pub ends : o.q1 ≤ 96
  pub day_to : o.day ≤ 36524
  pub power_to : o.qr ≤ 128000
