use Rattle.std.proofs.Common.{◌≡◌, ℕ, ◌-◌, ◌*◌, ◌<◌, ℤ, ◌+ℤ◌}
use Rattle.ledger.specs.Words.{lead, total, counting}
use Rattle.settling.specs.History.{Near}
use Rattle.settling.proofs.context.OrderContext.lead_sum.Given as goal

abbrev pub invariant-loop-quarter : goal.invariant-loop-quarter
invariant-loop-quarter g l = record {
  value : (of : ℕ → ℤ) → ((q : ℕ) (z : ℤ) → q < 96 → goal.F-post g l.counted q z → z ≡ of q) → total of (lead l.self.order) ≡ l.sum +ℤ total of (counting l.quarter (l.self.order.q0 - l.quarter));
  within : Near (15000000 * (l.quarter - l.initial.quarter)) l.sum;
}
