use Rattle.std.proofs.Common.{◌≡◌, ◌≤◌, drop}
use Rattle.ledger.specs.Filling.{rise_from}
use Rattle.ledger.proofs.feasts.making.are_rising.Given as goal

abbrev pub invariant-loop-day : goal.invariant-loop-day
invariant-loop-day l = (l.first ≤ 36525) × (rise_from l.first (drop l.day-index l.days) ≡ rise_from 0 l.days)
