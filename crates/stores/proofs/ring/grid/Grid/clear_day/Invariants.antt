use Rattle.std.proofs.Common.{◌≡◌}
use Rattle.stores.specs.Slots.{DayCleared}
use Rattle.stores.proofs.ring.grid.Grid.clear_day.Given as goal

abbrev pub invariant-loop-resource : goal.invariant-loop-resource
invariant-loop-resource l = record {
  cleared : DayCleared l.resource l.initial.self.rows l.initial.self.span l.day l.initial.self.words.items l.self.words.items;
  same : (l.self.rows ≡ l.initial.self.rows) × (l.self.span ≡ l.initial.self.span);
  idle : l.initial.self.rows ≡ 0 → l.self.words.items ≡ l.initial.self.words.items;
}
