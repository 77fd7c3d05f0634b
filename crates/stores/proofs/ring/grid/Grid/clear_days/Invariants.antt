use Rattle.std.proofs.Common.{◌≡◌, ◌+◌}
use Rattle.stores.specs.Model.{cut_under}
use Rattle.stores.specs.Slots.{Means, ring_look}
use Rattle.stores.proofs.ring.grid.Grid.clear_days.Given as goal

abbrev pub invariant-loop-day : goal.invariant-loop-day
invariant-loop-day l = record {
  means : Means l.initial.self.rows l.initial.self.span l.day (l.floor + l.initial.self.span) l.self.words.items (cut_under l.day (ring_look l.initial.self.rows l.initial.self.span l.initial.self.words.items));
  same : (l.self.rows ≡ l.initial.self.rows) × (l.self.span ≡ l.initial.self.span);
  idle : l.initial.self.rows ≡ 0 → l.self.words.items ≡ l.initial.self.words.items;
}
