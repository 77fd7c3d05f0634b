use Rattle.std.proofs.Common.{◌≡◌, ℕ, ◌-◌, Bool, ◌++◌, length, take}
use Rattle.settling.specs.History.{Kept, days_of, fits, passing}
use Rattle.settling.proofs.context.OrderContext.latest.Given as goal

abbrev pub invariant-loop : goal.invariant-loop
invariant-loop g l =
    let held = (g.S.Store.model l.self.store.now).look l.one.number in
    let t : ℕ → Bool = fits l.self.terms.now held l.self.booked.now l.self.order in
    record {
      days : days_of l.history.items ++ take (l.n - l.counter) (passing t l.low l.before) ≡ take l.n (passing t l.low l.self.order.day);
      count : length l.history.items ≡ l.counter;
      curves : Kept held l.history.items;
    }
