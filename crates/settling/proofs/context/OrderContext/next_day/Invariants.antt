use Rattle.std.proofs.Common.{◌≡◌, ℕ, Bool}
use Rattle.settling.specs.History.{fits, passing}
use Rattle.settling.proofs.context.OrderContext.next_day.Given as goal

abbrev pub invariant-loop-day : goal.invariant-loop-day
invariant-loop-day g l =
    let t : ℕ → Bool = fits l.self.terms.now ((g.S.Store.model l.self.store.now).look l.resource) l.self.booked.now l.self.order in
    record {
      rest : passing t l.low l.before ≡ passing t l.low l.day;
      same : l.history.items ≡ l.initial.history.items;
    }
