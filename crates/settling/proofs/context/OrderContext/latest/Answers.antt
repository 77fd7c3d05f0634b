use Rattle.std.proofs.Common.{◌≡◌, ℕ, ◌<◌, Bool, length, sym, ap, ◌∙◌, arith}
use Rattle.ledger.specs.Settling.{latest as latest_of}
use Rattle.settling.specs.History.{fits}
use Rattle.settling.proofs.Search.{added_count, found_more, found_short, found_all, latest_few, latest_are, kept_more, length_days}
use Rattle.settling.proofs.context.OrderContext.latest.Goals as goal

pub returns-in_default : goal.returns-in_default
returns-in_default g c =
    let held = (g.S.Store.model c.args.self.now.store.now).look c.args.one.number in
    let o = c.args.self.now.order in
    let t : ℕ → Bool = fits c.args.self.now.terms.now held c.args.self.now.booked.now o in
    let low = c.saturating_sub-low.result in
    let k = c.loop.counter in
    let e = found_short t _ _ c.days_needed-n.result k low c.loop.before c.in_default.ensures.none c.loop.invariant.days in
    let count : length c.loop.history.items ≡ c.len.result = sym (ap length c.in_default.ensures.same) ∙ sym c.len.ensures.value in
    let few : c.len.result < c.days_needed-n.result = omega (arith, c.loop.invariant.count, c.loop-test.true, count) in
    let x = latest_few c.args.one.number c.days_needed-n.result t o.day low c.len.result _ c.saturating_sub-low.ensures e (length_days _ c.len.result count) few in
    record { days = x ∙ ap (λ (n : ℕ). latest_of c.args.one.number n t o.day) c.days_needed-n.ensures.days; curves = tt }

pub loop-preserved : goal.loop-preserved
loop-preserved g c =
    let held = (g.S.Store.model c.args.self.now.store.now).look c.args.one.number in
    let o = c.args.self.now.order in
    let t : ℕ → Bool = fits c.args.self.now.terms.now held c.args.self.now.booked.now o in
    let low = c.saturating_sub-low.result in
    let n = c.days_needed-n.result in
    let k = c.loop.counter in
    let xs = c.loop.history.items in
    let ys = c.next_day.new.history.items in
    let d = c.in-Some.next in
    let next = c.in-Some.ensures in
    let more = added_count held d xs ys next.added in
    let count = c.loop.invariant.count in
    record {
      days = found_more t held xs ys _ n k low c.loop.before d (omega arith) c.loop.invariant.days next.rest next.added;
      count = omega arith;
      curves = kept_more held d xs ys c.loop.invariant.curves next.added;
    }

pub returns : goal.returns
returns g c =
    let held = (g.S.Store.model c.args.self.now.store.now).look c.args.one.number in
    let o = c.args.self.now.order in
    let t : ℕ → Bool = fits c.args.self.now.terms.now held c.args.self.now.booked.now o in
    let low = c.saturating_sub-low.result in
    let n = c.days_needed-n.result in
    let count = c.loop.invariant.count in
    let e = found_all t _ _ n c.loop.counter low c.loop.before (omega arith) c.loop.invariant.days in
    let x = latest_are c.args.one.number n t o.day low _ c.saturating_sub-low.ensures e (length_days _ n (omega arith)) in
    record { days = x ∙ ap (λ (m : ℕ). latest_of c.args.one.number m t o.day) c.days_needed-n.ensures.days; curves = c.loop.invariant.curves }
