use Rattle.std.proofs.Common.{◌∙◌, rules}
use Rattle.settling.proofs.Histories.{found_is}
use Rattle.settling.proofs.context.OrderContext.settle_one.Goals as goal

pub returns-clause-value : goal.returns-clause-value
returns-clause-value g c =
    let held = (g.S.Store.model c.args.self.now.store.now).look c.args.one.number in
    let found = c.in_ok-latest.ensures in
    let today = c.in-Some-clean_curve.ensures in
    let e = c.by_history.ensures.value ∙ found_is c.args.self.now.terms.now (g.R.Rulebook.rules c.args.self.now.rules.now) held c.args.self.now.booked.now c.args.self.now.order c.args.one.number c.args.one.resource c.in-Some-clean_curve.today c.latest.new.history.items found.curves found.days in
    search rules
