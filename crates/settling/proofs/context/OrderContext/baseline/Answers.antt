use Rattle.std.proofs.Common.{◌≡◌, sym, subst, rules}
use Rattle.rulebooks.specs.Rules.{answered}
use Rattle.ledger.specs.Settling.{ruled_at, direction_number}
use Rattle.settling.specs.History.{NearOf, summed_in}
use Rattle.settling.proofs.Totals.{near_answer}
use Rattle.settling.proofs.context.OrderContext.baseline.Goals as goal

pub returns-clause-within : goal.returns-clause-within
returns-clause-within g c =
    let m = c.args.measured.now in
    let R = g.R.Rulebook.rules c.args.self.now.rules.now in
    let v : c.map_err.result ≡ ruled_at m.one.number c.args.quarter (answered R m.one.resource.choice (direction_number c.args.self.now.order.direction) (summed_in m.history.now.items c.args.quarter) m.lead_then m.lead_now) = search rules in
    subst (NearOf 10000000) (sym v) (near_answer R (g.met.R.Rulebook.lawful c.args.self.now.rules.now) _ _ _ _ _ _ _)
