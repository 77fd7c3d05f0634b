use Rattle.std.proofs.Common.{◌∙◌, rules}
use Rattle.ledger.specs.Words.{at, worth}
use Rattle.settling.proofs.Totals.{held_low}
use Rattle.settling.proofs.context.OrderContext.lead_on.Goals as goal

pub returns-clause-value : goal.returns-clause-value
returns-clause-value g c =
    held_low c.lead_sum.result c.lead_sum.ensures.within ∙ c.lead_sum.ensures.value (λ q. worth (at c.args.curve.now q)) (λ q z h p. search rules)
