use Rattle.std.proofs.Common.{◌∙◌, rules}
use Rattle.settling.specs.History.{summed_in}
use Rattle.settling.proofs.Totals.{held_low}
use Rattle.settling.proofs.context.OrderContext.lead_over.Goals as goal

pub returns-clause-value : goal.returns-clause-value
returns-clause-value g c =
    held_low c.lead_sum.result c.lead_sum.ensures.within ∙ c.lead_sum.ensures.value (summed_in c.args.history.now.items) (λ q z h p. search rules)
