use Rattle.std.proofs.Common.{sym, ◌∙◌}
use Rattle.ledger.proofs.Fitting.{table_days, table_rises}
use Rattle.ledger.proofs.feasts.Feasts.new.Goals as goal

pub invariant_of-result-clause-in_range : goal.invariant_of-result-clause-in_range
invariant_of-result-clause-in_range c = table_days c.table_of.result c.args.days.now c.table_of.ensures.held (sym c.are_rising.ensures ∙ c.if-not-are_rising.false)

pub invariant_of-result-clause-rising : goal.invariant_of-result-clause-rising
invariant_of-result-clause-rising c = table_rises c.table_of.result c.args.days.now c.table_of.ensures.held (sym c.are_rising.ensures ∙ c.if-not-are_rising.false)
