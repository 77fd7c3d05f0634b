use Rattle.std.proofs.Common.{◌∙◌}
use Rattle.ledger.specs.Feasts.{days_of}
use Rattle.ledger.proofs.Among.{among_any}
use Rattle.ledger.proofs.feasts.Feasts.contains.Goals as goal

pub returns : goal.returns
returns c = c.contains.ensures.value ∙ among_any (days_of c.args.self.now) c.args.day
