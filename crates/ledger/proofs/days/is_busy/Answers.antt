use Rattle.std.proofs.Common.{◌==◌, ◌∙◌, rules, tests}
use Rattle.std.proofs.lemmas.Iterator.{YieldsList-from_slice}
use Rattle.std.proofs.lemmas.Iterator.Search.{any_from_yields_List}
use Rattle.ledger.specs.declared.records.Booked.{Booked}
use Rattle.ledger.proofs.Among.{busy_any}
use Rattle.ledger.proofs.days.is_busy.Goals as goal

pub returns : goal.returns
returns c =
    any_from_yields_List (λ (b : Booked). b.order.day == c.args.day) _ _ _ c.any.ensures.ran (YieldsList-from_slice c.args.orders.now cc) (λ x b q k. search (rules, tests))
    ∙ busy_any c.args.orders.now c.args.day
