use Rattle.std.proofs.Common.{◌∙◌, rules}
use Rattle.std.proofs.lemmas.Iterator.{YieldsList-from_slice}
use Rattle.std.proofs.lemmas.Iterator.Search.{all_from_yields_List}
use Rattle.ledger.specs.declared.records.Booked.{Booked}
use Rattle.ledger.specs.Standing.{is_modest}
use Rattle.monthly.proofs.Modest.{all_modest}
use Rattle.monthly.proofs.month.are_modest.Goals as goal

pub returns : goal.returns
returns c =
    all_from_yields_List (λ (b : Booked). is_modest b.result) _ _ _ c.all.ensures.ran (YieldsList-from_slice c.args.orders.now cc) (λ x b q k. search rules)
    ∙ all_modest c.args.orders.now
