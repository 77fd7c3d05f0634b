use Rattle.std.proofs.Common.{◌∙◌, rules, tests}
use Rattle.std.proofs.lemmas.Iterator.{YieldsList-from_slice}
use Rattle.std.proofs.lemmas.Iterator.Search.{any_from_yields_List}
use Rattle.ledger.specs.declared.records.Declaration.{Declaration}
use Rattle.ledger.specs.Days.{declares}
use Rattle.monthly.proofs.Counted.{any_declared}
use Rattle.monthly.proofs.month.is_declared.Goals as goal

pub returns : goal.returns
returns c =
    any_from_yields_List (λ (x : Declaration). declares x c.args.day c.args.quarter) _ _ _ c.any.ensures.ran (YieldsList-from_slice c.args.declarations.now cc)
    (λ x b q k. search (rules, tests))
    ∙ any_declared c.args.declarations.now c.args.day c.args.quarter
