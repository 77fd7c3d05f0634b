use Rattle.std.proofs.Common.{◌∙◌, ◌-◌, not, refl, rules}
use Rattle.std.proofs.lemmas.Iterator.{YieldsList-from_range}
use Rattle.std.proofs.lemmas.Iterator.Consumers.{YieldsList-from_filter, count_from_yields_List}
use Rattle.ledger.specs.Days.{is_declared}
use Rattle.monthly.proofs.Counted.{length_left}
use Rattle.monthly.proofs.month.offered_on.Goals as goal

pub returns-clause-count : goal.returns-clause-count
returns-clause-count c =
    let t = c.args.terms.now in
    let xs = c.args.declarations.now in
    count_from_yields_List _ _ c.count.ensures.ran
    (YieldsList-from_filter _ (λ q. not (is_declared xs c.args.day q)) (YieldsList-from_range t.w0 t.w1 (t.w1 - t.w0) c.filter.ensures.source refl) c.filter.ensures.closure (λ x b q k. search rules))
    ∙ length_left (is_declared xs c.args.day) t.w0 (t.w1 - t.w0)
