use Rattle.std.proofs.Common.{refl, ◌-◌, ◌∙◌, rules}
use Rattle.std.proofs.lemmas.Iterator.{YieldsList-from_range}
use Rattle.std.proofs.lemmas.Iterator.Search.{all_from_yields_List}
use Rattle.metering.specs.Readings.{reading_at}
use Rattle.settling.proofs.Search.{is_number, measured_all}
use Rattle.settling.proofs.context.OrderContext.is_clean.Goals as goal

pub returns : goal.returns
returns g c =
    let curve = c.args.curve.now in
    let o = c.args.self.now.order in
    all_from_yields_List (λ q. is_number (reading_at curve.readings q)) _ _ _ c.all.ensures.ran (YieldsList-from_range (o.q0 - 8) o.q1 (o.q1 - (o.q0 - 8)) refl refl) (λ q b f e. search rules)
    ∙ measured_all curve o c.args.self.now.placed
