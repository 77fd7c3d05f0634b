use Rattle.std.proofs.Common.{◌≡◌, ℕ, ◌*◌, pos, Some, ◌∙◌, arith, rules}
use Rattle.rulebooks.specs.Rounding.{rounded}
use Rattle.settling.proofs.Energy.{pay_words}
use Rattle.settling.proofs.outcome.cents.Goals as goal

pub returns : goal.returns
returns c =
    let price = c.args.terms.now.energy_price in
    let n : ℕ = c.args.energy * c.args.terms.now.uf in
    let e : c.round_div.result ≡ Some (rounded (pos n) (pos 100000)) =
    c.round_div.ensures.value ∙ pay_words c.args.energy c.args.terms.now.uf c.from.result c.from-2.result c.from.ensures c.from-2.ensures (omega arith) price in
    search rules
