use Rattle.std.proofs.Common.{◌<◌, ltb, Some, Option, sym, ap, ◌∙◌}
use Rattle.std.proofs.lemmas.Bool.{cond-true, lt-ltb}
use Rattle.metering.specs.declared.curve.Curve.{Curve}
use Rattle.stores.specs.Model.{reading_held}
use Rattle.stores.specs.Encoding.{curve_reads}
use Rattle.stores.specs.Slots.{word_at}
use Rattle.stores.proofs.ring.holding.RingStore.reading.Goals as goal

pub returns : goal.returns
returns c =
    let q = c.args.quarter in
    let f = c.in_ok-base.ensures in
    let l : q < 96 = c.if-quarter-ge96.false in
    sym (ap (λ (o : Option Curve). reading_held o q) f.look
    ∙ (cond-true (ltb q 96) _ _ (lt-ltb q 96 l) ∙ ap Some (curve_reads (word_at c.args.self.now.grid.words.items c.in_ok-base.base) q f.limited l ∙ sym c.reading_at.ensures)))
