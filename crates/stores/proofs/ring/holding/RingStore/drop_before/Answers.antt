use Rattle.std.proofs.Common.{◌∙◌, sym}
use Rattle.stores.specs.Ring.{ring_model, model_of}
use Rattle.stores.specs.Holding.{drop_is}
use Rattle.stores.specs.Verdicts.{after_dropped}
use Rattle.stores.proofs.Ringed.{heads_of}
use Rattle.stores.proofs.ring.holding.RingStore.drop_before.Goals as goal

pub returns-clause-after : goal.returns-clause-after
returns-clause-after c =
    let s = c.args.self.now in
    let g = s.grid in
    let e = c.raise_to.ensures in
    let n = c.raise_to.new.self.grid.words.items in
    (λ i. ring_model (e.same.0 i) (e.same.1 i) (e.floor i) n)
    ∙ (drop_is g.rows g.span s.floor g.words.items g.spans.0 (heads_of s) c.max.result c.args.day n c.max.ensures e.means
    ∙ sym (after_dropped (model_of s) c.args.day (sym (c.in_ok-check_day.ensures))))
