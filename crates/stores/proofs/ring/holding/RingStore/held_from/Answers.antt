use Rattle.std.proofs.Common.{refl}
use Rattle.stores.specs.Holding.{count_at}
use Rattle.stores.proofs.Ringed.{heads_of}
use Rattle.stores.proofs.ring.holding.RingStore.held_from.Goals as goal

pub returns : goal.returns
returns c =
    let s = c.args.self.now in
    let g = s.grid in
    let ws = g.words.items in
    count_at g.rows g.span s.floor ws g.spans.0 (heads_of s)
    c.args.day c.count.result c.max.result c.min-end.result ws
    c.count.ensures refl c.max.ensures c.min-end.ensures
