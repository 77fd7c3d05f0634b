use Rattle.std.proofs.Common.{ℕ, refl, ◌∙◌, rules, arith}
use Rattle.std.proofs.lemmas.Iterator.{YieldsList-from_range, YieldsList-from_map}
use Rattle.std.proofs.lemmas.Iterator.Consumers.{YieldsList-at, sum_from_yields_List, fits_from_yields_list}
use Rattle.stores.specs.Model.{sum_below}
use Rattle.stores.specs.Slots.{ring_look}
use Rattle.stores.specs.Counts.{sum_at_most}
use Rattle.stores.specs.Days.{held_at}
use Rattle.stores.specs.Holding.{held_at_most}
use Rattle.stores.proofs.Counting.{sum_over}
use Rattle.stores.proofs.ring.grid.Grid.count.Goals as goal

pub sum-requires-clause-fits : goal.sum-requires-clause-fits
sum-requires-clause-fits c =
    let g = c.args.self.now in
    let n = g.rows in
    let h : ℕ → ℕ = λ r. sum_below (held_at c.args.first (ring_look g.rows g.span g.words.items r)) c.args.end in
    let few = sum_at_most h 36525 n (λ r l. let e = sum_at_most (held_at c.args.first (ring_look g.rows g.span g.words.items r)) 1 c.args.end (λ k m. held_at_most c.args.first (ring_look g.rows g.span g.words.items r) k) in omega arith) in
    let s = sum_over h n in
    fits_from_yields_list c.map.result _
    (YieldsList-from_map _ h (YieldsList-at c.map.ensures.source (YieldsList-from_range 0 n n refl (omega arith))) c.map.ensures.closure (λ x r q k. search rules)) (omega arith)

pub returns : goal.returns
returns c =
    let g = c.args.self.now in
    let n = g.rows in
    let h : ℕ → ℕ = λ r. sum_below (held_at c.args.first (ring_look g.rows g.span g.words.items r)) c.args.end in
    sum_from_yields_List c.map.result _ c.sum.ensures.ran
    (YieldsList-from_map _ h (YieldsList-at c.map.ensures.source (YieldsList-from_range 0 n n refl (omega arith))) c.map.ensures.closure (λ x r q k. search rules))
    ∙ sum_over h n
