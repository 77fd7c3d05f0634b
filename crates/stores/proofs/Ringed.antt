-- What a ring's own facts say of its words.
use Rattle.std.proofs.Common.{◌+◌, ◌<◌, sym, ◌∙◌}
use Rattle.stores.specs.declared.ring.Ring.{Ring}
use Rattle.stores.specs.Slots.{HeadsFit}
use Rattle.stores.specs.Ring.{Pinned, model_of, words_of}
use Rattle.stores.specs.Tested.{heads_each, words_each, some_rows}
use Rattle.stores.proofs.Pinning.{laid_out}

pub heads_of : (s : Ring) → HeadsFit s.grid.rows s.grid.span s.floor (s.floor + s.grid.span) (words_of s)
heads_of s = heads_each s.grid.rows s.grid.span s.floor (s.floor + s.grid.span) (words_of s) s.heads

pub pinned : (s : Ring) → Pinned (model_of s) (words_of s)
pinned s h =
    let g = s.grid in
    let p : 0 < g.rows = some_rows g.rows g.span h in
    laid_out g.rows g.span s.floor (words_of s) g.spans.0 p (sym g.words.ok.0 ∙ g.exact p) (heads_of s) (words_each g.rows g.span (words_of s) g.readings)
