use Rattle.std.proofs.Common.{List, ℤ, sym, subst}
use Rattle.stores.specs.Ring.{Pinned, model_of}
use Rattle.stores.proofs.Ringed.{pinned}
use Rattle.stores.proofs.ring.Ring.memory.Goals as goal

pub returns-clause-layout : goal.returns-clause-layout
returns-clause-layout c =
    let s = c.args.self.now in
    let L : List ℤ → Type 0 = λ ws. Pinned (model_of s) ws in
    subst L (sym c.as_slice.ensures.value) (pinned s)
