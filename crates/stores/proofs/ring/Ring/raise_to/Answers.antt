use Rattle.std.proofs.Common.{refl}
use Rattle.stores.specs.Tested.{each_heads_as}
use Rattle.stores.proofs.Ringed.{heads_of}
use Rattle.stores.proofs.ring.Ring.raise_to.Goals as goal

pub clear_days-requires-clause-heads : goal.clear_days-requires-clause-heads
clear_days-requires-clause-heads c = heads_of c.args.self.now

pub invariant_of-self : goal.invariant_of-self
invariant_of-self c =
    let e = c.clear_days.ensures in
    record { low = c.requires.last; heads = each_heads_as _ _ c.args.to _ _ _ _ e.same.0 e.same.1 refl e.means.heads }
