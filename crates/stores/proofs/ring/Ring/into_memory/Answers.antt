use Rattle.stores.proofs.OneLayout.{layout_one}
use Rattle.stores.proofs.Ringed.{pinned}
use Rattle.stores.proofs.ring.Ring.into_memory.Goals as goal

pub returns-clause-layout : goal.returns-clause-layout
returns-clause-layout c = pinned c.args.self

pub returns-clause-one : goal.returns-clause-one
returns-clause-one c = layout_one
