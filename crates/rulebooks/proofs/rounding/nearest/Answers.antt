use Rattle.std.proofs.Common.{arith}
use Rattle.std.proofs.lemmas.Int.{to_z-of_z}
use Rattle.rulebooks.specs.Rounding.{rounded}
use Rattle.rulebooks.proofs.rounding.nearest.Goals as goal

pub returns : goal.returns
unfolding rounded
returns c = grind (arith, to_z-of_z)
