use Rattle.std.proofs.Common.{rules}
use Rattle.stores.specs.Slots.{word_at}
use Rattle.stores.specs.Words.{reading_from, curve_from}
use Rattle.stores.proofs.Filled.{filled}
use Rattle.stores.proofs.ring.grid.Grid.curve_at.Goals as goal

pub returns : goal.returns
unfolding curve_from
returns c = filled _ (λ q. reading_from (word_at c.args.self.now.words.items c.args.base q)) _ _ c.from_fn.ensures (λ x r q l k. search rules)
