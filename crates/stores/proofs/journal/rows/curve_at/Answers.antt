use Rattle.std.proofs.Common.{◌+◌, ◌*◌, rules}
use Rattle.stores.specs.Rows.{reading_from, word_at}
use Rattle.stores.proofs.Filled.{filled}
use Rattle.stores.proofs.journal.rows.curve_at.Goals as goal

pub returns : goal.returns
returns c = filled _ (λ q. reading_from (word_at c.args.bytes.now (c.args.at + 3 + 4 * q))) _ _ c.from_fn.ensures (λ x r q l k. search rules)
