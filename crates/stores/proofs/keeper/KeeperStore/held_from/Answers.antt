use Rattle.std.proofs.Common.{sym, ◌∙◌}
use Rattle.stores.specs.Keeping.{kept_held}
use Rattle.stores.proofs.keeper.KeeperStore.held_from.Goals as goal

pub returns : goal.returns
returns g c = c.held_from.ensures ∙ sym (kept_held c.args.self.now.span (g.S.Store.model c.args.self.now.below) c.args.day)
