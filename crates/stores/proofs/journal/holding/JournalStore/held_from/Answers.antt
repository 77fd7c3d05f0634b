use Rattle.std.proofs.Common.{sym, refl, ◌∙◌}
use Rattle.stores.specs.Journals.{rows_of, model_of}
use Rattle.stores.specs.Counted.{counted}
use Rattle.stores.proofs.journal.holding.JournalStore.held_from.Goals as goal

pub returns : goal.returns
returns c =
    let s = c.args.self.now in
    c.count_from.ensures ∙ sym (counted (model_of s) (rows_of s) s.floor c.args.day refl s.single s.good)
