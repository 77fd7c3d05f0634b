use Rattle.std.proofs.Common.{ℕ, List, sym, subst}
use Rattle.stores.specs.Journals.{LaidOut, rows_of, model_of}
use Rattle.stores.specs.Standing.{laid_out}
use Rattle.stores.specs.Meant.{standing}
use Rattle.stores.proofs.journal.Journal.memory.Goals as goal

pub returns-clause-layout : goal.returns-clause-layout
returns-clause-layout c =
    let j = c.args.self.now in
    let P : List ℕ → Type 0 = λ bs. LaidOut bs (rows_of j) (model_of j) in
    subst P (sym c.as_slice.ensures.value) (laid_out _ _ _ _ _ (standing j))
