use Rattle.stores.specs.Standing.{laid_out}
use Rattle.stores.specs.Meant.{standing}
use Rattle.stores.proofs.journal.Journal.into_memory.Goals as goal

pub returns-clause-layout : goal.returns-clause-layout
returns-clause-layout c = laid_out _ _ _ _ _ (standing c.args.self)
