use Rattle.rulebooks.specs.JoinedLaws.{bank_laws}
use Rattle.rulebooks.proofs.bank.Bank.new.Goals as goal

pub returns-clause-laws : goal.returns-clause-laws
returns-clause-laws g c = bank_laws
