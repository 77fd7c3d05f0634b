use Rattle.ledger.proofs.Figured.{book_figures}
use Rattle.ledger.proofs.Lined.{june_figures_lem}
use Rattle.ledger.proofs.laws.figures_stand.Goals as goal

pub returns : goal.returns
returns c = record { book = book_figures; june = june_figures_lem }
