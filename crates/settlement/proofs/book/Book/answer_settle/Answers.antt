use Rattle.ledger.specs.Book.{settlement}
use Rattle.settlement.specs.Meant.{meaning}
use Rattle.settlement.proofs.Steps.{settle_answer}
use Rattle.settlement.proofs.book.Book.answer_settle.Goals as goal

pub returns-in-Ok-clause-answer : goal.returns-in-Ok-clause-answer
returns-in-Ok-clause-answer g c =
    let b = meaning g.S.Store.model g.R.Rulebook.rules c.args.self.now in
    settle_answer b c.args.order _ _ (settlement b c.args.order 608) c.in-Ok.ensures.answer c.settle.ensures.rows
