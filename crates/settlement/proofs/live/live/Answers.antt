use Rattle.std.proofs.Common.{rules, arith}
use Rattle.ledger.specs.Book.{fresh}
use Rattle.ledger.proofs.Two.{two_lives, second}
use Rattle.ledger.proofs.Bounds.{bounds}
use Rattle.ledger.proofs.Mean.{mean_guaranteed}
use Rattle.ledger.proofs.Evidence.{history}
use Rattle.ledger.proofs.Months.{pay_bounded, month_apart}
use Rattle.settlement.proofs.Turns.{in_front}
use Rattle.settlement.proofs.live.live.Goals as goal

pub returns-then-calls-answers : goal.returns-then-calls-answers
returns-then-calls-answers g c = record {
  refused = search rules;
  answers = search rules;
  book = search rules;
  second = λ h. absurd (omega arith);
  lives = two_lives;
  bounds = bounds;
  mean = mean_guaranteed;
  history = history;
  pay = pay_bounded;
  months = month_apart;
}

pub returns : goal.returns
returns g c =
    let b = fresh c.args.terms (g.S.Store.model c.args.store) (g.R.Rulebook.rules c.args.rules) in
    record {
      refused = search rules;
      answers = search rules;
      book = search rules;
      second = λ h. second c.args.terms _ _ c.args.calls.now _ (in_front b c.args.calls.now c.args.answers.now _ (search rules));
      lives = two_lives;
      bounds = bounds;
      mean = mean_guaranteed;
      history = history;
      pay = pay_bounded;
      months = month_apart;
    }
