use Rattle.ledger.proofs.Two.{two_lives}
use Rattle.ledger.proofs.Bounds.{bounds}
use Rattle.ledger.proofs.Mean.{mean_guaranteed}
use Rattle.ledger.proofs.Evidence.{history}
use Rattle.ledger.proofs.Months.{pay_bounded, month_apart}
use Rattle.ledger.proofs.laws.laws_stand.Goals as goal

pub returns : goal.returns
returns c = record { lives = two_lives; bounds = bounds; mean = mean_guaranteed; history = history; pay = pay_bounded; months = month_apart }
