use Rattle.std.proofs.Common.{◌∙◌, ap, not, nat_eq, bit_and}
use Rattle.ledger.proofs.DayBits.{kind_bit}
use Rattle.ledger.proofs.days.has_kind.Goals as goal

pub returns : goal.returns
returns c = ap (λ k. not (nat_eq (bit_and c.args.kinds k) 0)) c.number.ensures ∙ kind_bit c.args.kinds c.args.kind
