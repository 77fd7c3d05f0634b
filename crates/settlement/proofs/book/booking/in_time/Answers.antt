use Rattle.std.proofs.Common.{◌≡◌, Option, true, ◌∙◌, ap, rules}
use Rattle.std.specs.Option.{option_map_or, option_copied}
use Rattle.ledger.specs.declared.records.Booked.{Booked}
use Rattle.ledger.specs.Days.{rests_before}
use Rattle.settlement.proofs.Walks.{in_time_lem}
use Rattle.settlement.proofs.book.booking.in_time.Goals as goal

pub returns : goal.returns
returns c =
    let e : c.is_none_or.result ≡ option_map_or (λ (a : Booked). rests_before a.order c.args.order) (option_copied c.last.result) true = search rules in
    e ∙ (ap (λ (a : Option Booked). option_map_or (λ (b : Booked). rests_before b.order c.args.order) a true) c.last.ensures.value ∙ in_time_lem c.args.orders.now c.args.order)
