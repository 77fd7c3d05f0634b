use Rattle.std.proofs.Common.{◌≡◌, true, List, sym, refl, ◌∙◌, subst, rules}
use Rattle.ledger.specs.declared.records.Order.{Order}
use Rattle.ledger.specs.declared.records.Booked.{Booked}
use Rattle.ledger.specs.Standing.{are_standing}
use Rattle.settlement.specs.Tables.{orders_held}
use Rattle.settlement.proofs.Standing.{standing_more, placed_booked}
use Rattle.settlement.proofs.Walks.{length_orders}
use Rattle.settlement.proofs.book.Book.book.Goals as goal

pub returns-then-is_full : goal.returns-then-is_full
returns-then-is_full g c = let h = length_orders (orders_held c.args.self.now.orders) in search (rules, h)

pub invariant_of-self-clause-standing : goal.invariant_of-self-clause-standing
invariant_of-self-clause-standing g c =
    let o : Order = record { day = c.args.day; q0 = c.args.q0; q1 = c.args.q1; direction = c.in_ok-direction.direction; qr = c.args.qr } in
    let p = placed_booked c.args.self.now.terms o (sym c.order_fits.ensures ∙ c.if-not-order_fits.false) (sym c.is_inside.ensures ∙ c.if-not-is_inside.false) in
    subst (λ (l : List Booked). are_standing l ≡ true) (sym c.push.ensures) (standing_more (orders_held c.args.self.now.orders) _ c.args.self.now.standing p refl)

pub returns : goal.returns
returns g c = let h = length_orders (orders_held c.args.self.now.orders) in search (rules, h)
