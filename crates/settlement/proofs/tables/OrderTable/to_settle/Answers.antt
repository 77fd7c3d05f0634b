use Rattle.std.proofs.Common.{◌≡◌, ◌∙◌, ap, subst, sym, List, true}
use Rattle.ledger.specs.declared.records.Booked.{Booked}
use Rattle.ledger.specs.Book.{unsettled}
use Rattle.ledger.specs.Standing.{are_standing}
use Rattle.settlement.specs.Tables.{orders_held}
use Rattle.settlement.proofs.Held.{unsettled_there, unsettled_past}
use Rattle.settlement.proofs.Standing.{placed_at}
use Rattle.settlement.proofs.tables.OrderTable.to_settle.Goals as goal

pub returns-in_default-clause-order : goal.returns-in_default-clause-order
returns-in_default-clause-order c = unsettled_past (orders_held c.args.self.now) _ c.args.number c.deref.ensures.0 c.in_default.ensures.lookup.3

pub returns-in-Some-result-clause-order : goal.returns-in-Some-result-clause-order
returns-in-Some-result-clause-order c =
    let a = c.in-Some.booked.now in
    let l = c.in-Some.ensures.lookup in
    sym (ap (unsettled a) c.in-Some-result.is) ∙ unsettled_there (orders_held c.args.self.now) _ c.args.number a c.deref.ensures.0 l.3.0 l.1

pub returns-in-None-clause-order : goal.returns-in-None-clause-order
returns-in-None-clause-order c =
    let a = c.in-Some.booked.now in
    let l = c.in-Some.ensures.lookup in
    sym (ap (unsettled a) c.in-None.is) ∙ unsettled_there (orders_held c.args.self.now) _ c.args.number a c.deref.ensures.0 l.3.0 l.1

pub returns-in-None-clause-placed : goal.returns-in-None-clause-placed
returns-in-None-clause-placed c =
    let l = c.in-Some.ensures.lookup in
    let s = subst (λ (bs : List Booked). are_standing bs ≡ true) (sym c.deref.ensures.0) c.requires in
    placed_at _ c.args.number c.in-Some.booked.now s l.3.0 l.1
