use Rattle.std.proofs.Common.{◌≡◌, ◌≤◌, true, List, length, Err, sym, ap, ◌∙◌, subst}
use Rattle.std.proofs.lemmas.Result.{err_from_is_err_and}
use Rattle.ledger.specs.declared.fault.BookFault.{BookFault}
use Rattle.ledger.specs.declared.records.Booked.{Booked}
use Rattle.ledger.specs.declared.records.Resource.{Resource}
use Rattle.ledger.specs.Words.{Granted}
use Rattle.ledger.specs.Book.{Settlement, with_orders}
use Rattle.ledger.specs.Standing.{are_standing}
use Rattle.settlement.specs.Meant.{meaning, outcome_in, after_settle, sheet_after}
use Rattle.settlement.specs.Tables.{orders_held}
use Rattle.settlement.proofs.Settlings.{can_settle_lem, parts_in, settlement_is, settling_answer, settling_sheet, settling_refused, settling_done}
use Rattle.settlement.proofs.Standing.{standing_recorded}
use Rattle.settlement.proofs.book.Book.settle.Goals as goal

pub returns-in_err-outcome : goal.returns-in_err-outcome
returns-in_err-outcome g c =
    let b = meaning g.S.Store.model g.R.Rulebook.rules c.args.self.now in
    let k = c.args.number in
    let ws = c.args.sheet.now in
    let o = c.in_ok-order.order in
    let m = parts_in b k (length ws) o in
    let few : length b.resources ≤ 32 = subst (λ (l : List Resource). length l ≤ 32) c.deref.ensures.0 c.deref.ensures.1 in
    let is = settlement_is b k (length ws) o (sym c.to_settle.ensures.order ∙ c.in_ok-order.was) (can_settle_lem b.resources o few c.args.self.now.powered c.in_ok-order.ensures.placed) in
    let made = rw (c.deref.ensures.0, c.as_slice.ensures.held) at c.settle_order.ensures in
    let q = err_from_is_err_and c.from_residual-in_err-outcome.result c.from_residual-in_err-outcome.ensures.1 in
    let e = sym c.in_err-outcome.was ∙ made.answer in
    record {
      answer = q.1 ∙ (ap (λ (e : BookFault). Err e) q.2 ∙ (e ∙ (settling_answer b k (length ws) o m ∙ sym (ap outcome_in is))));
      after = settling_refused b k (length ws) o _ m e ∙ sym (ap (after_settle b k) is);
      rows = made.rows ∙ (settling_sheet b k (length ws) o m ws ∙ sym (ap (λ (s : Granted Settlement). sheet_after s ws) is));
    }

pub invariant_of-self-2-clause-standing : goal.invariant_of-self-2-clause-standing
invariant_of-self-2-clause-standing g c =
    subst (λ (l : List Booked). are_standing l ≡ true) (sym c.record.ensures) (standing_recorded (orders_held c.args.self.now.orders) c.args.number _ c.args.self.now.standing c.in_ok-outcome.ensures.size)

pub returns : goal.returns
returns g c =
    let b = meaning g.S.Store.model g.R.Rulebook.rules c.args.self.now in
    let k = c.args.number in
    let ws = c.args.sheet.now in
    let o = c.in_ok-order.order in
    let m = parts_in b k (length ws) o in
    let few : length b.resources ≤ 32 = subst (λ (l : List Resource). length l ≤ 32) c.deref.ensures.0 c.deref.ensures.1 in
    let is = settlement_is b k (length ws) o (sym c.to_settle.ensures.order ∙ c.in_ok-order.was) (can_settle_lem b.resources o few c.args.self.now.powered c.in_ok-order.ensures.placed) in
    let made = rw (c.deref.ensures.0, c.as_slice.ensures.held) at c.settle_order.ensures in
    let e = sym c.in_ok-outcome.was ∙ made.answer in
    record {
      answer = e ∙ (settling_answer b k (length ws) o m ∙ sym (ap outcome_in is));
      after = ap (with_orders b) c.record.ensures ∙ (settling_done b k (length ws) o _ m e ∙ sym (ap (after_settle b k) is));
      rows = made.rows ∙ (settling_sheet b k (length ws) o m ws ∙ sym (ap (λ (s : Granted Settlement). sheet_after s ws) is));
    }
