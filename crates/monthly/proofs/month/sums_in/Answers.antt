use Rattle.std.proofs.Common.{◌≡◌, ◌+◌, false, get_or, drop, sym, ap, ◌∙◌, subst, arith}
use Rattle.ledger.specs.declared.fault.BookFault.TheVariants.{Unsettled}
use Rattle.monthly.specs.declared.month.Sums.{Sums}
use Rattle.ledger.specs.Book.{in_month, outcomes_in}
use Rattle.monthly.specs.Monthly.{sums_with, Within, WithinIf, no_order}
use Rattle.monthly.proofs.Summed.{some_from_ok, outside, settled_one, within_more, within_most}
use Rattle.monthly.proofs.month.sums_in.Goals as goal
use Rattle.monthly.proofs.month.sums_in.Goals.{then-contains+in_ok-outcome, else-contains}

pub loop-i-preserved : goal.loop-i-preserved
loop-i-preserved c =
    let f = c.args.days.first in
    let l = c.args.days.last in
    let os = c.args.orders.now in
    let i = c.loop-i.i in
    let h = c.loop-i-test.true in
    let v = c.loop-i.invariant in
    let rest = outcomes_in f l (i + 1) (drop (i + 1) os) in
    elim c.if-contains.branch [
      | then-contains+in_ok-outcome w ↦
          (let x = w.in_ok-outcome.outcome in
          let e = sym c.contains.ensures ∙ w.if-contains.true in
          let r = some_from_ok (get_or os i no_order).result (Unsettled i) x (sym w.ok_or.ensures.value ∙ w.in_ok-outcome.was) in
          let p = settled_one f l os i no_order h c.loop-i.sums x e r in
          let q = w.sums-is ∙ w.with-sums.ensures in
          let k = subst WithinIf r (c.requires.energies i h) in
          (ap (λ (z : Sums). sums_with z rest) q ∙ sym p ∙ v.0, subst (λ (z : Sums). Within (i + 1) z) (sym q) (within_more i _ _ v.1 k)))
      | else-contains w ↦
          (let e : in_month f l (get_or os i no_order).order.day ≡ false = sym c.contains.ensures ∙ w.if-contains.false in
          let p = outside f l os i no_order h e in (
            ap (λ (z : Sums). sums_with z rest) w.sums-is ∙ sym (ap (sums_with c.loop-i.sums) p) ∙ v.0,
            subst (λ (z : Sums). Within (i + 1) z) (sym w.sums-is) (within_most i (i + 1) _ (omega arith) v.1),
          ))
    ]
