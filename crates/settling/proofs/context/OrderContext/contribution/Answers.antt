use Rattle.std.proofs.Common.{ℕ, ℤ, Err, sym, ap, ◌∙◌, arith}
use Rattle.std.proofs.lemmas.Result.{err_from_is_err_and}
use Rattle.std.proofs.lemmas.Int.{ints}
use Rattle.ledger.specs.declared.fault.BookFault.{BookFault}
use Rattle.ledger.specs.Words.{Granted}
use Rattle.settling.specs.History.{summed_in, quarter_with}
use Rattle.settling.proofs.Totals.{grant_none, grant_next, grant_break, grant_end}
use Rattle.settling.proofs.context.OrderContext.contribution.Goals as goal

pub loop-quarter-init : goal.loop-quarter-init
loop-quarter-init g c = record { value = grant_none _; within = record { low = omega (arith, ints); high = omega (arith, ints) } }

pub returns-in_err-sum : goal.returns-in_err-sum
returns-in_err-sum g c =
    let m = c.args.measured.now in
    let f : ℕ → Granted ℤ = quarter_with (g.R.Rulebook.rules c.args.self.now.rules.now) (summed_in m.history.now.items) c.args.self.now.order m.one.number m.one.resource m.today.now m.lead_then m.lead_now in
    let p = err_from_is_err_and c.from_residual.result c.from_residual.ensures.1 in
    let s = grant_break f c.loop-quarter.quarter c.args.self.now.order.q1 _ _ _ (omega arith) c.loop-quarter.invariant.value (sym c.quarter_of.ensures.value ∙ c.in_err-sum.was) in
    record { value = p.1 ∙ (ap (λ (e : BookFault). Err e) p.2 ∙ sym s); within = rw p.1 tt }

pub overflow_add-sum : goal.overflow_add-sum
overflow_add-sum g c =
    let p = c.args.self.now.placed in
    let n = c.loop-quarter.invariant.within in
    let m = c.in_ok-sum.ensures.within in
    omega (arith, ints)

pub loop-quarter-preserved : goal.loop-quarter-preserved
loop-quarter-preserved g c =
    let p = c.args.self.now.placed in
    let m = c.args.measured.now in
    let f : ℕ → Granted ℤ = quarter_with (g.R.Rulebook.rules c.args.self.now.rules.now) (summed_in m.history.now.items) c.args.self.now.order m.one.number m.one.resource m.today.now m.lead_then m.lead_now in
    let n = c.loop-quarter.invariant.within in
    let v = c.in_ok-sum.ensures.within in
    record {
      value = grant_next f c.loop-quarter.quarter c.args.self.now.order.q1 _ _ c.in_ok-sum.field-0 _ (omega arith) c.loop-quarter.invariant.value (sym c.quarter_of.ensures.value ∙ c.in_ok-sum.was) (omega (arith, ints));
      within = record { low = omega (arith, ints); high = omega (arith, ints) };
    }

pub returns : goal.returns
returns g c =
    let p = c.args.self.now.placed in
    let m = c.args.measured.now in
    let f : ℕ → Granted ℤ = quarter_with (g.R.Rulebook.rules c.args.self.now.rules.now) (summed_in m.history.now.items) c.args.self.now.order m.one.number m.one.resource m.today.now m.lead_then m.lead_now in
    let n = c.loop-quarter.invariant.within in
    record {
      value = grant_end f c.loop-quarter.quarter c.args.self.now.order.q1 _ _ c.loop-quarter-test.false c.loop-quarter.invariant.value;
      within = record { low = omega (arith, ints); high = omega (arith, ints) };
    }
