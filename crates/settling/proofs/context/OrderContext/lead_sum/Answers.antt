use Rattle.std.proofs.Common.{◌-◌, arith}
use Rattle.std.proofs.lemmas.Int.{ints}
use Rattle.ledger.specs.Words.{lead, total}
use Rattle.settling.proofs.Totals.{count_start, count_next, count_end}
use Rattle.settling.proofs.context.OrderContext.lead_sum.Goals as goal

pub loop-quarter-init : goal.loop-quarter-init
loop-quarter-init g c =
    let p = c.args.self.now.placed in
    let q0 = c.args.self.now.order.q0 in
    record {
      value = λ of h. count_start of (q0 - 8) q0 8 (omega arith);
      within = record { low = omega (arith, ints); high = omega (arith, ints) };
    }

pub overflow_add-sum : goal.overflow_add-sum
overflow_add-sum g c =
    let p = c.args.self.now.placed in
    let n = c.loop-quarter.invariant.within in
    let v = c.requires.near c.loop-quarter.quarter c.counted-sum.result (omega arith) c.counted-sum.ensures in
    omega (arith, ints)

pub loop-quarter-preserved : goal.loop-quarter-preserved
loop-quarter-preserved g c =
    let p = c.args.self.now.placed in
    let o = c.args.self.now.order in
    let q = c.loop-quarter.quarter in
    let n = c.loop-quarter.invariant.within in
    let v = c.requires.near q c.counted-sum.result (omega arith) c.counted-sum.ensures in
    record {
      value = λ of h. count_next of q o.q0 (total of (lead o)) _ c.counted-sum.result _ (omega arith) (c.loop-quarter.invariant.value of h) (h q c.counted-sum.result (omega arith) c.counted-sum.ensures) (omega (arith, ints));
      within = record { low = omega (arith, ints); high = omega (arith, ints) };
    }

pub returns : goal.returns
returns g c =
    let p = c.args.self.now.placed in
    let o = c.args.self.now.order in
    let n = c.loop-quarter.invariant.within in
    record {
      value = λ of h. count_end of c.loop-quarter.quarter o.q0 (total of (lead o)) _ c.loop-quarter-test.false (c.loop-quarter.invariant.value of h);
      within = record { low = omega (arith, ints); high = omega (arith, ints) };
    }
