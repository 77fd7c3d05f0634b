use Rattle.std.proofs.Common.{◌≡◌, ◌+◌, ◌-◌, true, false, cond, sym, ap, ◌∙◌, arith}
use Rattle.ledger.specs.Words.{counting, tally}
use Rattle.ledger.specs.Days.{in_kinds}
use Rattle.monthly.proofs.Counted.{tally_step}
use Rattle.monthly.proofs.month.quarters_in.Goals as goal
use Rattle.monthly.proofs.month.quarters_in.Goals.{then-in_kinds, else-in_kinds}

pub loop-day-preserved : goal.loop-day-preserved
loop-day-preserved g c =
    let i = c.loop-day.invariant in
    let t = c.args.terms.now in
    let d = c.loop-day.day in
    elim c.if-in_kinds.branch [
      | then-in_kinds w ↦
          (let e : in_kinds t d ≡ true = sym c.in_kinds.ensures ∙ w.if-in_kinds.true in
          record {
            count = λ f h.
                let z : c.if-in_kinds.quarters ≡ c.loop-day.quarters + f d = w.quarters-is ∙ ap (λ r. c.loop-day.quarters + r) (h d w.on_day-quarters.result w.on_day-quarters.ensures) in
                tally_step (λ x. cond (in_kinds t x) (f x) 0) _ d c.loop-day.quarters _ (f d) c.loop-day.auto.day (i.count f h) (ap (λ b. cond b (f d) 0) e) z;
            most = omega (arith, i.most, w.quarters-is, c.requires.few d w.on_day-quarters.result w.on_day-quarters.ensures, c.loop-day.auto.day);
          })
      | else-in_kinds w ↦
          (let e : in_kinds t d ≡ false = sym c.in_kinds.ensures ∙ w.if-in_kinds.false in
          let z : c.if-in_kinds.quarters ≡ c.loop-day.quarters + 0 = omega (arith, w.quarters-is) in
          record {
            count = λ f h. tally_step (λ x. cond (in_kinds t x) (f x) 0) _ d c.loop-day.quarters _ 0 c.loop-day.auto.day (i.count f h) (ap (λ b. cond b (f d) 0) e) z;
            most = omega (arith, i.most, w.quarters-is, c.loop-day.auto.day);
          })
    ]

pub returns-clause-count : goal.returns-clause-count
returns-clause-count g c = λ f h.
    let i = c.loop-day.invariant in
    let e : c.loop-day.day ≡ c.args.days.last + 1 = omega (arith, c.loop-day-test.false, c.loop-day.auto.day-end) in
    i.count f h ∙ ap (λ z. tally (λ x. cond (in_kinds c.args.terms.now x) (f x) 0) (counting c.args.days.first (z - c.args.days.first))) e
