use Rattle.std.proofs.Common.{◌≡◌, ℕ, Bool, ◌||◌, List, ◌++◌, length, drop, ℤ, Ok, Err, sym, ap, ◌∙◌, arith, rules, length-append}
use Rattle.std.proofs.lemmas.Result.{err_from_is_err_and}
use Rattle.std.proofs.lemmas.Int.{ints}
use Rattle.ledger.specs.declared.fault.BookFault.{BookFault}
use Rattle.ledger.specs.declared.records.Outcome.{Outcome}
use Rattle.ledger.specs.declared.records.Resource.{Resource}
use Rattle.ledger.specs.Words.{Granted, each}
use Rattle.ledger.specs.Settling.{Part, part, numbered_from, evidence, sum_of}
use Rattle.ledger.specs.Book.{orders_in, busy_on}
use Rattle.settling.specs.Outcomes.{outcome_by}
use Rattle.settling.specs.Sheets.{settled_at, sheet_of}
use Rattle.settling.proofs.Energy.{outcome_modest}
use Rattle.settling.proofs.Fitness.{powered_at}
use Rattle.settling.proofs.SheetRows.{row_of, is_none_from, along_start, along_more, along_break, along_end}
use Rattle.settling.proofs.context.OrderContext.settle_all.Goals as goal

pub invariant_of-settle_one : goal.invariant_of-settle_one
invariant_of-settle_one g c = record { powered = powered_at c.args.resources.now c.loop-number.number _ c.requires.powered (omega arith) }

pub loop-number-init : goal.loop-number-init
loop-number-init g c =
    let s = c.args.self.now in
    let f : ℕ × Resource → Granted Part = λ x. part s.terms.now (g.R.Rulebook.rules s.rules.now) ((g.S.Store.model s.store.now).look x.0) (busy_on (orders_in s.booked.now)) s.order x.0 x.1 in
    record {
      along = along_start f c.args.resources.now c.new-rows.result.items c.new-rows.ensures;
      words = ap length c.new-rows.ensures;
      within = record { low = omega (arith, ints); high = omega (arith, ints) };
    }

pub returns-in_err-one : goal.returns-in_err-one
returns-in_err-one g c =
    let s = c.args.self.now in
    let f : ℕ × Resource → Granted Part = λ x. part s.terms.now (g.R.Rulebook.rules s.rules.now) ((g.S.Store.model s.store.now).look x.0) (busy_on (orders_in s.booked.now)) s.order x.0 x.1 in
    let q = err_from_is_err_and c.from_residual.result c.from_residual.ensures.1 in
    let b = along_break f _ c.args.resources.now c.loop-number.number _ _ _ _ _ (omega arith) c.loop-number.invariant.along (sym c.settle_one.ensures.value ∙ c.in_err-one.was) in
    record {
      answer = q.1 ∙ (ap (λ (e : BookFault). Err e) q.2 ∙ sym (ap (settled_at s.terms.now s.order) b));
      rows = sym (ap (λ (m : Granted (List Part)). sheet_of m c.args.sheet.now) b);
      size = rw q.1 tt;
    }

pub loop-number-preserved : goal.loop-number-preserved
loop-number-preserved g c =
    let s = c.args.self.now in
    let f : ℕ × Resource → Granted Part = λ x. part s.terms.now (g.R.Rulebook.rules s.rules.now) ((g.S.Store.model s.store.now).look x.0) (busy_on (orders_in s.booked.now)) s.order x.0 x.1 in
    let n = c.loop-number.invariant.within in
    let m = c.in_ok-one.ensures.within in
    let k = c.requires.many in
    let long = c.loop-number.invariant.words in
    let w : c.try_extend_from_slice.new.self.items ≡ c.loop-number.rows.items ++ row_of c.in_ok-one.one = search rules in
    let r : length (row_of c.in_ok-one.one) ≡ 19 = sym (ap length c.unwrap_or-row.ensures) ∙ (search rules) in
    record {
      along = along_more f _ c.args.resources.now c.loop-number.number _ _ _ _ _ _ _ c.in_ok-one.one (omega arith) c.loop-number.invariant.along (sym c.settle_one.ensures.value ∙ c.in_ok-one.was) w (omega (arith, ints)) (ap (λ (b : Bool). c.loop-number.estimated || b) (is_none_from _ _ c.is_none-estimated.ensures));
      words = ap length w ∙ simp length-append (omega arith);
      within = record { low = omega (arith, ints); high = omega (arith, ints) };
    }

pub returns : goal.returns
returns g c =
    let s = c.args.self.now in
    let f : ℕ × Resource → Granted Part = λ x. part s.terms.now (g.R.Rulebook.rules s.rules.now) ((g.S.Store.model s.store.now).look x.0) (busy_on (orders_in s.booked.now)) s.order x.0 x.1 in
    let xs = c.args.resources.now in
    let sheet = c.args.sheet.now in
    let A = c.loop-number.invariant.along in
    let e : each f (numbered_from 0 xs) ≡ Ok A.list = along_end f _ xs c.loop-number.number A.list (omega arith) A.goes_on in
    let y : c.copy_from_slice.new.self ≡ evidence A.list = c.copy_from_slice.ensures.after ∙ (c.as_slice.ensures.value ∙ sym A.rows) in
    let l : c.len.result ≡ length (evidence A.list) = c.len.ensures.value ∙ ap length (sym A.rows) in
    let n = c.loop-number.invariant.within in
    let k = c.requires.many in
    record {
      answer = ap (λ (x : Outcome). Ok x) (c.outcome.ensures ∙ (ap (λ (z : ℤ). outcome_by s.terms.now s.order z c.loop-number.estimated) (sym A.total_is) ∙ ap (outcome_by s.terms.now s.order (sum_of A.list)) (sym A.mark))) ∙ sym (ap (settled_at s.terms.now s.order) e);
      rows = ap (λ (us : List ℤ). us ++ drop c.len.result sheet) y ∙ (ap (λ (i : ℕ). evidence A.list ++ drop i sheet) l ∙ sym (ap (λ (m : Granted (List Part)). sheet_of m sheet) e));
      size = outcome_modest s.terms.now s.order _ c.loop-number.estimated _ s.placed c.outcome.ensures (record { low = omega (arith, ints); high = omega (arith, ints) });
    }
