use Rattle.std.proofs.Common.{◌≡◌, List, ℤ, Some, Ok, sym, ap, ◌∙◌, arith, w32, w64, SFits, to_z, of_z, rules}
use Rattle.std.proofs.lemmas.Int.{ints, to_z-of_z}
use Rattle.settling.specs.declared.settled.Settled.{Settled}
use Rattle.ledger.specs.Words.{Granted, ◌>>=◌}
use Rattle.settling.specs.History.{days_of, summed_in}
use Rattle.settling.specs.Evidence.{history_row}
use Rattle.settling.proofs.Totals.{kept}
use Rattle.settling.proofs.Histories.{narrowed, shown, history_is}
use Rattle.settling.proofs.context.OrderContext.by_history.Goals as goal

pub overflow_cast-lead_now : goal.overflow_cast-lead_now
overflow_cast-lead_now g c = let w = c.lead_on-lead_now.ensures.within in omega (arith, ints)

pub overflow_cast-lead_then : goal.overflow_cast-lead_then
overflow_cast-lead_then g c = let w = c.lead_over-lead_then.ensures.within in omega (arith, ints)

pub returns-clause-value : goal.returns-clause-value
returns-clause-value g c =
    let xs = c.args.history.now.items in
    let days = days_of xs in
    let now = c.lead_on-lead_now.result in
    let then = c.lead_over-lead_then.result in
    let fn : SFits w64 now = search rules in
    let ft : SFits w64 then = search rules in
    let s = history_is (g.R.Rulebook.rules c.args.self.now.rules.now) (summed_in xs) c.args.self.now.order c.args.one.number c.args.one.resource c.args.today.now days then now c.contribution.result c.lead_over-lead_then.ensures.value c.lead_on-lead_now.ensures.value (simp to_z-of_z at c.contribution.ensures.value)
    ∙ ap (λ (v : Granted ℤ). v >>= shown days now then) c.in_ok-amount.was in
    let en = narrowed now c.lead_on-lead_now.ensures.within in
    let et = narrowed then c.lead_over-lead_then.ensures.within in
    let w : c.history_row.result ≡ history_row days now then =
    c.history_row.ensures ∙ (ap (λ (z : ℤ). history_row days z (to_z w32 (of_z w32 (to_z w64 (of_z w64 then))))) en ∙ ap (history_row days now) et) in
    let mk : List ℤ → ℤ → Granted Settled = λ ws z. Ok (record { amount = z; evidence = Some ws }) in
    ap (mk c.history_row.result) (kept c.in_ok-amount.amount c.in_ok-amount.ensures.within) ∙ (ap (λ (ws : List ℤ). mk ws c.in_ok-amount.amount) w ∙ sym s)
