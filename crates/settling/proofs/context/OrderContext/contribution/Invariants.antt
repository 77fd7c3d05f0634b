use Rattle.std.proofs.Common.{◌≡◌, ℕ, ◌-◌, ◌*◌, ℤ, ◌+ℤ◌, Ok}
use Rattle.ledger.specs.Words.{Granted, ◌>>=◌, ordered, total_of, counting}
use Rattle.settling.specs.History.{Near, summed_in, quarter_with}
use Rattle.settling.proofs.context.OrderContext.contribution.Given as goal

abbrev pub invariant-loop-quarter : goal.invariant-loop-quarter
invariant-loop-quarter g l =
    let f : ℕ → Granted ℤ = quarter_with (g.R.Rulebook.rules l.self.rules.now) (summed_in l.measured.history.now.items) l.self.order l.measured.one.number l.measured.one.resource l.measured.today.now l.measured.lead_then l.measured.lead_now in
    record {
      value : total_of f (ordered l.self.order) ≡ (total_of f (counting l.quarter (l.self.order.q1 - l.quarter)) >>= (λ z. Ok (l.sum +ℤ z)));
      within : Near (11000000 * (l.quarter - l.self.order.q0)) l.sum;
    }
