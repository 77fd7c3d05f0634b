use Rattle.std.proofs.Common.{◌≡◌, ℕ, ◌-◌, ◌*◌, ◌≤◌, cond}
use Rattle.ledger.specs.Words.{counting, tally}
use Rattle.ledger.specs.Days.{in_kinds}
use Rattle.monthly.proofs.month.quarters_in.Given as goal

abbrev pub invariant-loop-day : goal.invariant-loop-day
invariant-loop-day g l = record {
  count : (count : ℕ → ℕ) → ((day quarters : ℕ) → goal.F-post g l.on_day day quarters → quarters ≡ count day)
      → l.quarters ≡ tally (λ day. cond (in_kinds l.terms day) (count day) 0) (counting l.fn.days.first (l.day - l.fn.days.first));
  most : l.quarters ≤ 96 * (l.day - l.fn.days.first);
}
