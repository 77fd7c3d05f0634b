use Rattle.std.proofs.Common.{◌≡◌, ℕ, ◌<◌, Some}
use Rattle.metering.specs.Readings.{reading_in}
use Rattle.metering.specs.Forming.{formed_at}
use Rattle.metering.proofs.forming.form.Given as goal

abbrev pub invariant-loop-q : goal.invariant-loop-q
invariant-loop-q l = (k : ℕ) → k < l.q → formed_at l.injected l.drawn l.marks k ≡ Some (reading_in l.curve.readings k)
