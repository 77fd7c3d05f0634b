use Rattle.std.proofs.Common.{◌≡◌, ◌++◌, take, drop}
use Rattle.ledger.specs.Run.{run, final}
use Rattle.settlement.specs.Meant.{meaning}
use Rattle.settlement.proofs.live.run_calls.Given as goal

abbrev pub invariant-loop-i : goal.invariant-loop-i
invariant-loop-i g l =
    (l.answers ≡ run (meaning g.S.Store.model g.R.Rulebook.rules l.initial.book) (take l.i l.calls) ++ drop l.i l.initial.answers)
    × (meaning g.S.Store.model g.R.Rulebook.rules l.book ≡ final (meaning g.S.Store.model g.R.Rulebook.rules l.initial.book) (take l.i l.calls))
