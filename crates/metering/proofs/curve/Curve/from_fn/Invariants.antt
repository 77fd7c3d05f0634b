use Rattle.std.proofs.Common.{◌≡◌, List, length}
use denote.Param.Members.{Called}
use Rattle.std.specs.Array.{index_steps}
use Rattle.std.specs.Iterator.{CallableAtEachTurn}
use Rattle.metering.specs.declared.reading.Reading.{Reading}
use Rattle.metering.specs.Curves.{fitted}
use Rattle.metering.proofs.Answered.{Fills}
use Rattle.metering.proofs.curve.Curve.from_fn.Given as goal

-- what the quarters before this one gave, and that the next may be asked for
abbrev pub invariant-loop-q : goal.invariant-loop-q
invariant-loop-q g l =
    ((rs : List Reading) × (length rs ≡ l.q) × Fills g.F.FnMut l.initial.f 0 rs l.f × (l.curve.readings ≡ fitted 96 rs))
    × CallableAtEachTurn (index_steps 96) (λ p x q. (y : Reading) × Called g.F.FnMut p (x, tt) y q) (λ p x. g.F.FnMut.pre p (x, tt)) l.q l.f
