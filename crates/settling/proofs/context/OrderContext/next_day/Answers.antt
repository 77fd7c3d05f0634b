use Rattle.std.proofs.Common.{◌∙◌, arith}
use Rattle.settling.proofs.Search.{next_is, passing_no}
use Rattle.settling.proofs.context.OrderContext.next_day.Goals as goal

pub returns-then-add_qualifying : goal.returns-then-add_qualifying
returns-then-add_qualifying g c =
    let tried = rw c.if-add_qualifying.true at c.add_qualifying.ensures in
    next_is _ ((g.S.Store.model c.args.self.now.store.now).look c.args.resource) c.args.low c.args.before c.loop-day.day _ _ _ (omega arith) (omega arith) c.loop-day.invariant.rest c.loop-day.invariant.same tried

pub loop-day-preserved : goal.loop-day-preserved
loop-day-preserved g c =
    let tried = rw c.if-add_qualifying.false at c.add_qualifying.ensures in
    record {
      rest = c.loop-day.invariant.rest ∙ passing_no _ c.args.low c.loop-day.day (omega arith) tried.0;
      same = tried.1 ∙ c.loop-day.invariant.same;
    }
