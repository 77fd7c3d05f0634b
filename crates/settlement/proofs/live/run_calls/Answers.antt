use Rattle.settlement.specs.Meant.{meaning}
use Rattle.settlement.proofs.Turns.{turn}
use Rattle.settlement.proofs.live.run_calls.Goals as goal

pub loop-i-preserved : goal.loop-i-preserved
loop-i-preserved g c =
    let room = c.requires in
    turn (meaning g.S.Store.model g.R.Rulebook.rules c.args.book.now) _ _ c.args.calls.now c.args.answers.now c.loop-i.answers c.loop-i.i c.index-calls-i.result c.answer.result
    c.loop-i-test.true room c.index-calls-i.is c.loop-i.invariant.0 c.loop-i.invariant.1 c.answer.ensures.answer c.answer.ensures.after
