use Rattle.std.proofs.Common.{ℕ, ◌%◌, ap, ◌∙◌, arith}
use Rattle.stores.specs.Slots.{slot_at}
use Rattle.stores.specs.Turning.{day_more}
use Rattle.stores.proofs.ring.grid.Grid.clear_day.Goals as goal

pub loop-resource-preserved : goal.loop-resource-preserved
loop-resource-preserved c =
    let g = c.args.self.now in
    let r = c.loop-resource.resource in
    let v = c.loop-resource.invariant in
    record {
      cleared = day_more r g.rows g.span c.args.day _ g.words.items c.loop-resource.self.words.items c.clear.new.self.words.items
          (omega arith) (ap (λ (x : ℕ). slot_at x r (c.args.day % x)) v.same.1) v.cleared c.clear.ensures.cleared;
      same = (c.clear.ensures.same.0 ∙ v.same.0, c.clear.ensures.same.1 ∙ v.same.1);
      idle = λ e. absurd (omega arith);
    }
