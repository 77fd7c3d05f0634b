use Rattle.std.proofs.Common.{◌≡◌, ℕ, ◌+◌, ◌-◌, ◌*◌, ◌%◌, ◌<◌, ◌≤◌, max, Ok, sym, refl, ap, ◌∙◌, subst, rules, arith}
use Rattle.stores.specs.Model.{StoreModel, cut_under, gained, put_answer, held_from}
use Rattle.stores.specs.Slots.{slot_at, ring_look, Means}
use Rattle.stores.specs.Ring.{ring_model, model_of}
use Rattle.stores.specs.Holding.{put_is, room_left}
use Rattle.stores.specs.Tested.{each_heads_as}
use Rattle.stores.specs.Turning.{put_means}
use Rattle.stores.specs.Verdicts.{Admitted, admitted, put_granted, after_granted}
use Rattle.stores.proofs.Ringed.{heads_of}
use Rattle.stores.proofs.ring.holding.RingStore.put.Goals as goal
use Rattle.stores.proofs.ring.holding.RingStore.put.Goals.{After-max-floor, After-write}

-- what the tests and the new floor tell
record Told (m : StoreModel) (rows r d to : ℕ) : Type 0 where
  admitted : Admitted m r d
  resource : r < rows
  from : to ≤ d
  before : d < to + m.span
  is : to ≡ max m.floor (d + 1 - m.span)

told : (c : After-max-floor) → Told (model_of c.args.self.now) c.args.self.now.grid.rows c.args.resource c.args.day c.max-floor.result
told c =
    let s = c.args.self.now in
    let e = c.in_ok-admit.ensures in
    let a = admitted (model_of s) c.args.resource c.args.day c.width.result s.floor e.0 c.width.ensures refl (λ q. let p = e.1 q in search rules) e.2 in
    let r = a.resource in
    let f = a.above in
    let n = c.if-self-eq0.false in
    let x = c.saturating_sub.ensures in
    let m = c.max-floor.ensures in
    let p = s.grid.spans.0 in
    record { admitted = a; resource = omega arith; from = omega arith; before = omega arith; is = m ∙ ap (max s.floor) x }

means : (c : After-write) → Means c.args.self.now.grid.rows c.args.self.now.grid.span c.max-floor.result (c.max-floor.result + c.args.self.now.grid.span) c.write.new.self.words.items
    (cut_under c.max-floor.result (gained c.args.resource c.args.day c.args.curve.now (ring_look c.args.self.now.grid.rows c.args.self.now.grid.span c.args.self.now.grid.words.items)))
means c =
    let g = c.args.self.now.grid in
    let r = c.args.resource in
    let d = c.args.day in
    let t = told (goal.at.After-write c).After-max-floor in
    let e = c.raise_to.ensures in
    put_means g.rows g.span c.max-floor.result r d _ g.words.items c.raise_to.new.self.grid.words.items c.write.new.self.words.items c.args.curve.now
    g.spans.0 t.resource t.from t.before t.admitted.last e.means (ap (λ (x : ℕ). slot_at x r (d % x)) e.same.1) c.write.ensures.written

pub invariant_of-self : goal.invariant_of-self
invariant_of-self c =
    let e = c.raise_to.ensures in
    let w = c.write.ensures in
    record {
      low = c.raise_to.new.self.low;
      heads = each_heads_as _ _ c.max-floor.result _ _ _ _ (w.same.0 ∙ e.same.0) (w.same.1 ∙ e.same.1) e.floor (means (goal.at.invariant_of-self c).After-write).heads;
    }

granted : (c : After-max-floor) → put_answer (model_of c.args.self.now) c.args.resource c.args.day ≡ Ok tt
granted c =
    let s = c.args.self.now in
    let g = s.grid in
    let old = model_of s in
    let r = c.args.resource in
    let d = c.args.day in
    let t = told c in
    let R : ℕ → Type 0 = λ f. held_from old f < g.rows * g.span in
    let up : s.floor ≤ c.max-floor.result = let m = t.is in omega arith in
    put_granted old r d t.admitted (subst R t.is (room_left g.rows g.span s.floor g.words.items g.spans.0 (heads_of s) c.max-floor.result r d up t.from t.before t.resource t.admitted.free))

pub returns-clause-answer : goal.returns-clause-answer
returns-clause-answer c = sym (granted (goal.at.returns-clause-answer c).After-max-floor)

pub returns-clause-after : goal.returns-clause-after
returns-clause-after c =
    let s = c.args.self.now in
    let g = s.grid in
    let r = c.args.resource in
    let d = c.args.day in
    let k = c.args.curve.now in
    let e = c.raise_to.ensures in
    let w = c.write.ensures in
    let n = c.write.new.self.words.items in
    let m = (goal.at.returns-clause-after c).After-max-floor in
    (λ i. ring_model ((w.same.0 ∙ e.same.0) i) ((w.same.1 ∙ e.same.1) i) (e.floor i) n)
    ∙ (put_is g.rows g.span s.floor g.words.items g.spans.0 (heads_of s) c.max-floor.result r d n k (told m).is (means (goal.at.returns-clause-after c).After-write)
    ∙ sym (after_granted (model_of s) r d k (granted m)))
