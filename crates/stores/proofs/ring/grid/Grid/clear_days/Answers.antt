use Rattle.std.proofs.Common.{◌≡◌, ℕ, ◌+◌, ◌≤◌, min, ◌⊎◌, refl, ◌∙◌, subst, inl, inr, arith}
use Rattle.std.proofs.lemmas.Bool.{cases_lt}
use Rattle.stores.specs.Slots.{DayCleared}
use Rattle.stores.specs.Tested.{words_each}
use Rattle.stores.specs.Turning.{cleared_none, cleared_more, cleared_all}
use Rattle.stores.proofs.ring.grid.Grid.clear_days.Goals as goal

pub loop-day-init : goal.loop-day-init
loop-day-init c =
    let g = c.args.self.now in
    record {
      means = cleared_none g.rows g.span c.args.floor (c.args.floor + g.span) g.words.items (omega arith) c.requires.heads (words_each g.rows g.span g.words.items g.readings);
      same = (refl, refl);
      idle = λ _. refl;
    }

pub loop-day-preserved : goal.loop-day-preserved
loop-day-preserved c =
    let g = c.args.self.now in
    let h = c.loop-day.self in
    let d = c.loop-day.day in
    let v = c.loop-day.invariant in
    let e = c.clear_day.ensures in
    let R : ℕ → Type 0 = λ x. DayCleared x x h.span d h.words.items c.clear_day.new.self.words.items in
    let S : ℕ → Type 0 = λ x. DayCleared g.rows g.rows x d h.words.items c.clear_day.new.self.words.items in
    record {
      means = cleared_more g.rows g.span d (c.args.floor + g.span) h.words.items c.clear_day.new.self.words.items _
          (omega arith) (omega arith) v.means (subst S v.same.1 (subst R v.same.0 e.cleared));
      same = (e.same.0 ∙ v.same.0, e.same.1 ∙ v.same.1);
      idle = λ x. e.idle (v.same.0 ∙ x) ∙ v.idle x;
    }

ends : (d end floor to span : ℕ) → end ≡ min to (floor + span) → (floor ≤ end → d ≤ end) → end ≤ d → floor ≤ to → (d ≤ to) × ((d ≡ to) ⊎ (floor + span ≤ d))
ends d end floor to span e k l r =
    let m : floor ≤ end = omega arith in
    let x = k m in
    (omega arith, elim (cases_lt to (floor + span)) [ inl p ↦ inl (omega arith) | inr p ↦ inr (omega arith) ])

pub returns : goal.returns
returns c =
    let g = c.args.self.now in
    let v = c.loop-day.invariant in
    let o = ends c.loop-day.day c.min-end.result c.args.floor c.args.to g.span c.min-end.ensures c.loop-day.auto.day-end c.loop-day-test.false c.requires.rises in
    record {
      means = cleared_all g.rows g.span c.args.floor (c.args.floor + g.span) c.loop-day.day c.args.to g.words.items c.loop-day.self.words.items
          (omega arith) c.requires.heads c.requires.rises (omega arith) o.0 o.1 v.means;
      idle = v.idle;
      same = v.same;
    }
