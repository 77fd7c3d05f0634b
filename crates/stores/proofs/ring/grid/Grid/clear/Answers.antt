use Rattle.std.proofs.Common.{◌≡◌, ◌%◌, true, refl, List, ℤ, sym, ◌∙◌, subst, arith}
use Rattle.std.specs.Vec.{with_items}
use Rattle.std.proofs.lemmas.Nat.{mod_below}
use Rattle.std.proofs.lemmas.List.{with_items_is}
use Rattle.stores.specs.Slots.{slot_at, words_fit, SlotCleared}
use Rattle.stores.specs.Tested.{words_each, each_words}
use Rattle.stores.specs.Turning.{cleared_fits}
use Rattle.stores.proofs.Writing.{in_place}
use Rattle.stores.proofs.ring.grid.Grid.clear.Goals as goal
use Rattle.stores.proofs.ring.grid.Grid.clear.Goals.{After-empty_slot}

stored : (c : After-empty_slot) → (with_items c.args.self.now.words c.empty_slot.new.words).items ≡ c.empty_slot.new.words
stored c = with_items_is c.args.self.now.words c.empty_slot.new.words (c.empty_slot.auto.words ∙ c.as_mut_slice.ensures.len)

cleared : (c : After-empty_slot) → SlotCleared c.args.self.now.words.items c.empty_slot.new.words (slot_at c.args.self.now.span c.args.resource (c.args.day % c.args.self.now.span))
cleared c = in_place SlotCleared _ _ _ _ _ c.as_mut_slice.ensures.value c.slot-base.ensures.is c.empty_slot.ensures

pub invariant_of-self : goal.invariant_of-self
invariant_of-self c =
    let g = c.args.self.now in
    let a = (goal.at.invariant_of-self c).After-empty_slot in
    let W : List ℤ → Type 0 = λ ws. words_fit g.rows g.span ws ≡ true in
    record {
      few = g.few;
      spans = g.spans;
      room = g.room;
      exact = g.exact;
      readings = subst W (sym (stored a)) (each_words g.rows g.span _
          (cleared_fits g.rows g.span c.args.resource (c.args.day % g.span) g.words.items _ (mod_below c.args.day g.span (omega arith)) (words_each g.rows g.span g.words.items g.readings) (cleared a)));
    }

pub returns-clause-cleared : goal.returns-clause-cleared
returns-clause-cleared c =
    let a = (goal.at.returns-clause-cleared c).After-empty_slot in
    in_place (λ vs ws b. SlotCleared ws vs b) _ _ _ _ _ (sym (stored a)) refl (cleared a)
