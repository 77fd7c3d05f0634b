use Rattle.std.proofs.Common.{◌≡◌, ◌%◌, true, refl, List, ℤ, sym, ◌∙◌, subst, arith}
use Rattle.std.specs.Vec.{with_items}
use Rattle.std.proofs.lemmas.Nat.{mod_below}
use Rattle.std.proofs.lemmas.List.{with_items_is}
use Rattle.stores.specs.Slots.{slot_at, words_fit, SlotWritten}
use Rattle.stores.specs.Tested.{words_each, each_words}
use Rattle.stores.specs.Turning.{written_fits}
use Rattle.stores.proofs.Writing.{in_place}
use Rattle.stores.proofs.ring.grid.Grid.write.Goals as goal
use Rattle.stores.proofs.ring.grid.Grid.write.Goals.{After-write_slot}

stored : (c : After-write_slot) → (with_items c.args.self.now.words c.write_slot.new.words).items ≡ c.write_slot.new.words
stored c = with_items_is c.args.self.now.words c.write_slot.new.words (c.write_slot.auto.words ∙ c.as_mut_slice.ensures.len)

written : (c : After-write_slot) → SlotWritten c.args.self.now.words.items c.write_slot.new.words (slot_at c.args.self.now.span c.args.resource (c.args.day % c.args.self.now.span)) c.args.day c.args.curve.now
written c = in_place (λ ws vs b. SlotWritten ws vs b c.args.day c.args.curve.now) _ _ _ _ _ c.as_mut_slice.ensures.value c.slot-base.ensures.is c.write_slot.ensures

pub invariant_of-self : goal.invariant_of-self
invariant_of-self c =
    let g = c.args.self.now in
    let a = (goal.at.invariant_of-self c).After-write_slot in
    let W : List ℤ → Type 0 = λ ws. words_fit g.rows g.span ws ≡ true in
    record {
      few = g.few;
      spans = g.spans;
      room = g.room;
      exact = g.exact;
      readings = subst W (sym (stored a)) (each_words g.rows g.span _
          (written_fits g.rows g.span c.args.resource (c.args.day % g.span) c.args.day g.words.items _ c.args.curve.now (mod_below c.args.day g.span (omega arith)) (words_each g.rows g.span g.words.items g.readings) (written a)));
    }

pub returns-clause-written : goal.returns-clause-written
returns-clause-written c =
    let a = (goal.at.returns-clause-written c).After-write_slot in
    in_place (λ vs ws b. SlotWritten ws vs b c.args.day c.args.curve.now) _ _ _ _ _ (sym (stored a)) refl (written a)
