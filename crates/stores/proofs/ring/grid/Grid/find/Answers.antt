use Rattle.std.proofs.Common.{◌≡◌, ℕ, ◌+◌, ◌%◌, ◌<◌, ◌≤◌, Bool, true, false, List, length, ℤ, Option, None, Some, MatchOption, sym, refl, ap, ◌∙◌, subst, arith}
use Rattle.std.specs.Bool.{then_some}
use Rattle.std.proofs.lemmas.Nat.{mod_below}
use Rattle.metering.specs.Readings.{within}
use Rattle.stores.specs.Slots.{slot_at, head_at, word_at, is_day, word_fits, WordsFit, Found, ring_look}
use Rattle.stores.specs.Words.{reading_from, curve_from}
use Rattle.stores.specs.Tested.{words_each}
use Rattle.stores.specs.Turning.{day_word, look_here, look_other, look_no_row}
use Rattle.stores.proofs.ring.grid.Grid.find.Goals as goal

pub returns-then-resource-self : goal.returns-then-resource-self
returns-then-resource-self c = look_no_row c.args.self.now.rows c.args.self.now.span c.args.self.now.words.items c.args.resource c.args.day c.if-resource-self.true

found : (rows span r d base : ℕ) (ws : List ℤ) → 0 < span → r < rows → WordsFit rows span ws → base + 97 ≤ length ws → base ≡ slot_at span r (d % span)
    → is_day (head_at ws base) d ≡ true → Found rows span ws r d base
found rows span r d base ws hs hr words room e i =
    let P : ℕ → Type 0 = λ a. is_day (head_at ws a) d ≡ true in
    let j : is_day (head_at ws (slot_at span r (d % span))) d ≡ true = subst P e i in
    record {
      room = room;
      limited = λ q h. ap (λ a. within (reading_from (word_at ws a q))) e
          ∙ (sym (ap (λ z. word_fits z (word_at ws (slot_at span r (d % span)) q)) (day_word (head_at ws (slot_at span r (d % span))) d j)) ∙ words r (d % span) q hr (mod_below d span hs) h);
      look = look_here rows span ws r d hr j ∙ sym (ap (λ a. Some (curve_from (word_at ws a))) e);
    }

picked : (b : Bool) (base : ℕ) (N : Type 0) (F : ℕ → Type 0) → (b ≡ true → F base) → (b ≡ false → N) → MatchOption (then_some b base) N F
picked true base N F p q = p refl
picked false base N F p q = q refl

pub returns : goal.returns
returns c =
    let g = c.args.self.now in
    let r = c.args.resource in
    let d = c.args.day in
    let M : Option ℕ → Type 0 = λ o. MatchOption o (ring_look g.rows g.span g.words.items r d ≡ None) (λ base. Found g.rows g.span g.words.items r d base) in
    subst M (sym c.then_some.ensures)
    (picked c.is_day.result c.slot-base.result (ring_look g.rows g.span g.words.items r d ≡ None) (λ base. Found g.rows g.span g.words.items r d base)
    (λ h. found g.rows g.span r d c.slot-base.result g.words.items
    (omega arith) (omega arith) (words_each g.rows g.span g.words.items g.readings) c.slot-base.ensures.within c.slot-base.ensures.is (sym c.is_day.ensures ∙ h))
    (λ h. look_other g.rows g.span g.words.items r d
    (ap (λ (a : ℕ). is_day (head_at g.words.items a) d) (sym c.slot-base.ensures.is) ∙ (sym c.is_day.ensures ∙ h))))
