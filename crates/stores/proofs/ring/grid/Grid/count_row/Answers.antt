use Rattle.std.proofs.Common.{ℕ, ◌-◌, ◌%◌, Bool, cond, sym, refl, ap, ◌∙◌, inl, inr, rules, arith}
use borrow.Author.Tests.{tests}
use Rattle.std.proofs.lemmas.Bool.{cases_Bool}
use Rattle.std.proofs.lemmas.Iterator.{YieldsList-from_range}
use Rattle.std.proofs.lemmas.Iterator.Consumers.{YieldsList-at, YieldsList-from_filter, count_from_yields_List}
use Rattle.stores.specs.Model.{one}
use Rattle.stores.specs.Slots.{ring_look, is_day, head_at, slot_at}
use Rattle.stores.specs.Counts.{sum_at_most}
use Rattle.stores.specs.Days.{held_at}
use Rattle.stores.specs.Holding.{held_at_most}
use Rattle.stores.specs.Turning.{look_here, look_other}
use Rattle.stores.proofs.Counting.{days_held}
use Rattle.stores.proofs.ring.grid.Grid.count_row.Goals as goal

pub returns : goal.returns
returns c =
    let g = c.args.self.now in
    let r = c.args.resource in
    let ws = g.words.items in
    let look = ring_look g.rows g.span ws r in
    let test : ℕ → Bool = λ d. is_day (head_at ws (slot_at g.span r (d % g.span))) d in
    let counted = count_from_yields_List c.filter-held.result _ c.count.ensures.ran
    (YieldsList-from_filter _ test (YieldsList-at c.filter-held.ensures.source (YieldsList-from_range c.args.first c.args.end (c.args.end - c.args.first) refl refl)) c.filter-held.ensures.closure (λ x b q k. search (rules, tests)))
    ∙ days_held c.args.first look test c.args.end (λ d. elim (cases_Bool (test d)) [
      | inl t ↦ ap one (look_here g.rows g.span ws r d c.requires.resource t) ∙ sym (ap (λ b. cond b 1 0) t)
      | inr t ↦ ap one (look_other g.rows g.span ws r d t) ∙ sym (ap (λ b. cond b 1 0) t)
    ]) in
    let most = sum_at_most (held_at c.args.first look) 1 c.args.end (λ k m. held_at_most c.args.first look k) in
    record { is = counted; few = omega arith }
