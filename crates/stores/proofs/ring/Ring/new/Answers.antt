use Rattle.std.proofs.Common.{◌≡◌, ℕ, ◌+◌, ◌*◌, ◌≤◌, Bool, true, false, eqb, leb, List, length, replicate, ℤ, pos, is_err, vec_items, sym, refl, ap, ◌∙◌, subst, arith}
use Rattle.std.specs.Vec.{with_items}
use Rattle.std.proofs.lemmas.List.{with_items_is}
use Rattle.std.proofs.lemmas.Bool.{and_parts, leb-true, eqb-true, cond-true, cond-false, both_ways}
use Rattle.stores.specs.Slots.{heads_fit, words_fit}
use Rattle.stores.specs.Making.{fit_answer}
use Rattle.stores.specs.Ring.{ring_fits, ring_model}
use Rattle.stores.specs.Tested.{each_heads, each_words}
use Rattle.stores.proofs.Pinning.{blank_heads, blank_words, blank_model, idle_model}
use Rattle.stores.proofs.ring.Ring.new.Goals as goal
use Rattle.stores.proofs.ring.Ring.new.Goals.{After-is_err, After-fill}

record Fits (words width span : ℕ) : Type 0 where
  from : 1 ≤ width
  to : width ≤ 32
  span_from : 1 ≤ span
  span_to : span ≤ 400
  exact : words ≡ 97 * (width * span)

fits : (words width span : ℕ) → ring_fits words width span ≡ true → Fits words width span
fits n w s h =
    let a = and_parts (leb 1 w) _ h in
    let b = and_parts (leb w 32) _ a.1 in
    let d = and_parts (leb 1 s) _ b.1 in
    let e = and_parts (leb s 400) (eqb n (97 * (w * s))) d.1 in
    record { from = leb-true 1 w a.0; to = leb-true w 32 b.0; span_from = leb-true 1 s d.0; span_to = leb-true s 400 e.0; exact = eqb-true n (97 * (w * s)) e.1 }

refused : (b : Bool) → is_err (fit_answer b) ≡ true → b ≡ false
refused true h = absurd (both_ways false refl h)
refused false h = refl

granted : (b : Bool) → is_err (fit_answer b) ≡ false → b ≡ true
granted true h = refl
granted false h = absurd (both_ways true h refl)

-- what the test told
told : (c : After-is_err) → c.is_err.result ≡ is_err (fit_answer (ring_fits (length (vec_items c.args.memory)) c.args.width c.args.span))
told c = c.is_err.ensures.value ∙ (ap is_err c.ring_fits.ensures ∙ ap (λ (n : ℕ). is_err (fit_answer (ring_fits n c.args.width c.args.span))) (c.len.ensures ∙ c.args.memory.ok.0))

pub invariant_of-grid : goal.invariant_of-grid
invariant_of-grid c = record {
  few = omega arith;
  spans = (omega arith, omega arith);
  room = omega arith;
  exact = λ h. absurd (omega arith);
  readings = each_words 0 1 c.args.memory.items (λ r s q h l k. absurd (omega arith));
}

pub invariant_of-result : goal.invariant_of-result
invariant_of-result c = record { low = omega arith; heads = each_heads 0 1 0 1 c.args.memory.items (λ r s h l. absurd (omega arith)) }

pub returns-then-is_err : goal.returns-then-is_err
returns-then-is_err c =
    let f = refused _ (sym (told (goal.at.returns-then-is_err c).After-is_err) ∙ c.if-is_err.true) in
    record {
      meaning = idle_model (vec_items c.args.memory) ∙ sym (cond-false _ _ _ f);
      words = sym (cond-false _ _ _ f);
    }

zeroed : (c : After-fill) → (with_items c.args.memory c.fill.new.self).items ≡ replicate (length (vec_items c.args.memory)) (pos 0)
zeroed c =
    let a = c.as_mut_slice.ensures in
    let l : length c.fill.new.self ≡ c.args.memory.len = c.fill.ensures.len ∙ a.len in
    with_items_is c.args.memory c.fill.new.self l ∙ (c.fill.ensures.after (λ y e. e) ∙ ap (λ (n : ℕ). replicate n (pos 0)) (a.len ∙ c.args.memory.ok.0))

pub invariant_of-grid-2 : goal.invariant_of-grid-2
invariant_of-grid-2 c =
    let v = c.args.memory in
    let w = c.args.width in
    let s = c.args.span in
    let f = fits (length v.items) w s (granted _ (sym (told (goal.at.invariant_of-grid-2 c).After-is_err) ∙ c.if-is_err.false)) in
    let W : List ℤ → Type 0 = λ ws. words_fit w s ws ≡ true in
    let l = v.ok.0 in
    let e = f.exact in
    record {
      few = f.to;
      spans = (f.span_from, f.span_to);
      room = omega arith;
      exact = λ h. l ∙ f.exact;
      readings = subst W (sym (zeroed (goal.at.invariant_of-grid-2 c).After-fill)) (each_words w s _ (blank_words w s (length v.items)));
    }

pub invariant_of-result-2 : goal.invariant_of-result-2
invariant_of-result-2 c =
    let w = c.args.width in
    let s = c.args.span in
    let H : List ℤ → Type 0 = λ ws. heads_fit w s 0 (0 + s) ws ≡ true in
    record {
      low = omega arith;
      heads = subst H (sym (zeroed (goal.at.invariant_of-result-2 c).After-fill)) (each_heads w s 0 (0 + s) _ (blank_heads w s 0 (0 + s) (length c.args.memory.items)));
    }

pub returns : goal.returns
returns c =
    let v = c.args.memory in
    let w = c.args.width in
    let s = c.args.span in
    let g = granted _ (sym (told (goal.at.returns c).After-is_err) ∙ c.if-is_err.false) in
    let z = zeroed (goal.at.returns c).After-fill in
    record {
      meaning = ap (λ (ws : List ℤ). ring_model w s 0 ws) z ∙ (blank_model w s (length (vec_items v)) (fits (length (vec_items v)) w s g).from ∙ sym (cond-true _ _ _ g));
      words = z ∙ sym (cond-true _ _ _ g);
    }
