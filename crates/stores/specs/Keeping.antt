-- A keeper's put: the store below, cut at the keeper's new floor, takes the curve and means what the keeper should.
use Rattle.std.specs.Prelude.{◌≡◌, ℕ, ◌<◌, ◌≤◌, cond, Ok, Option, Result, nat_le, nat_lt, refl}
use Rattle.std.proofs.Common.{sym, ◌∙◌, ap, inl, inr, arith}
use Rattle.std.proofs.lemmas.Bool.{cases_lt, le-ltb, lt-leb, cond-false}
use Rattle.metering.specs.declared.curve.Curve.{Curve}
use Rattle.stores.specs.declared.fault.StoreFault.{StoreFault}
use Rattle.stores.specs.Model.{StoreModel, Bounded, one, held_from, new_floor, put_answer, put_into, raised_to, cut_under, gained, unless, after_put, after_drop}
use Rattle.stores.specs.Keeper.{kept}
use Rattle.stores.specs.Counts.{sum_same}
use Rattle.stores.specs.Days.{held_at}
use Rattle.stores.specs.Holding.{same_model}
use Rattle.stores.specs.Turning.{cut_above, cut_cut, cut_same, cut_gained}
use Rattle.stores.specs.Verdicts.{Admitted, put_granted, after_dropped}

-- the span does not matter to what is held
pub kept_held : (s : ℕ) (m : StoreModel) (d : ℕ) → held_from (kept s m) d ≡ held_from m d
unfolding held_from
kept_held s m d = refl

pub kept_bounded : (s : ℕ) (m : StoreModel) → 1 ≤ s → Bounded m → Bounded (kept s m)
kept_bounded s m h b =
    let e = kept_held s m 0 in
    let f = b.span_from in
    let t = b.span_to in
    let r = b.room in
    record {
      width_from = b.width_from;
      width_to = b.width_to;
      capacity_to = b.capacity_to;
      span_from = omega arith;
      span_to = omega arith;
      floor_to = b.floor_to;
      held = b.held;
      room = omega arith;
    }

-- nothing under a day counts from that day on
pub raised_held : (m : StoreModel) (f : ℕ) → held_from (raised_to m f) f ≡ held_from m f
unfolding held_from
raised_held m f = sum_same _ _ m.width (λ r _. sum_same (held_at f (cut_under f m.look r)) (held_at f (m.look r)) 36525 (λ k _. elim (cases_lt k f) [
  | inl l ↦ cond-false (nat_le f k) _ _ (lt-leb f k l) ∙ sym (cond-false (nat_le f k) _ _ (lt-leb f k l))
  | inr l ↦ ap (λ (o : Option Curve). cond (nat_le f k) (one o) 0) (cut_above f m.look r k l)
]))

pub kept_admitted : (s : ℕ) (m : StoreModel) (r d : ℕ) → Admitted m r d → Admitted (kept s m) r d
kept_admitted s m r d t = record { last = t.last; resource = t.resource; above = t.above; free = t.free }

pub record Granted (s : ℕ) (m : StoreModel) (r d : ℕ) (c : Curve) (f : ℕ) : Type 0 where
  pub below : put_answer (raised_to m f) r d ≡ Ok tt
  pub above : put_answer (kept s m) r d ≡ Ok tt
  pub after : kept s (put_into (raised_to m f) r d c) ≡ put_into (kept s m) r d c

pub granted : (s : ℕ) (m : StoreModel) (r d : ℕ) (c : Curve) (f : ℕ) → 1 ≤ s → Bounded m → Admitted m r d → f ≡ new_floor (kept s m) d → held_from m f < m.capacity → Granted s m r d c f
granted s m r d c f hs b t e room =
    let hd = t.last in
    let hf = t.above in
    let q = b.span_from in
    let n : new_floor (raised_to m f) d ≡ f = omega arith in
    let fd : f ≤ d = omega arith in
    let x = raised_held m f in
    let y : held_from (raised_to m f) (new_floor (raised_to m f) d) ≡ held_from (raised_to m f) f = ap (held_from (raised_to m f)) n in
    let z : held_from (kept s m) (new_floor (kept s m) d) ≡ held_from m f = kept_held s m (new_floor (kept s m) d) ∙ ap (held_from m) (sym e) in
    record {
      below = put_granted (raised_to m f) r d (record { last = hd; resource = t.resource; above = omega arith; free = cut_above f m.look r d fd ∙ t.free }) (omega arith);
      above = put_granted (kept s m) r d (kept_admitted s m r d t) (omega arith);
      after = same_model (kept s (put_into (raised_to m f) r d c)) (put_into (kept s m) r d c) refl refl refl (n ∙ e)
          (λ r' k. ap (λ g. cut_under g (gained r d c (cut_under f m.look)) r' k) n
          ∙ (cut_same f (gained r d c (cut_under f m.look)) (cut_under f (gained r d c m.look)) r' k (cut_gained f r d c m.look r' k fd)
          ∙ (cut_twice f (gained r d c m.look) r' k ∙ ap (λ g. cut_under g (gained r d c m.look) r' k) e)));
    }
  where
    cut_twice : (f : ℕ) (look : ℕ → ℕ → Option Curve) (r k : ℕ) → cut_under f (cut_under f look) r k ≡ cut_under f look r k
    cut_twice f look r k = cut_cut f f look r k (omega arith)

pub drop_granted : (m : StoreModel) (f : ℕ) → f ≤ 36524 → after_drop m f ≡ raised_to m f
drop_granted m f h = after_dropped m f (cond-false (nat_lt 36524 f) _ _ (le-ltb 36524 f h))

-- the calls below, in order
pub kept_put : (s : ℕ) (m n o : StoreModel) (r d : ℕ) (c : Curve) (f : ℕ) (a : Result (Unit {0}) StoreFault) → Granted s m r d c f → f ≤ 36524
    → n ≡ after_drop m f → a ≡ put_answer n r d → o ≡ after_put n r d c → (a ≡ put_answer (kept s m) r d) × (kept s o ≡ after_put (kept s m) r d c) × (a ≡ Ok tt) × (o.span ≡ m.span)
kept_put s m n o r d c f a g h en ea eo =
    let w : n ≡ raised_to m f = en ∙ drop_granted m f h in
    let p : a ≡ put_answer (raised_to m f) r d = ea ∙ ap (λ (x : StoreModel). put_answer x r d) w in
    let q : o ≡ after_put (raised_to m f) r d c = eo ∙ ap (λ (x : StoreModel). after_put x r d c) w in
    let u : o ≡ put_into (raised_to m f) r d c = q ∙ ap (λ (x : Result (Unit {0}) StoreFault). unless x (raised_to m f) (put_into (raised_to m f) r d c)) g.below in (
      p ∙ (g.below ∙ sym g.above),
      ap (kept s) u ∙ (g.after ∙ sym (ap (λ (x : Result (Unit {0}) StoreFault). unless x (kept s m) (put_into (kept s m) r d c)) g.above)),
      p ∙ g.below,
      ap (λ (x : StoreModel). x.span) u,
    )
