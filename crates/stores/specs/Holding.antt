-- What a ring holds, as a store: its bounds, how many curves, what a put and a drop leave.
use Rattle.std.specs.Prelude.{◌≡◌, ℕ, ◌+◌, ◌-◌, ◌*◌, ◌%◌, ◌<◌, ◌≤◌, min, max, List, ℤ, Some, None, Option, nat_le, refl}
use Rattle.std.proofs.Common.{sym, ◌∙◌, ap, inl, inr, arith, mul-le-mul}
use Rattle.std.proofs.lemmas.Nat.{mod_below}
use Rattle.std.proofs.lemmas.Bool.{cases_lt, cases_Bool, le-leb, lt-leb, cond-true, cond-false}
use Rattle.metering.specs.declared.curve.Curve.{Curve}
use Rattle.stores.specs.Model.{StoreModel, Bounded, sum_below, one, held_from, put_into, raised_to, cut_under, gained}
use Rattle.stores.specs.Slots.{ring_look, HeadsFit, Means}
use Rattle.stores.specs.Ring.{ring_model}
use Rattle.stores.specs.Counts.{sum_same, sum_zero, sum_past, sum_at_most, sum_under, sum_window, sum_gap}
use Rattle.stores.specs.Days.{held_at}
use Rattle.stores.specs.Turning.{said, look_held, look_no_row, look_outside, cut_under_lem, cut_above}

-- two meanings with equal parts
pub same_model : (m n : StoreModel) → m.width ≡ n.width → m.capacity ≡ n.capacity → m.span ≡ n.span → m.floor ≡ n.floor
    → ((r k : ℕ) → m.look r k ≡ n.look r k) → m ≡ n
same_model m n w c s f l = λ i. record { width = w i; capacity = c i; span = s i; floor = f i; look = λ r k. l r k i }

one_at_most : (o : Option Curve) → one o ≤ 1
one_at_most None = omega arith
one_at_most (Some c) = omega arith

pub held_at_most : (first : ℕ) (look : ℕ → Option Curve) (k : ℕ) → held_at first look k ≤ 1
held_at_most first look k =
    let o = one_at_most (look k) in
    elim (cases_Bool (nat_le first k)) [
      | inl t ↦ (let e = cond-true (nat_le first k) (one (look k)) 0 t in omega arith)
      | inr t ↦ (let e = cond-false (nat_le first k) (one (look k)) 0 t in omega arith)
    ]

pub held_none : (first : ℕ) (look : ℕ → Option Curve) (k : ℕ) → look k ≡ None → held_at first look k ≡ 0
held_none first look k h = elim (cases_Bool (nat_le first k)) [
  | inl t ↦ cond-true (nat_le first k) _ _ t ∙ ap one h
  | inr t ↦ cond-false (nat_le first k) _ _ t
]

held_before : (first : ℕ) (look : ℕ → Option Curve) (k : ℕ) → k < first → held_at first look k ≡ 0
held_before first look k h = cond-false (nat_le first k) _ _ (lt-leb first k h)

held_since : (first : ℕ) (look : ℕ → Option Curve) (k : ℕ) → first ≤ k → held_at first look k ≡ one (look k)
held_since first look k h = cond-true (nat_le first k) _ _ (le-leb first k h)

-- the count by rows of days
pub held_rows : (rows span floor : ℕ) (ws : List ℤ) (d : ℕ)
    → held_from (ring_model rows span floor ws) d ≡ sum_below (λ r. sum_below (held_at d (ring_look rows span ws r)) 36525) rows
unfolding held_from
held_rows rows span floor ws d =
    sum_past (λ r. sum_below (held_at d (ring_look rows span ws r)) 36525) rows (max 1 rows) (omega arith)
    (λ r a b. sum_zero (held_at d (ring_look rows span ws r)) 36525 (λ k l. held_none d (ring_look rows span ws r) k (look_no_row rows span ws r k a)))

module _ (rows span floor : ℕ) (ws : List ℤ) (hs : 0 < span) (heads : HeadsFit rows span floor (floor + span) ws) where
  under : (r k : ℕ) → k < floor → ring_look rows span ws r k ≡ None
  under r k h = look_outside rows span floor (floor + span) ws r k hs heads (inl h)

  over : (r k : ℕ) → floor + span ≤ k → ring_look rows span ws r k ≡ None
  over r k h = look_outside rows span floor (floor + span) ws r k hs heads (inr h)

  -- only the days of the ring's window can be held
  pub count_is : (d : ℕ) → held_from (ring_model rows span floor ws) d
      ≡ sum_below (λ r. sum_below (held_at (max d floor) (ring_look rows span ws r)) (min (floor + span) 36525)) rows
  count_is d = held_rows rows span floor ws d ∙ sum_same _ _ rows (λ r h. row r)
    where
      row : (r : ℕ) → sum_below (held_at d (ring_look rows span ws r)) 36525 ≡ sum_below (held_at (max d floor) (ring_look rows span ws r)) (min (floor + span) 36525)
      row r =
          sum_past (held_at d (ring_look rows span ws r)) (min (floor + span) 36525) 36525 (omega arith)
          (λ k a b. held_none d (ring_look rows span ws r) k (over r k (omega arith)))
          ∙ sum_same _ _ (min (floor + span) 36525) (λ k h. elim (cases_lt k floor) [
            | inl l ↦ held_none d (ring_look rows span ws r) k (under r k l) ∙ sym (held_none (max d floor) (ring_look rows span ws r) k (under r k l))
            | inr l ↦ elim (cases_lt k d) [
              | inl m ↦ held_before d (ring_look rows span ws r) k m ∙ sym (held_before (max d floor) (ring_look rows span ws r) k (omega arith))
              | inr m ↦ held_since d (ring_look rows span ws r) k m ∙ sym (held_since (max d floor) (ring_look rows span ws r) k (omega arith))
            ]
          ])

  pub count_at : (d n first end : ℕ) (vs : List ℤ) → n ≡ sum_below (λ r. sum_below (held_at first (ring_look rows span vs r)) end) rows
      → vs ≡ ws → first ≡ max d floor → end ≡ min (floor + span) 36525 → n ≡ held_from (ring_model rows span floor ws) d
  count_at d n first end vs h e f g =
      let F : List ℤ → ℕ → ℕ → ℕ = λ xs a b. sum_below (λ r. sum_below (held_at a (ring_look rows span xs r)) b) rows in
      h ∙ ((λ i. F (e i) (f i) (g i)) ∙ sym (count_is d))

  -- at most the days of a span for each resource
  row_few : (f r : ℕ) → floor ≤ f → sum_below (held_at f (ring_look rows span ws r)) 36525 ≤ span
  row_few f r h = (sum_window (held_at f (ring_look rows span ws r)) f span 36525 (held_at_most f (ring_look rows span ws r))
      (λ k l. held_before f (ring_look rows span ws r) k l) (λ k l. held_none f (ring_look rows span ws r) k (over r k (omega arith)))).1

  -- from any floor on there is room for a curve that is not held
  pub room_left : (f r d : ℕ) → floor ≤ f → f ≤ d → d < f + span → r < rows → ring_look rows span ws r d ≡ None
      → held_from (ring_model rows span floor ws) f < rows * span
  room_left f r d a b c hr n =
      let e = held_rows rows span floor ws f in
      let u = sum_under (λ x. sum_below (held_at f (ring_look rows span ws x)) 36525) span rows r (λ x l. row_few f x a) hr
      (sum_gap (held_at f (ring_look rows span ws r)) f span d 36525 (held_at_most f (ring_look rows span ws r))
      (λ k l. held_before f (ring_look rows span ws r) k l) (λ k l. held_none f (ring_look rows span ws r) k (over r k (omega arith)))
      b c (held_none f (ring_look rows span ws r) d n)) in
      omega arith

  all_fit : held_from (ring_model rows span floor ws) 0 ≤ rows * span
  all_fit =
      let e = held_rows rows span floor ws 0 in
      let u = sum_at_most (λ x. sum_below (held_at 0 (ring_look rows span ws x)) 36525) span rows
      (λ x l. (sum_window (held_at 0 (ring_look rows span ws x)) floor span 36525 (held_at_most 0 (ring_look rows span ws x))
      (λ k m. held_none 0 (ring_look rows span ws x) k (under x k m)) (λ k m. held_none 0 (ring_look rows span ws x) k (over x k m))).1) in
      omega arith

  pub ring_bounded : rows ≤ 32 → span ≤ 400 → floor ≤ 36524 → Bounded (ring_model rows span floor ws)
  ring_bounded hr hm hf = record {
    width_from = omega arith;
    width_to = omega arith;
    capacity_to = (let m : rows * span ≤ 32 * 400 = mul-le-mul hr hm in m);
    span_from = omega arith;
    span_to = omega arith;
    floor_to = hf;
    held = λ r d h. (let l = look_held rows span ws r d h in
        let i = said span floor (floor + span) (d % span) d _ (heads r (d % span) l.0 (mod_below d span hs)) l.1 in
        (let x = l.0 in omega arith, i.above, i.last));
    room = all_fit;
  }

  -- what a put leaves
  pub put_is : (to r d : ℕ) (vs : List ℤ) (c : Curve) → to ≡ max floor (d + 1 - span)
      → Means rows span to (to + span) vs (cut_under to (gained r d c (ring_look rows span ws)))
      → ring_model rows span to vs ≡ put_into (ring_model rows span floor ws) r d c
  put_is to r d vs c e m = same_model (ring_model rows span to vs) (put_into (ring_model rows span floor ws) r d c) refl refl refl e
      (λ x k. m.looks x k ∙ ap (λ f. cut_under f (gained r d c (ring_look rows span ws)) x k) e)

  -- and a drop
  pub drop_is : (to d : ℕ) (vs : List ℤ) → to ≡ max floor d → Means rows span to (to + span) vs (cut_under to (ring_look rows span ws))
      → ring_model rows span to vs ≡ raised_to (ring_model rows span floor ws) d
  drop_is to d vs e m = same_model (ring_model rows span to vs) (raised_to (ring_model rows span floor ws) d) refl refl refl e
      (λ x k. m.looks x k ∙ elim (cases_lt k to) [
        | inl l ↦ cut_under_lem to (ring_look rows span ws) x k l ∙ sym (elim (cases_lt k d) [
          | inl p ↦ cut_under_lem d (ring_look rows span ws) x k p
          | inr p ↦ cut_above d (ring_look rows span ws) x k p ∙ under x k (omega arith)
        ])
        | inr l ↦ cut_above to (ring_look rows span ws) x k l ∙ sym (cut_above d (ring_look rows span ws) x k (omega arith))
      ])
