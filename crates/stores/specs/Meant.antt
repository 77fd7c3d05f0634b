-- What a journal means after making, putting and dropping.
use Rattle.std.specs.Prelude.{◌≡◌, ℕ, ◌+◌, ◌-◌, ◌*◌, ◌<◌, ◌≤◌, max, Bool, true, false, cond, leb, List, [], ◌∷◌, ◌++◌, length, pos, Some, None, filter, ◌==◌, nat_le, nat_lt, slice_index_or}
use Rattle.std.proofs.Common.{sym, ap, ◌∙◌, inl, inr, arith}
use Rattle.std.proofs.lemmas.Bool.{cond-true, cond-false, ne_eqb, le-leb, lt-ltb, cases_lt}
use Rattle.metering.specs.declared.curve.Curve.{Curve}
use Rattle.metering.specs.declared.reading.Reading.{Reading}
use Rattle.metering.specs.declared.reading.Reading.TheVariants.{Measured, Estimated}
use Rattle.metering.specs.Readings.{within, reading_in}
use Rattle.metering.specs.Curves.{curve_of, limited, curve_of_readings}
use Rattle.std.specs.List.{list_all}
use Rattle.stores.specs.declared.journal.Journal.{Journal}
use Rattle.stores.specs.Model.{Bounded, held_from, new_floor, cut_under, gained, put_into, raised_to, reading_held}
use Rattle.stores.specs.Rows.{Row, row_at, rows_in, reading_from, word_at, held_in, since, fine}
use Rattle.stores.specs.Journals.{memory_of, row_of, rows_of, meaning, model_of}
use Rattle.stores.specs.Making.{fresh}
use Rattle.stores.specs.Looked.{look_put, look_drop, held_within, all_by_get_or, all_by_from, fine_from}
use Rattle.stores.specs.Standing.{Standing, no_rows, length_rows, all_held}
use Rattle.stores.specs.Placing.{fitted_at}
use Rattle.stores.specs.Reread.{fine_parts}
use Rattle.stores.specs.Upto.{get_or_upto}

pub standing : (j : Journal) → Standing (memory_of j) j.width j.capacity j.floor j.rows
standing j = record { few = j.few; room = j.room; laid = j.laid; blank = j.blank; single = j.single; good = j.good }

-- the span of a journal that can hold something
pub span_whole : (capacity : ℕ) → 0 < capacity → ◌≡◌ {A = ℕ} (cond (capacity == 0) 1 36525) 36525
span_whole capacity h = cond-false (capacity == 0) 1 36525 (ne_eqb capacity 0 (λ e. omega arith))

floor_stays : (capacity floor d : ℕ) → 0 < capacity → d ≤ 36524 → floor ≡ max floor (d + 1 - cond (capacity == 0) 1 36525)
floor_stays capacity floor d h le = let s = span_whole capacity h in omega arith

pub fresh_means : (bs : List ℕ) (width capacity span : ℕ) → cond (capacity == 0) 1 36525 ≡ span → meaning width capacity 0 (rows_in bs 0) ≡ fresh width capacity span
fresh_means bs width capacity span e =
    let q = no_rows bs in
    λ i. record { width = width; capacity = capacity; span = e i; floor = 0; look = held_in (q i) }

pub put_means : (width capacity floor : ℕ) (rs : List Row) (e : Row) (c : Curve) → 0 < capacity → e.day ≤ 36524 → list_all (fine width floor) rs ≡ true → fine width floor e ≡ true
    → held_in rs e.resource e.day ≡ None → curve_of e.readings ≡ c → meaning width capacity floor (rs ++ (e ∷ [])) ≡ put_into (meaning width capacity floor rs) e.resource e.day c
put_means width capacity floor rs e c h le g fe free ec =
    let f = floor_stays capacity floor e.day h le in
    let look = look_put width floor rs e c g fe free ec in
    let m = meaning width capacity floor rs in
    let cut : (r d : ℕ) → held_in (rs ++ (e ∷ [])) r d ≡ cut_under (new_floor m e.day) (gained e.resource e.day c (held_in rs)) r d =
    λ r d. look r d ∙ ap (λ (x : ℕ). cut_under x (gained e.resource e.day c (held_in rs)) r d) f in
    λ i. record { width = width; capacity = capacity; span = cond (capacity == 0) 1 36525; floor = f i; look = λ r d. cut r d i }

pub drop_means : (width capacity floor day : ℕ) (rs : List Row) → meaning width capacity (max floor day) (filter (since day) rs) ≡ raised_to (meaning width capacity floor rs) day
drop_means width capacity floor day rs =
    λ i. record { width = width; capacity = capacity; span = cond (capacity == 0) 1 36525; floor = max floor day; look = λ r d. look_drop day rs r d i }

-- a journal is full where its rows number its capacity
pub full_test : (bs : List ℕ) (width capacity floor n d : ℕ) → Standing bs width capacity floor n → d ≤ 36524
    → nat_le capacity (held_from (meaning width capacity floor (rows_in bs n)) (new_floor (meaning width capacity floor (rows_in bs n)) d)) ≡ nat_le capacity n
full_test bs width capacity floor n d s le =
    let m = meaning width capacity floor (rows_in bs n) in
    elim (cases_lt 0 capacity) [
      | inl h ↦ (let f = floor_stays capacity floor d h le in ap (leb capacity) (all_held bs width capacity floor n (new_floor m d) s (omega arith)))
      | inr h ↦ le-leb capacity (held_from m (new_floor m d)) (omega arith) ∙ sym (le-leb capacity n (omega arith))
    ]

pub bounded : (j : Journal) → Bounded (model_of j)
bounded j =
    let s = standing j in
    let few = s.few in
    let h = all_held (memory_of j) j.width j.capacity j.floor j.rows 0 s (omega arith) in
    record {
      width_from = j.wide;
      width_to = j.narrow;
      capacity_to = j.most;
      span_from = from (j.capacity == 0);
      span_to = to (j.capacity == 0);
      floor_to = j.low;
      held = λ r d t. held_within j.width j.floor (rows_of j) r d s.good t;
      room = omega arith;
    }
  where
    from : (b : Bool) → 1 ≤ cond b 1 36525
    from true = omega arith
    from false = omega arith

    to : (b : Bool) → cond b 1 36525 ≤ 36525
    to true = omega arith
    to false = omega arith

-- a reading of a row is that of its curve
pub row_reading : (bs : List ℕ) (width capacity floor n i q : ℕ) → Standing bs width capacity floor n → i < n → q < 96
    → reading_held (Some (curve_of (row_at bs (387 * i)).readings)) q ≡ Some (reading_from (word_at bs (387 * i + 3 + 4 * q)))
row_reading bs width capacity floor n i q s lt h =
    let e = row_at bs (387 * i) in
    let f : ℕ → Reading = λ q. reading_from (word_at bs (387 * i + 3 + 4 * q)) in
    let len : length (rows_in bs n) ≡ n = length_rows bs n in
    let at : slice_index_or (rows_in bs n) i e ≡ e = get_or_upto (λ i. row_at bs (387 * i)) n i e lt in
    let ok : fine width floor e ≡ true = sym (ap (fine width floor) at) ∙ all_by_get_or (fine width floor) (rows_in bs n) i e (omega arith) s.good in
    let F = fine_parts width floor e ok in
    let full = F.full in
    let r : reading_in e.readings q ≡ f q = get_or_upto f 96 q (Measured (pos 0)) h in
    let w : within (f q) ≡ true = sym (ap within r) ∙ all_by_get_or within e.readings q (Measured (pos 0)) (omega arith) F.limits in
    let l : limited (f q) ≡ f q = cond-true (within (f q)) (f q) Estimated w in
    cond-true (nat_lt q 96) _ _ (lt-ltb q 96 h)
    ∙ ap Some (ap (λ rs. reading_in rs q) (curve_of_readings e.readings) ∙ fitted_at 96 e.readings q h (omega arith) ∙ ap limited r ∙ l)

-- a curve for a resource below the width and a day from the floor on is a row that a journal holds
pub curve_fine : (width floor r d : ℕ) (c : Curve) → r < width → floor ≤ d → d ≤ 36524 → fine width floor (row_of r d c) ≡ true
curve_fine width floor r d c a b t =
    let w = c.whole in
    fine_from width floor (row_of r d c)
    (record { below = a; from = b; to = t; full = w; limits = all_by_from within c.readings (Measured (pos 0)) (λ k l. c.limited k (omega arith)) })
