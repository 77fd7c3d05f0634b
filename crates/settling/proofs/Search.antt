-- The search for history days, on the lists of the definitions.
use Rattle.std.proofs.Common.{◌≡◌, ℕ, zero, suc, ◌+◌, ◌-◌, ◌<◌, ◌≤◌, Bool, true, false, cond, ◌&&◌, ltb, List, [], ◌∷◌, ◌++◌, length, take, Some, None, Ok, Err, filter, Option, sym, refl, ap, ◌∙◌, subst, inl, inr, add-zero, arith, length-append}
use Rattle.std.specs.List.{list_all, range_with_len}
use Rattle.std.proofs.lemmas.List.{append_assoc, append-nil, map_push, length-map}
use Rattle.std.proofs.lemmas.Bool.{cases_lt, lt-ltb, le-ltb}
use Rattle.metering.specs.declared.reading.Reading.{Reading}
use Rattle.metering.specs.declared.curve.Curve.{Curve}
use Rattle.metering.specs.Readings.{reading_at}
use Rattle.ledger.specs.declared.records.Order.{Order}
use Rattle.ledger.specs.declared.fault.BookFault.TheVariants.{ShortHistory}
use Rattle.ledger.specs.Words.{at, is_measured, measured_in, counting, days_before, lead, ordered}
use Rattle.ledger.specs.Settling.{Held, latest}
use Rattle.settling.specs.declared.history_day.HistoryDay.{HistoryDay}
use Rattle.settling.specs.Placed.{Placed}
use Rattle.settling.specs.History.{Added, Tried, NextDay, Kept, days_of, passing}

-- whether a reading that may be missing is a measured one
abbrev pub is_number : Option Reading → Bool
is_number None = false
is_number (Some r) = is_measured r

-- quarters of the day, as the code goes over them
measured_range : (c : Curve) (a n : ℕ) → a + n ≤ 96 → list_all (λ q. is_number (reading_at c.readings q)) (range_with_len a n) ≡ measured_in c (counting a n)
measured_range c a zero h = refl
measured_range c a (suc n) h =
    let e : a + 1 ≡ suc a = omega arith in
    rw e (ap (λ (b : Bool). is_number (cond b (Some (at c a)) None) && list_all (λ q. is_number (reading_at c.readings q)) (range_with_len (suc a) n)) (lt-ltb a 96 (omega arith)) ∙ ap (λ (b : Bool). is_measured (at c a) && b) (measured_range c (suc a) n (omega arith)))

counting_append : (a m n : ℕ) → counting a (m + n) ≡ counting a m ++ counting (a + m) n
counting_append a zero n = let e : 0 + n ≡ n = omega arith in rw (e, add-zero) refl
counting_append a (suc m) n =
    let e : suc m + n ≡ suc (m + n) = omega arith in
    let f : suc a + m ≡ a + suc m = omega arith in
    rw e (ap (λ (xs : List ℕ). a ∷ xs) (counting_append (suc a) m n ∙ ap (λ (k : ℕ). counting (suc a) m ++ counting k n) f))

-- the lead quarters and the ordered ones follow one another
lead_ordered : (o : Order) → Placed o → counting (o.q0 - 8) (o.q1 - (o.q0 - 8)) ≡ lead o ++ ordered o
lead_ordered o p =
    let a = p.leads in
    let b = p.rises in
    let e : o.q1 - (o.q0 - 8) ≡ 8 + (o.q1 - o.q0) = omega arith in
    let f : o.q0 - 8 + 8 ≡ o.q0 = omega arith in
    ap (counting (o.q0 - 8)) e ∙ (counting_append (o.q0 - 8) 8 (o.q1 - o.q0) ∙ ap (λ (k : ℕ). counting (o.q0 - 8) 8 ++ counting k (o.q1 - o.q0)) f)

pub measured_all : (c : Curve) (o : Order) → Placed o → list_all (λ q. is_number (reading_at c.readings q)) (range_with_len (o.q0 - 8) (o.q1 - (o.q0 - 8))) ≡ measured_in c (lead o ++ ordered o)
measured_all c o p = let e = p.ends in measured_range c (o.q0 - 8) (o.q1 - (o.q0 - 8)) (omega arith) ∙ ap (measured_in c) (lead_ordered o p)

before_more : (low n : ℕ) → low < n → days_before n (n - low) ≡ (n - 1) ∷ days_before (n - 1) (n - 1 - low)
before_more low zero h = absurd (omega arith)
before_more low (suc n) h =
    let e : suc n - low ≡ suc (n - low) = omega arith in
    let f : suc n - 1 ≡ n = omega arith in
    rw (e, f) refl

before_all : (d n : ℕ) → d ≤ n → days_before d n ≡ days_before d d
before_all zero zero h = refl
before_all zero (suc n) h = refl
before_all (suc d) zero h = absurd (omega arith)
before_all (suc d) (suc n) h = ap (λ (xs : List ℕ). d ∷ xs) (before_all d n (omega arith))

-- the days before d that a floor low = d - n leaves are the n before it
pub before_low : (d n low : ℕ) → low ≡ d - n → days_before d (d - low) ≡ days_before d n
before_low d n low e =
    elim (cases_lt d n) [
      | inl l ↦ (let f : d - low ≡ d = omega arith in ap (days_before d) f ∙ sym (before_all d n (omega arith)))
      | inr l ↦ (let f : d - low ≡ n = omega arith in ap (days_before d) f)
    ]

pub passing_none : (t : ℕ → Bool) (low n : ℕ) → n ≤ low → passing t low n ≡ []
passing_none t low zero h = let e : 0 - low ≡ 0 = omega arith in rw e
passing_none t low (suc n) h = let e : suc n - low ≡ 0 = omega arith in rw e

passing_yes : (t : ℕ → Bool) (low n : ℕ) → low < n → t (n - 1) ≡ true → passing t low n ≡ (n - 1) ∷ passing t low (n - 1)
passing_yes t low n h y = ap (filter t) (before_more low n h) ∙ simp y

pub passing_no : (t : ℕ → Bool) (low n : ℕ) → low < n → t (n - 1) ≡ false → passing t low n ≡ passing t low (n - 1)
passing_no t low n h y = ap (filter t) (before_more low n h) ∙ simp y

-- the day below n, where it passes: added to a history that was as it is until then
pub next_is : (t : ℕ → Bool) (held : Held) (low before n : ℕ) (old mid new : List HistoryDay) → low < n → n ≤ before → passing t low before ≡ passing t low n → mid ≡ old → Tried (t (n - 1)) held (n - 1) mid new true → NextDay t held low before old new (n - 1)
next_is t held low before n old mid new h l e s f =
    let A : List HistoryDay → Type 0 = λ xs. Added held (n - 1) xs new in
    record { above = omega arith; below = omega arith; rest = e ∙ passing_yes t low n h f.0; added = subst A s f.1 }

-- one more day
added_days : (held : Held) (d : ℕ) (xs ys : List HistoryDay) → Added held d xs ys → days_of ys ≡ days_of xs ++ (d ∷ [])
added_days held d xs ys a = ap days_of a.items ∙ (map_push (λ (y : HistoryDay). y.day) xs a.one ∙ ap (λ (m : ℕ). days_of xs ++ (m ∷ [])) a.day_is)

pub added_count : (held : Held) (d : ℕ) (xs ys : List HistoryDay) → Added held d xs ys → length ys ≡ length xs + 1
added_count held d xs ys a = ap length a.items ∙ simp length-append

-- the days found, then what is still to come
pub found_more : (t : ℕ → Bool) (held : Held) (xs ys : List HistoryDay) (all : List ℕ) (n k low b d : ℕ) → k < n → days_of xs ++ take (n - k) (passing t low b) ≡ all → passing t low b ≡ d ∷ passing t low d → Added held d xs ys → days_of ys ++ take (n - (k + 1)) (passing t low d) ≡ all
found_more t held xs ys all n k low b d h inv e a =
    let m : n - k ≡ suc (n - (k + 1)) = omega arith in
    let s : take (n - k) (passing t low b) ≡ d ∷ take (n - (k + 1)) (passing t low d) = ap (λ (ds : List ℕ). take (n - k) ds) e ∙ rw m refl in
    ap (λ (ds : List ℕ). ds ++ take (n - (k + 1)) (passing t low d)) (added_days held d xs ys a) ∙ (append_assoc (days_of xs) (d ∷ []) (take (n - (k + 1)) (passing t low d)) ∙ (sym (ap (λ (ds : List ℕ). days_of xs ++ ds) s) ∙ inv))

pub found_all : (t : ℕ → Bool) (xs all : List ℕ) (n k low b : ℕ) → n ≤ k → xs ++ take (n - k) (passing t low b) ≡ all → xs ≡ all
found_all t xs all n k low b h inv = let e : n - k ≡ 0 = omega arith in sym (append-nil xs) ∙ (rw e at inv)

pub found_short : (t : ℕ → Bool) (xs all : List ℕ) (n k low b : ℕ) → passing t low b ≡ [] → xs ++ take (n - k) (passing t low b) ≡ all → xs ≡ all
found_short t xs all n k low b e inv =
    let z : take (n - k) (passing t low b) ≡ [] = ap (λ (ys : List ℕ). take (n - k) ys) e ∙ none (n - k) in
    sym (append-nil xs) ∙ (sym (ap (λ (ys : List ℕ). xs ++ ys) z) ∙ inv)
  where
    none : (m : ℕ) → take {A = ℕ} m [] ≡ []
    none zero = refl
    none (suc m) = refl

-- the latest n days, or too few of them
few : (r n : ℕ) (xs ds : List ℕ) → xs ≡ ds → ltb (length xs) n ≡ true → Err (ShortHistory r (length xs)) ≡ cond (ltb (length ds) n) (Err (ShortHistory r (length ds))) (Ok ds)
few r n xs ds e h =
    let P : List ℕ → Type 0 = λ ys. Err (ShortHistory r (length xs)) ≡ cond (ltb (length ys) n) (Err (ShortHistory r (length ys))) (Ok ys) in
    subst P e (ap (λ (b : Bool). cond b (Err (ShortHistory r (length xs))) (Ok xs)) (sym h))

enough : (r n : ℕ) (xs ds : List ℕ) → xs ≡ ds → ltb (length xs) n ≡ false → Ok xs ≡ cond (ltb (length ds) n) (Err (ShortHistory r (length ds))) (Ok ds)
enough r n xs ds e h =
    let P : List ℕ → Type 0 = λ ys. Ok xs ≡ cond (ltb (length ys) n) (Err (ShortHistory r (length ys))) (Ok ys) in
    subst P e (ap (λ (b : Bool). cond b (Err (ShortHistory r (length xs))) (Ok xs)) (sym h))

back : (t : ℕ → Bool) (n d low : ℕ) (xs : List ℕ) → low ≡ d - 400 → xs ≡ take n (passing t low d) → xs ≡ take n (filter t (days_before d 400))
back t n d low xs e p = p ∙ ap (λ (ys : List ℕ). take n (filter t ys)) (before_low d 400 low e)

pub latest_few : (r n : ℕ) (t : ℕ → Bool) (d low k : ℕ) (xs : List ℕ) → low ≡ d - 400 → xs ≡ take n (passing t low d) → length xs ≡ k → k < n → Err (ShortHistory r k) ≡ latest r n t d
latest_few r n t d low k xs e p l h =
    ap (λ (m : ℕ). Err (ShortHistory r m)) (sym l) ∙ few r n xs _ (back t n d low xs e p) (lt-ltb _ _ (omega (arith, l)))

pub latest_are : (r n : ℕ) (t : ℕ → Bool) (d low : ℕ) (xs : List ℕ) → low ≡ d - 400 → xs ≡ take n (passing t low d) → length xs ≡ n → Ok xs ≡ latest r n t d
latest_are r n t d low xs e p l = enough r n xs _ (back t n d low xs e p) (le-ltb _ _ (omega (arith, l)))

-- one more day, with the curve held for it
kept_end : (held : Held) (xs : List HistoryDay) (x : HistoryDay) → Kept held xs → held x.day ≡ Some x.curve → Kept held (xs ++ (x ∷ []))
kept_end held [] x k e = (e, tt)
kept_end held (y ∷ ys) x k e = (k.0, kept_end held ys x k.1 e)

pub kept_more : (held : Held) (d : ℕ) (xs ys : List HistoryDay) → Kept held xs → Added held d xs ys → Kept held ys
kept_more held d xs ys k a = subst (Kept held) (sym a.items) (kept_end held xs a.one k (ap held a.day_is ∙ a.curve_is))

pub length_days : (xs : List HistoryDay) (n : ℕ) → length xs ≡ n → length (days_of xs) ≡ n
length_days xs n e = length-map xs (λ x. x.day) ∙ e
