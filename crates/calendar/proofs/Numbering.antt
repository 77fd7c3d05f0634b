-- Dates and day numbers: from one to the next, and from each to the other.
use Rattle.std.proofs.Common.{◌≡◌, ℕ, zero, suc, ◌+◌, ◌-◌, ◌<◌, ◌≤◌, true, cond, eqb, ltb, refl, ap, ◌∙◌, ⊎_elim, add-zero, add-suc, add-one, arith, ltb-false, ltb-true, le-ltb, lt-ltb}
use Rattle.std.proofs.lemmas.Bool.Decides.{nat_tests}
use Rattle.std.proofs.lemmas.Bool.{cases_lt, cond_both}
use Rattle.calendar.specs.declared.dates.Date.{Date}
use Rattle.calendar.specs.Gregorian.{is_leap, has_thirty, month_length, months_days, years_days, first_day, day_number, next_date, date_after, is_date}

-- a date of the year 2000 or later
pub record Valid (x : Date) : Type 0 where
  pub from : 2000 ≤ x.year
  pub month_from : 1 ≤ x.month
  pub month_to : x.month ≤ 12
  pub day_from : 1 ≤ x.day
  pub day_to : x.day ≤ month_length x.year x.month

abbrev pub at : ℕ → ℕ → ℕ → Date
at y m k = record { year = y; month = m; day = k }

pub length_from : (y m : ℕ) → 28 ≤ month_length y m
length_from y m = cond_both (eqb m 2) (cond (is_leap y) 29 28) (cond (has_thirty m) 30 31) (λ x. 28 ≤ x)
    (λ _. cond_both (is_leap y) 29 28 (λ x. 28 ≤ x) (λ _. omega arith) (λ _. omega arith))
    (λ _. cond_both (has_thirty m) 30 31 (λ x. 28 ≤ x) (λ _. omega arith) (λ _. omega arith))

pub length_to : (y m : ℕ) → month_length y m ≤ 31
length_to y m = cond_both (eqb m 2) (cond (is_leap y) 29 28) (cond (has_thirty m) 30 31) (λ x. x ≤ 31)
    (λ _. cond_both (is_leap y) 29 28 (λ x. x ≤ 31) (λ _. omega arith) (λ _. omega arith))
    (λ _. cond_both (has_thirty m) 30 31 (λ x. x ≤ 31) (λ _. omega arith) (λ _. omega arith))

months_suc : (y m : ℕ) → months_days y (suc m) ≡ months_days y m + month_length y (suc m)
unfolding months_days
months_suc y m = refl

years_suc : (n : ℕ) → years_days (suc n) ≡ years_days n + months_days (2000 + n) 12
unfolding years_days
years_suc n = refl

-- the first day of the next month
pub first_month : (y m : ℕ) → 1 ≤ m → first_day y (m + 1) ≡ first_day y m + month_length y m
unfolding first_day
first_month y zero h = absurd (omega arith)
first_month y (suc k) h =
    let a : suc k + 1 - 1 ≡ suc k = omega arith in
    let b : suc k - 1 ≡ k = omega arith in
    rw (a, b) (omega (arith, months_suc y k))

pub first_year : (y : ℕ) → 2000 ≤ y → first_day (y + 1) 1 ≡ first_day y 12 + month_length y 12
unfolding first_day months_days
first_year y h =
    let a : y + 1 - 2000 ≡ suc (y - 2000) = omega arith in
    let b : 2000 + (y - 2000) ≡ y = omega arith in
    let s = rw b at (years_suc (y - 2000)) in
    rw a (omega (arith, s))

-- the day after, by its three cases
next_day : (y m k : ℕ) → k < month_length y m → next_date (at y m k) ≡ at y m (k + 1)
unfolding next_date
next_day y m k h = rw (lt-ltb k (month_length y m) h)

next_month : (y m k : ℕ) → month_length y m ≤ k → m < 12 → next_date (at y m k) ≡ at y (m + 1) 1
unfolding next_date
next_month y m k h l = rw (le-ltb k (month_length y m) h, lt-ltb m 12 l)

next_year : (y m k : ℕ) → month_length y m ≤ k → 12 ≤ m → next_date (at y m k) ≡ at (y + 1) 1 1
unfolding next_date
next_year y m k h l = rw (le-ltb k (month_length y m) h, le-ltb m 12 l)

pub date_suc : (d : ℕ) → date_after (suc d) ≡ next_date (date_after d)
unfolding date_after
date_suc d = refl

date_zero : date_after 0 ≡ at 2000 1 1
unfolding date_after
date_zero = refl

-- from the first of a month on, its days
date_in : (y m a : ℕ) → date_after a ≡ at y m 1 → (k : ℕ) → k < month_length y m → date_after (a + k) ≡ at y m (k + 1)
date_in y m a e zero h = rw add-zero e
date_in y m a e (suc k) h =
    let i = date_in y m a e k (omega arith) in
    let n = next_day y m (k + 1) (omega arith) in
    let s : k + 1 ≡ suc k = omega arith in
    rw (add-suc a k) (date_suc (a + k) ∙ ap next_date i ∙ n ∙ ap (λ z. at y m (z + 1)) s)

last_in : (y m a : ℕ) → date_after a ≡ at y m 1 → date_after (a + month_length y m) ≡ next_date (at y m (month_length y m))
last_in y m a e =
    let l = length_from y m in
    let i = date_in y m a e (month_length y m - 1) (omega arith) in
    let p : a + month_length y m ≡ suc (a + (month_length y m - 1)) = omega arith in
    let q : month_length y m - 1 + 1 ≡ month_length y m = omega arith in
    ap date_after p ∙ date_suc (a + (month_length y m - 1)) ∙ ap next_date (i ∙ ap (λ z. at y m z) q)

date_months : (y : ℕ) → date_after (first_day y 1) ≡ at y 1 1 → (k : ℕ) → k < 12 → date_after (first_day y (k + 1)) ≡ at y (k + 1) 1
date_months y e zero h = e
date_months y e (suc k) h =
    let i = date_months y e k (omega arith) in
    let l = last_in y (k + 1) (first_day y (k + 1)) i in
    let n = next_month y (k + 1) (month_length y (k + 1)) (omega arith) (omega arith) in
    let f = first_month y (k + 1) (omega arith) in
    let s : suc k + 1 ≡ k + 1 + 1 = omega arith in
    rw s (ap date_after f ∙ l ∙ n)

date_years : (n : ℕ) → date_after (first_day (2000 + n) 1) ≡ at (2000 + n) 1 1
unfolding first_day years_days months_days
date_years zero = date_zero
date_years (suc n) =
    let i = date_months (2000 + n) (date_years n) 11 (omega arith) in
    let l = last_in (2000 + n) 12 (first_day (2000 + n) 12) i in
    let x = next_year (2000 + n) 12 (month_length (2000 + n) 12) (omega arith) (omega arith) in
    let f = first_year (2000 + n) (omega arith) in
    let s : 2000 + suc n ≡ 2000 + n + 1 = omega arith in
    rw s (ap date_after f ∙ l ∙ x)

-- the date of a date's number is that date
pub date_at : (y m k : ℕ) → 2000 ≤ y → 1 ≤ m → m ≤ 12 → k < month_length y m → date_after (first_day y m + k) ≡ at y m (k + 1)
date_at y m k a b c h =
    let ey : 2000 + (y - 2000) ≡ y = omega arith in
    let em : m - 1 + 1 ≡ m = omega arith in
    let f = rw ey at (date_years (y - 2000)) in
    let g = rw em at (date_months y f (m - 1) (omega arith)) in
    date_in y m (first_day y m) g k h

pub undo_date : (x : Date) → Valid x → date_after (day_number x) ≡ x
unfolding day_number
undo_date x v =
    let d = date_at x.year x.month (x.day - 1) v.from v.month_from v.month_to (let l = v.day_to in let f = v.day_from in omega arith) in
    let e : x.day - 1 + 1 ≡ x.day = omega (arith, v.day_from) in
    d ∙ ap (λ z. at x.year x.month z) e

abbrev Good : Date → Date → Type 0
Good x z = Valid z × (day_number z ≡ day_number x + 1)

good_next : (x : Date) → Valid x → Good x (next_date x)
unfolding next_date day_number
good_next x v =
    let f = v.from in
    let mf = v.month_from in
    let mt = v.month_to in
    let df = v.day_from in
    let dt = v.day_to in
    cond_both (ltb x.day (month_length x.year x.month)) _ _ (Good x)
    (λ t. let lt = ltb-true x.day (month_length x.year x.month) t in (record { from = f; month_from = mf; month_to = mt; day_from = omega arith; day_to = omega arith }, omega arith))
    (λ t. let le = ltb-false x.day (month_length x.year x.month) t in
    cond_both (ltb x.month 12) _ _ (Good x)
    (λ u. let l = ltb-true x.month 12 u in
    let n = first_month x.year x.month mf in
    (record { from = f; month_from = omega arith; month_to = omega arith; day_from = omega arith; day_to = omega (arith, length_from x.year (x.month + 1)) }, omega arith))
    (λ u. let l = ltb-false x.month 12 u in
    let e : x.month ≡ 12 = omega arith in
    let n = first_year x.year f in
    let g : month_length x.year x.month ≡ month_length x.year 12 = ap (month_length x.year) e in
    let g2 : first_day x.year x.month ≡ first_day x.year 12 = ap (first_day x.year) e in
    (record { from = omega arith; month_from = omega arith; month_to = omega arith; day_from = omega arith; day_to = omega (arith, length_from (x.year + 1) 1) }, omega arith)))

number_zero : day_number (at 2000 1 1) ≡ 0
unfolding day_number first_day years_days months_days
number_zero = refl

pub undo_day : (d : ℕ) → Valid (date_after d) × (day_number (date_after d) ≡ d)
undo_day zero = rw date_zero (record { from = omega arith; month_from = omega arith; month_to = omega arith; day_from = omega arith; day_to = omega (arith, length_from 2000 1) }, number_zero)
undo_day (suc d) =
    let i = undo_day d in
    let g = good_next (date_after d) i.0 in
    let e : day_number (next_date (date_after d)) ≡ suc d = g.1 ∙ ap (λ z. z + 1) i.1 ∙ add-one d in
    rw date_suc (g.0, e)

years_mono : (n k : ℕ) → years_days n ≤ years_days (n + k)
years_mono n zero = rw add-zero (omega arith)
years_mono n (suc k) = rw (add-suc, years_suc) (omega (arith, years_mono n k))

months_mono : (y m k : ℕ) → months_days y m ≤ months_days y (m + k)
months_mono y m zero = rw add-zero (omega arith)
months_mono y m (suc k) = rw (add-suc, months_suc) (omega (arith, months_mono y m k))

years_100 : years_days 100 ≡ 36525
unfolding years_days months_days
years_100 = refl

pub century : (x : Date) → Valid x → x.year ≤ 2099 → day_number x < 36525
unfolding day_number first_day
century x v h =
    let f = v.from in
    let mf = v.month_from in
    let mt = v.month_to in
    let df = v.day_from in
    let dt = v.day_to in
    let ey : 2000 + (x.year - 2000) ≡ x.year = omega arith in
    let em : suc (x.month - 1) ≡ x.month = omega arith in
    let ea : suc (x.month - 1) + (12 - x.month) ≡ 12 = omega arith in
    let eb : suc (x.year - 2000) + (2099 - x.year) ≡ 100 = omega arith in
    let ms = rw em at (months_suc x.year (x.month - 1)) in
    let mm = rw ea at (months_mono x.year (suc (x.month - 1)) (12 - x.month)) in
    let mm2 = rw em at mm in
    let ys = rw ey at (years_suc (x.year - 2000)) in
    let ym = rw eb at (years_mono (suc (x.year - 2000)) (2099 - x.year)) in
    omega (arith, years_100)

within : (x : Date) → Valid x → day_number x < 36525 → x.year ≤ 2099
unfolding day_number first_day
within x v h = ⊎_elim (λ l. omega arith)
    (λ g. let e : 100 + (x.year - 2100) ≡ x.year - 2000 = omega arith in
    let m = rw e at (years_mono 100 (x.year - 2100)) in
    absurd (omega (arith, years_100)))
    (cases_lt x.year 2100)

pub date_from_lem : (x : Date) → Valid x → day_number x < 36525 → is_date x ≡ true
date_from_lem x v h =
    let w = within x v h in
    let f = v.from in let mf = v.month_from in let mt = v.month_to in let df = v.day_from in let dt = v.day_to in
    grind (arith, nat_tests)

pub valid_from : (x : Date) → is_date x ≡ true → Valid x × (x.year ≤ 2099)
valid_from x t = (record { from = grind (arith, nat_tests); month_from = grind (arith, nat_tests); month_to = grind (arith, nat_tests); day_from = grind (arith, nat_tests); day_to = grind (arith, nat_tests) }, grind (arith, nat_tests))
