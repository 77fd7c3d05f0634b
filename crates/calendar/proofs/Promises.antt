-- The laws of the calendar.
use Rattle.std.proofs.Common.{◌≡◌, ℕ, ◌+◌, ◌-◌, ◌/◌, ◌%◌, ◌<◌, ◌≤◌, Bool, true, false, cond, Some, None, sym, refl, ap, ◌∙◌, subst, add-one, arith}
use Rattle.std.proofs.lemmas.Bool.Decides.{nat_tests}
use Rattle.std.proofs.lemmas.Bool.{cond-true}
use Rattle.calendar.specs.declared.dates.Date.{Date}
use Rattle.calendar.specs.Gregorian.{month_length, months_days, years_days, first_day, last_day, day_number, next_date, date_after, is_month, is_date, is_day, day_of, date_of}
use Rattle.calendar.specs.Weekdays.{Week}
use Rattle.calendar.specs.Laws.{DayByDay, Undo, EveryDay, EveryDate, MonthDays, MonthsInARow}
use Rattle.calendar.proofs.YearForm.{year_form}
use Rattle.calendar.proofs.Numbering.{Valid, at, date_suc, date_at, undo_day, undo_date, century, date_from_lem, valid_from, first_month, first_year, length_from, length_to}

pub some_from : {A : Type 0} (b : Bool) (x y : A) → cond b (Some y) None ≡ Some x → (b ≡ true) × (x ≡ y)
some_from true x y e = (refl, cc)
some_from false x y e = let z : ◌≡◌ {A = ℕ} 0 1 = cc in absurd (omega arith)

is_day_lem : (d : ℕ) → d ≤ 36524 → is_day d ≡ true
is_day_lem d h = grind (arith, nat_tests)

day_is : (d : ℕ) → is_day d ≡ true → d ≤ 36524
day_is d h = grind (arith, nat_tests)

-- the date of a day, where that is known
pub date_of_lem : (d : ℕ) (x : Date) → d ≤ 36524 → date_after d ≡ x → date_of d ≡ Some x
date_of_lem d x h e = cond-true _ _ _ (is_day_lem d h) ∙ ap Some e

day_after : (d : ℕ) (x : Date) → d < 36524 → date_of d ≡ Some x → date_of (d + 1) ≡ Some (next_date x)
day_after d x h e =
    let s = some_from (is_day d) x (date_after d) e in
    date_of_lem (d + 1) (next_date x) (omega arith) (ap date_after (add-one d) ∙ date_suc d ∙ ap next_date (sym s.1))

day_none : date_of 0 ≡ Some (at 2000 1 1)
unfolding date_after
day_none = refl

pub day_by_day : DayByDay
day_by_day = record { first = day_none; after = day_after; past = λ d h. grind (arith, nat_tests) }

day_back : (d : ℕ) (x : Date) → date_of d ≡ Some x → day_of x ≡ Some d
day_back d x e =
    let s = some_from (is_day d) x (date_after d) e in
    let u = undo_day d in
    let n : day_number x ≡ d = ap day_number s.1 ∙ u.1 in
    let v : Valid x = subst Valid (sym s.1) u.0 in
    let k = date_from_lem x v (omega (arith, day_is d s.0)) in
    cond-true _ _ _ k ∙ ap Some n

date_back : (d : ℕ) (x : Date) → day_of x ≡ Some d → date_of d ≡ Some x
date_back d x e =
    let s = some_from (is_date x) d (day_number x) e in
    let v = valid_from x s.0 in
    let b = century x v.0 v.1 in
    date_of_lem d x (omega (arith, s.1)) (ap date_after s.1 ∙ undo_date x v.0)

pub undo : Undo
undo d x = (day_back d x, date_back d x)

pub every_date : EveryDate
every_date x h =
    let v = valid_from x h in
    let b = century x v.0 v.1 in
    (day_number x, omega arith, cond-true _ _ _ h)

pub every_day : EveryDay
every_day d h =
    let u = undo_day d in
    (date_after d, date_from_lem (date_after d) u.0 (omega (arith, u.1)), date_of_lem d (date_after d) h refl)

-- a month of the hundred years, by its limits
pub record Known (y m : ℕ) : Type 0 where
  pub from : 2000 ≤ y
  pub to : y ≤ 2099
  pub month_from : 1 ≤ m
  pub month_to : m ≤ 12

pub known : (y m : ℕ) → is_month y m ≡ true → Known y m
known y m h = record { from = grind (arith, nat_tests); to = grind (arith, nat_tests); month_from = grind (arith, nat_tests); month_to = grind (arith, nat_tests) }

pub end_of : (y m : ℕ) → first_day y m + month_length y m ≡ last_day y m + 1
unfolding last_day
end_of y m = omega (arith, length_from y m)

-- the days of a month lie in the hundred years
inside : (y m : ℕ) → Known y m → last_day y m ≤ 36524
unfolding day_number
inside y m k =
    let l = length_from y m in
    let e = end_of y m in
    let v : Valid (at y m (month_length y m)) = record { from = k.from; month_from = k.month_from; month_to = k.month_to; day_from = omega arith; day_to = omega arith } in
    omega (arith, century (at y m (month_length y m)) v k.to)

pub month_days : MonthDays
month_days y m d h a b =
    let k = known y m h in
    let e = end_of y m in
    let l = inside y m k in
    let c = date_at y m (d - first_day y m) k.from k.month_from k.month_to (omega arith) in
    let f : first_day y m + (d - first_day y m) ≡ d = omega arith in
    date_of_lem d _ (omega arith) (ap date_after (sym f) ∙ c)

first_of_all : first_day 2000 1 ≡ 0
unfolding first_day years_days months_days
first_of_all = refl

last_of_all : last_day 2099 12 ≡ 36524
unfolding last_day first_day years_days months_days
last_of_all = refl

pub months_in_a_row : MonthsInARow
months_in_a_row = record {
  start = first_of_all;
  end = last_of_all;
  in_year = λ y m h l. first_month y m (known y m h).month_from ∙ end_of y m;
  new_year = λ y h. first_year y (known y 12 h).from ∙ end_of y 12;
  least = λ y m h. omega (arith, end_of y m, length_from y m);
  most = λ y m h. (omega (arith, end_of y m, length_to y m), inside y m (known y m h));
}

-- the month after a month
pub next_in_year : (y m : ℕ) → is_month y m ≡ true → m < 12 → is_month y (m + 1) ≡ true
next_in_year y m h l = grind (arith, nat_tests)

pub first_in_year : (y m : ℕ) → is_month y m ≡ true → m < 12 → first_day y (m + 1) ≡ last_day y m + 1
first_in_year = months_in_a_row.in_year

pub next_year : (y m : ℕ) → is_month y m ≡ true → 12 ≤ m → last_day y m < 36524 → is_month (y + 1) 1 ≡ true
next_year y m h l e =
    let k = known y m h in
    let f = ap (last_day y) (let d : m ≡ 12 = omega arith in d) in
    let g : (y ≡ 2099 → ⊥) = λ d. let x = ap (λ z. last_day z 12) d in omega (arith, f, x, last_of_all) in
    let s : y < 2099 = omega arith in
    grind (arith, nat_tests)

pub first_of_year : (y m : ℕ) → is_month y m ≡ true → 12 ≤ m → first_day (y + 1) 1 ≡ last_day y m + 1
first_of_year y m h l =
    let d : m ≡ 12 = let k = known y m h in omega arith in
    first_year y (known y m h).from ∙ end_of y 12 ∙ ap (λ z. last_day y z + 1) (sym d)

-- where the search for a day's month begins
pub begun_known : (d : ℕ) → d ≤ 36524 → is_month (2000 + d / 366) 1 ≡ true
begun_known d h = grind (arith, nat_tests)

pub begun_before : (d : ℕ) → d ≤ 36524 → first_day (2000 + d / 366) 1 ≤ d
begun_before d h = omega (arith, year_form (2000 + d / 366) (omega arith) (omega arith))

day_zero : day_of (at 2000 1 1) ≡ Some 0
unfolding day_number first_day years_days months_days
day_zero = refl

seven : (d : ℕ) → (d + 7) % 7 ≡ d % 7
seven d = omega arith

pub week : Week
week = record {
  first = (day_zero, refl);
  second = refl;
  others = λ d a b. grind (arith, nat_tests);
  again = λ d. rw seven refl;
}

-- what each call's laws and loops rest on
pub ruleset of_days = (undo, every_date)

pub ruleset of_dates = (day_by_day, undo, every_day, begun_known, begun_before, end_of, length_from, month_days)

pub ruleset of_next = (next_in_year, next_year, first_in_year, first_of_year)

pub ruleset of_months = (months_in_a_row, month_days)
