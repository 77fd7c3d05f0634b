-- What is written of a date is read, and nothing else.
use Rattle.std.proofs.Common.{◌≡◌, ℕ, ◌+◌, ◌-◌, ◌*◌, ◌/◌, ◌%◌, ◌<◌, ◌≤◌, Bool, true, false, cond, ◌&&◌, T, List, [], ◌∷◌, length, get_or, Some, None, sym, refl, ap, ◌∙◌, subst, arith, eqb→eq}
use Rattle.std.specs.Bool.{then_some}
use Rattle.std.proofs.lemmas.Bool.Decides.{nat_tests}
use Rattle.std.proofs.lemmas.List.FromFn.{fill_by_all}
use Rattle.std.proofs.lemmas.Fmt.{decimal_digit}
use Rattle.calendar.specs.declared.dates.Date.{Date}
use Rattle.calendar.specs.Gregorian.{is_date}
use Rattle.calendar.specs.DateText.{date_text, is_digit, is_hyphen, is_shaped, two_digits, written_date, date_from, ReadBack}
use Rattle.calendar.proofs.Numbering.{at, valid_from, length_to}
use Rattle.calendar.proofs.Promises.{some_from}

-- the ten bytes that are written of a date of so many digits
unfoldable ten_bytes : Date → List ℕ
ten_bytes x =
    (48 + x.year / 1000) ∷ (48 + x.year / 100 % 10) ∷ (48 + x.year / 10 % 10) ∷ (48 + x.year % 10) ∷ 45
    ∷ (48 + x.month / 10) ∷ (48 + x.month % 10) ∷ 45 ∷ (48 + x.day / 10) ∷ (48 + x.day % 10) ∷ []

text_is : (x : Date) → x.year < 10000 → x.month < 100 → x.day < 100 → date_text x ≡ ten_bytes x
unfolding date_text ten_bytes
text_is x y m d =
    rw (decimal_digit (x.year / 1000) (omega arith), decimal_digit (x.year / 100 % 10) (omega arith), decimal_digit (x.year / 10 % 10) (omega arith), decimal_digit (x.year % 10) (omega arith), decimal_digit (x.month / 10) (omega arith), decimal_digit (x.month % 10) (omega arith), decimal_digit (x.day / 10) (omega arith), decimal_digit (x.day % 10) (omega arith)) refl

shaped_ten : (x : Date) → x.year < 10000 → x.month < 100 → x.day < 100 → is_shaped (ten_bytes x) ≡ true
unfolding ten_bytes
shaped_ten x y m d = grind (arith, nat_tests)

pub same_date : (a b c a' b' c' : ℕ) → a ≡ a' → b ≡ b' → c ≡ c' → at a b c ≡ at a' b' c'
same_date a b c a' b' c' p q r = cc

written_ten : (x : Date) → written_date (ten_bytes x) ≡ x
unfolding ten_bytes written_date
written_ten x =
    let h : x.year / 10 / 10 ≡ x.year / 100 = omega arith in
    let t : x.year / 100 / 10 ≡ x.year / 1000 = omega arith in
    let y : ((48 + x.year / 1000 - 48) * 10 + (48 + x.year / 100 % 10 - 48)) * 100 + ((48 + x.year / 10 % 10 - 48) * 10 + (48 + x.year % 10 - 48)) ≡ x.year = omega arith in
    let m : (48 + x.month / 10 - 48) * 10 + (48 + x.month % 10 - 48) ≡ x.month = omega arith in
    let d : (48 + x.day / 10 - 48) * 10 + (48 + x.day % 10 - 48) ≡ x.day = omega arith in
    same_date _ _ _ x.year x.month x.day y m d

-- the limits of a date that exists
pub record Small (x : Date) : Type 0 where
  pub year : x.year < 10000
  pub month : x.month < 100
  pub day : x.day < 100

small : (x : Date) → is_date x ≡ true → Small x
small x h =
    let v = valid_from x h in
    record { year = omega (arith, v.1); month = omega (arith, v.0.month_to); day = omega (arith, v.0.day_to, length_to x.year x.month) }

pub taken : (t : List ℕ) (x : Date) → is_shaped t ≡ true → written_date t ≡ x → is_date x ≡ true → date_from t ≡ Some x
taken t x s e h =
    let d : is_date (written_date t) ≡ true = ap is_date e ∙ h in
    rw (s, d) (ap Some e)

pub read_back : ReadBack
read_back x h =
    let l = small x h in
    rw (text_is x l.year l.month l.day) (taken (ten_bytes x) x (shaped_ten x l.year l.month l.day) (written_ten x) h)

-- a list of ten is its ten elements
ten : (t : List ℕ) → length t ≡ 10 → t ≡ get_or t 0 0 ∷ get_or t 1 0 ∷ get_or t 2 0 ∷ get_or t 3 0 ∷ get_or t 4 0 ∷ get_or t 5 0 ∷ get_or t 6 0 ∷ get_or t 7 0 ∷ get_or t 8 0 ∷ get_or t 9 0 ∷ []
ten t h = fill_by_all (λ k. get_or t k 0) t 10 0 h (λ k l. refl)

-- the digits of a number of four
digits_four : (a b c d y : ℕ) → a ≤ 9 → b ≤ 9 → c ≤ 9 → d ≤ 9 → y ≡ (a * 10 + b) * 100 + (c * 10 + d) → (y / 1000 ≡ a) × (y / 100 % 10 ≡ b) × (y / 10 % 10 ≡ c) × (y % 10 ≡ d)
digits_four a b c d y la lb lc ld e =
    let h : y / 100 ≡ a * 10 + b = omega arith in
    let t : y / 10 ≡ (a * 10 + b) * 10 + c = omega arith in
    (omega arith, omega arith, omega arith, omega arith)

pub record Digit (b : ℕ) : Type 0 where
  pub low : 48 ≤ b
  pub high : b ≤ 57

pub record Shaped (t : List ℕ) : Type 0 where
  pub ten : length t ≡ 10
  pub digits : Digit (get_or t 0 0) × Digit (get_or t 1 0) × Digit (get_or t 2 0) × Digit (get_or t 3 0) × Digit (get_or t 5 0) × Digit (get_or t 6 0) × Digit (get_or t 8 0) × Digit (get_or t 9 0)
  pub hyphens : (get_or t 4 0 ≡ 45) × (get_or t 7 0 ≡ 45)

both : (a b : Bool) → a && b ≡ true → (a ≡ true) × (b ≡ true)
both true b h = (refl, h)
both false b h = let z : ◌≡◌ {A = ℕ} 0 1 = cc in absurd (omega arith)

digit : (b : ℕ) → is_digit b ≡ true → Digit b
digit b h = record { low = grind (arith, nat_tests); high = grind (arith, nat_tests) }

hyphen : (b : ℕ) → is_hyphen b ≡ true → b ≡ 45
hyphen b h = grind (arith, nat_tests)

shaped : (t : List ℕ) → is_shaped t ≡ true → Shaped t
shaped t h =
    let h0 = both _ _ h in
    let h1 = both _ _ h0.1 in
    let h2 = both _ _ h1.1 in
    let h3 = both _ _ h2.1 in
    let h4 = both _ _ h3.1 in
    let h5 = both _ _ h4.1 in
    let h6 = both _ _ h5.1 in
    let h7 = both _ _ h6.1 in
    let h8 = both _ _ h7.1 in
    let h9 = both _ _ h8.1 in
    record {
      ten = eqb→eq _ _ (subst T (sym h0.0) tt);
      digits = (digit _ h1.0, digit _ h2.0, digit _ h3.0, digit _ h4.0, digit _ h6.0, digit _ h7.0, digit _ h9.0, digit _ h9.1);
      hyphens = (hyphen _ h5.0, hyphen _ h8.0);
    }

bytes_are : (t : List ℕ) → Shaped t → ten_bytes (written_date t) ≡ get_or t 0 0 ∷ get_or t 1 0 ∷ get_or t 2 0 ∷ get_or t 3 0 ∷ get_or t 4 0 ∷ get_or t 5 0 ∷ get_or t 6 0 ∷ get_or t 7 0 ∷ get_or t 8 0 ∷ get_or t 9 0 ∷ []
unfolding ten_bytes written_date
bytes_are t s =
    let a0 = s.digits.0 in
    let a1 = s.digits.1 in
    let a2 = s.digits.2 in
    let a3 = s.digits.3 in
    let b0 = s.digits.4 in
    let b1 = s.digits.5 in
    let c0 = s.digits.6 in
    let c1 = s.digits.7 in
    let y = digits_four (get_or t 0 0 - 48) (get_or t 1 0 - 48) (get_or t 2 0 - 48) (get_or t 3 0 - 48) _ (omega arith) (omega arith) (omega arith) (omega arith) refl in
    let e0 : 48 + (two_digits t 0 * 100 + two_digits t 2) / 1000 ≡ get_or t 0 0 = omega arith in
    let e1 : 48 + (two_digits t 0 * 100 + two_digits t 2) / 100 % 10 ≡ get_or t 1 0 = omega arith in
    let e2 : 48 + (two_digits t 0 * 100 + two_digits t 2) / 10 % 10 ≡ get_or t 2 0 = omega arith in
    let e3 : 48 + (two_digits t 0 * 100 + two_digits t 2) % 10 ≡ get_or t 3 0 = omega arith in
    let e5 : 48 + two_digits t 5 / 10 ≡ get_or t 5 0 = omega arith in
    let e6 : 48 + two_digits t 5 % 10 ≡ get_or t 6 0 = omega arith in
    let e8 : 48 + two_digits t 8 / 10 ≡ get_or t 8 0 = omega arith in
    let e9 : 48 + two_digits t 8 % 10 ≡ get_or t 9 0 = omega arith in
    rw (e0, e1, e2, e3, e5, e6, e8, e9, s.hyphens.0, s.hyphens.1) refl

pub only_dates : (t : List ℕ) (x : Date) → date_from t ≡ Some x → is_date x ≡ true
only_dates t x h =
    let s = some_from (is_shaped t && is_date (written_date t)) x (written_date t) h in
    ap is_date s.1 ∙ (both (is_shaped t) (is_date (written_date t)) s.0).1

pub only_texts : (t : List ℕ) (x : Date) → date_from t ≡ Some x → t ≡ date_text x
only_texts t x h =
    let s = some_from (is_shaped t && is_date (written_date t)) x (written_date t) h in
    let k = shaped t (both (is_shaped t) (is_date (written_date t)) s.0).0 in
    let l = small x (only_dates t x h) in
    ten t k.ten ∙ sym (bytes_are t k) ∙ ap ten_bytes (sym s.1) ∙ sym (text_is x l.year l.month l.day)

-- the three ways that a text is answered
then_cond : {A : Type 0} (b : Bool) (x : A) → then_some b x ≡ cond b (Some x) None
then_cond true x = refl
then_cond false x = refl

pub read_as : (t : List ℕ) (x : Date) → is_shaped t ≡ true → written_date t ≡ x → then_some (is_date x) x ≡ date_from t
read_as t x s e = rw (s, e) (then_cond (is_date x) x)

pub shaped_by : (t : List ℕ) → length t ≡ 10 → get_or t 4 0 ≡ 45 → get_or t 7 0 ≡ 45
    → (is_digit (get_or t 0 0) && is_digit (get_or t 1 0)) ≡ true → (is_digit (get_or t 2 0) && is_digit (get_or t 3 0)) ≡ true
    → (is_digit (get_or t 5 0) && is_digit (get_or t 6 0)) ≡ true → (is_digit (get_or t 8 0) && is_digit (get_or t 9 0)) ≡ true
    → is_shaped t ≡ true
shaped_by t l h g a b c d = grind (arith, nat_tests)

pub unhyphened_4 : (t : List ℕ) → (get_or t 4 0 ≡ 45 → ⊥) → None ≡ date_from t
unhyphened_4 t h = grind (arith, nat_tests)

pub unhyphened_7 : (t : List ℕ) → (get_or t 7 0 ≡ 45 → ⊥) → None ≡ date_from t
unhyphened_7 t h = grind (arith, nat_tests)

pub ruleset of_texts = (read_back, only_dates, only_texts)
