-- A date's text by widths: a number filled up with zeros to its digits.
use Rattle.std.proofs.Common.{◌≡◌, ℕ, ◌+◌, ◌-◌, ◌/◌, ◌%◌, ◌^◌, ◌<◌, false, List, [], ◌∷◌, ◌++◌, length, replicate, codes, decimal, sym, refl, ap, ◌∙◌, ⊎_elim, append_assoc, arith, length-append, append-nil}
use Rattle.std.specs.Fmt.{digits, padded_integral, char_count, format_spec}
use Rattle.std.proofs.lemmas.Bool.{cases_lt}
use Rattle.std.proofs.lemmas.List.{replicate-append-replicate}
use Rattle.std.proofs.lemmas.Fmt.{decimal_digit, decimal_step, decimal_nonempty}
use Rattle.calendar.specs.declared.dates.Date.{Date}
use Rattle.calendar.specs.DateText.{date_text}

-- what `{:0w}` writes
abbrev pub padded : ℕ → ℕ → List ℕ
padded w n = padded_integral (format_spec 32 0 4 w (2 ^ 64 - 1)) false [] (decimal n)

abbrev filled : ℕ → List ℕ → List ℕ
filled w xs = replicate (w - length xs) 48 ++ xs

padded_lem : (w n : ℕ) → padded w n ≡ filled w (decimal n)
unfolding padded_integral char_count
padded_lem w n =
    let short : w - length (decimal n) - 0 - 0 ≡ w - length (decimal n) = omega arith in
    rw (short, append-nil (decimal n))

filled_more : (w : ℕ) (xs : List ℕ) (b : ℕ) → filled (w + 2) (xs ++ (b ∷ [])) ≡ filled (w + 1) xs ++ (b ∷ [])
filled_more w xs b =
    let e : w + 2 - length (xs ++ (b ∷ [])) ≡ w + 1 - length xs = omega (arith, length-append xs (b ∷ [])) in
    rw e (sym (append_assoc (replicate (w + 1 - length xs) 48) xs (b ∷ [])))

filled_one : (w b : ℕ) → filled (w + 2) (b ∷ []) ≡ filled (w + 1) (48 ∷ []) ++ (b ∷ [])
filled_one w b =
    let e : w + 2 - 1 ≡ w + 1 = omega arith in
    let f : w + 1 - 1 ≡ w = omega arith in
    rw (e, f, ← replicate-append-replicate {A = ℕ} w 1 48) refl

decimal_zero : decimal 0 ≡ 48 ∷ []
unfolding digits
decimal_zero = refl

-- a number's last digit stands after the rest, which takes one place less
pub padded_more : (w n : ℕ) → n < 2 ^ 64 → padded (w + 2) n ≡ padded (w + 1) (n / 10) ++ decimal (n % 10)
padded_more w n h = ⊎_elim
    (λ small.
    let p : decimal (n / 10) ≡ 48 ∷ [] = let z : n / 10 ≡ 0 = omega arith in ap decimal z ∙ decimal_zero in
    let q : decimal (n % 10) ≡ (48 + n) ∷ [] = let z : n % 10 ≡ n = omega arith in ap decimal z ∙ decimal_digit n small in
    padded_lem (w + 2) n ∙ ap (filled (w + 2)) (decimal_digit n small) ∙ filled_one w (48 + n) ∙ rw (padded_lem (w + 1), p, q) refl)
    (λ large.
    let q = decimal_digit (n % 10) (omega arith) in
    padded_lem (w + 2) n ∙ ap (filled (w + 2)) (decimal_step n large h) ∙ filled_more w (decimal (n / 10)) (48 + n % 10) ∙ rw (padded_lem (w + 1), q) refl)
    (cases_lt n 10)

padded_one : (n : ℕ) → n < 2 ^ 64 → padded 1 n ≡ decimal n
padded_one n h =
    let l = decimal_nonempty n h in
    let e : 1 - length (decimal n) ≡ 0 = omega arith in
    padded_lem 1 n ∙ rw e refl

pub two : (n : ℕ) → n < 2 ^ 32 → padded 2 n ≡ decimal (n / 10) ++ decimal (n % 10)
two n h = padded_more 0 n (omega arith) ∙ ap (λ (xs : List ℕ). xs ++ decimal (n % 10)) (padded_one (n / 10) (omega arith))

four : (n : ℕ) → n < 2 ^ 32 → padded 4 n ≡ decimal (n / 1000) ++ (decimal (n / 100 % 10) ++ (decimal (n / 10 % 10) ++ decimal (n % 10)))
four n h =
    let a : n / 10 / 10 ≡ n / 100 = omega arith in
    let b : n / 100 / 10 ≡ n / 1000 = omega arith in
    rw (padded_more 2 n (omega arith), padded_more 1 (n / 10) (omega arith), a, two (n / 100) (omega arith), b) (simp append_assoc)

pub date_text_lem : (x : Date) → x.year < 2 ^ 32 → x.month < 2 ^ 32 → x.day < 2 ^ 32 → padded 4 x.year ++ (codes "-" ++ (padded 2 x.month ++ (codes "-" ++ padded 2 x.day))) ≡ date_text x
unfolding date_text
date_text_lem x y m d = rw (four x.year y, two x.month m, two x.day d) (simp append_assoc)
