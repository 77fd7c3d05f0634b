-- Digits before what is gathered of a figure's text.
use Rattle.std.proofs.Common.{◌≡◌, ℕ, zero, suc, ◌+◌, ◌-◌, ◌/◌, ◌%◌, ◌^◌, ◌<◌, ◌≤◌, List, [], ◌∷◌, ◌++◌, length, drop, set, decimal, refl, ap, ◌∙◌, append_assoc, pow-suc, add-one, arith, length-append}
use native.Mathlib.Nat.{div-div-eq-div-mul}
use Rattle.std.proofs.lemmas.List.{drop-set}
use Rattle.std.proofs.lemmas.Fmt.{decimal_step, decimal_digit}
use Rattle.ledger.specs.LineText.{last_digits, fraction}
use Rattle.monthly.specs.declared.cell.Cell.{Cell}
use Rattle.monthly.specs.Cells.{places_of, cell}

-- a byte put before what stands
pub one_before : (xs : List ℕ) (f b : ℕ) → 0 < f → f ≤ length xs → drop (f - 1) (set xs (f - 1) b) ≡ b ∷ drop f xs
one_before xs f b p h = let e : (f - 1) + 1 ≡ f = omega arith in let d = drop-set xs (f - 1) b (omega arith) in cc

-- a number, digit by digit from its last
pub digit_more : (rest : ℕ) (now then all : List ℕ) → 10 ≤ rest → rest < 2 ^ 64 → then ≡ (48 + rest % 10) ∷ now → decimal rest ++ now ≡ all → decimal (rest / 10) ++ then ≡ all
digit_more rest now then all big fits e inv =
    let s = decimal_step rest big fits in
    let a = append_assoc (decimal (rest / 10)) ((48 + rest % 10) ∷ []) now in
    cc

pub digit_less : (rest : ℕ) → 10 ≤ rest → rest < 2 ^ 64 → length (decimal rest) ≡ length (decimal (rest / 10)) + 1
digit_less rest big fits = ap length (decimal_step rest big fits) ∙ length-append (decimal (rest / 10)) _

pub first_digit : (rest : ℕ) (now then all : List ℕ) → rest < 10 → then ≡ (48 + rest) ∷ now → decimal rest ++ now ≡ all → then ≡ all
first_digit rest now then all small e inv = let d = decimal_digit rest small in cc

-- the last digits of a number
pub place_more : (k n : ℕ) → n / 10 ^ k / 10 ≡ n / 10 ^ (k + 1)
place_more k n = rw (add-one, pow-suc) (div-div-eq-div-mul n (10 ^ k) 10)

last_digits_more : (k n : ℕ) → last_digits (k + 1) n ≡ (48 + n / 10 ^ k % 10) ∷ last_digits k n
last_digits_more k n = rw add-one refl

pub place_step : (k n rest : ℕ) (now then base : List ℕ) → rest ≡ n / 10 ^ k → now ≡ last_digits k n ++ base → then ≡ (48 + rest % 10) ∷ now → then ≡ last_digits (k + 1) n ++ base
place_step k n rest now then base er en et = let p = last_digits_more k n in cc

-- and the comma before them
pub comma : (k n : ℕ) (base now then : List ℕ) → 0 < k → now ≡ last_digits k n ++ base → then ≡ 44 ∷ now → then ≡ fraction k n ++ base
comma zero n base now then h e g = absurd (omega arith)
comma (suc k) n base now then h e g = cc

pub no_comma : (k n : ℕ) (base now : List ℕ) → k ≤ 0 → now ≡ last_digits k n ++ base → now ≡ fraction k n ++ base
no_comma zero n base now h e = e
no_comma (suc k) n base now h e = absurd (omega arith)

-- a figure
pub cell_is : (c : Cell) (k rest : ℕ) (none ended tail all : List ℕ) → k ≡ places_of c.places → none ≡ [] → ended ≡ c.end ∷ none
    → tail ≡ fraction k c.value ++ ended → rest ≡ c.value / 10 ^ k → all ≡ decimal rest ++ tail → all ≡ cell c
unfolding cell
cell_is c k rest none ended tail all ek en ee et er ea =
    let a = append_assoc (decimal (c.value / 10 ^ places_of c.places)) (fraction (places_of c.places) c.value) (c.end ∷ []) in
    cc
