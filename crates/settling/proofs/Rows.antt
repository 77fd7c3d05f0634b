-- An evidence row, word by word.
use Rattle.std.proofs.Common.{◌≡◌, ℕ, zero, suc, ◌-◌, ◌<◌, ◌≤◌, ◌≢◌, List, [], ◌∷◌, ◌++◌, map, length, get_or, ℤ, pos, sym, refl, ap, ◌∙◌, subst, inl, inr, arith, length-append}
use Rattle.std.proofs.Math.ListN.{get_or-map}
use Rattle.std.proofs.lemmas.List.{get_or_past, get_or_append_left, get_or-append_right, length-map, get_or-map as get_or-map_std}
use Rattle.std.proofs.lemmas.Bool.{cases_lt}
use Rattle.ledger.specs.Settling.{filled_to}
use Rattle.settling.specs.declared.history_day.HistoryDay.{HistoryDay}
use Rattle.settling.specs.History.{days_of}
use Rattle.settling.specs.Evidence.{history_row}

length_filled : (n : ℕ) (xs : List ℤ) → length (filled_to n xs) ≡ n
length_filled zero xs = refl
length_filled (suc n) [] = ap suc (length_filled n [])
length_filled (suc n) (x ∷ xs) = ap suc (length_filled n xs)

filled_at : (n : ℕ) (xs : List ℤ) (j : ℕ) → j < n → get_or (filled_to n xs) j (pos 0) ≡ get_or xs j (pos 0)
filled_at zero xs j h = absurd (omega arith)
filled_at (suc n) [] zero h = refl
filled_at (suc n) [] (suc j) h = filled_at n [] j (omega arith)
filled_at (suc n) (x ∷ xs) zero h = refl
filled_at (suc n) (x ∷ xs) (suc j) h = filled_at n xs j (omega arith)

abbrev day_words : List ℕ → List ℤ
day_words days = filled_to 15 (map (λ d. pos d) days)

-- the last two words
lead_at : (days : List ℕ) (c l : ℤ) (j : ℕ) → 15 ≤ j → get_or (day_words days ++ (c ∷ (l ∷ []))) j (pos 0) ≡ get_or (c ∷ (l ∷ [])) (j - 15) (pos 0)
lead_at days c l j h = get_or-append_right (day_words days) (c ∷ (l ∷ [])) 15 j (pos 0) (length_filled 15 (map (λ d. pos d) days)) h

pub now_at : (days : List ℕ) (c l : ℤ) (k : ℕ) → k ≡ 17 → c ≡ get_or (history_row days c l) k (pos 0)
now_at days c l k e = let P : ℕ → Type 0 = λ i. c ≡ get_or (history_row days c l) i (pos 0) in subst P (sym e) (sym (lead_at days c l 15 (omega arith)))

pub then_at : (days : List ℕ) (c l : ℤ) (k : ℕ) → k ≡ 18 → l ≡ get_or (history_row days c l) k (pos 0)
then_at days c l k e = let P : ℕ → Type 0 = λ i. l ≡ get_or (history_row days c l) i (pos 0) in subst P (sym e) (sym (lead_at days c l 16 (omega arith)))

-- the word of a day, or 0 past the days and past the row
pub day_at : (days : List ℕ) (c l : ℤ) (k : ℕ) → length days ≤ 15 → 2 ≤ k → k ≢ 17 → k ≢ 18 → pos (get_or days (k - 2) 0) ≡ get_or (history_row days c l) k (pos 0)
day_at days c l zero h a e f = absurd (omega arith)
day_at days c l (suc zero) h a e f = absurd (omega arith)
day_at days c l (suc (suc j)) h a e f =
    let i : suc (suc j) - 2 ≡ j = omega arith in
    ap (λ (m : ℕ). pos (get_or days m 0)) i ∙
    elim (cases_lt j 15) [
      | inl m ↦ (sym (get_or_append_left (day_words days) (c ∷ (l ∷ [])) (pos 0) j (rw length_filled m) ∙ (filled_at 15 (map (λ d. pos d) days) j m ∙ get_or-map (λ d. pos d) days j 0)))
      | inr m ↦ (let past : 17 ≤ j = omega arith in ap pos (get_or_past days j 0 (omega arith)) ∙ sym (lead_at days c l j m ∙ get_or_past (c ∷ (l ∷ [])) (j - 15) (pos 0) (omega arith)))
    ]

pub length_row : (days : List ℕ) (c l : ℤ) → length (history_row days c l) ≡ 19
length_row days c l = simp length-append (let n = length_filled 15 (map (λ d. pos d) days) in omega (arith, n))

-- the day at a place, or past the days
pub day_there : (xs : List HistoryDay) (k : ℕ) (x : HistoryDay) → k < length xs → x ≡ get_or xs k x → x.day ≡ get_or (days_of xs) k 0
day_there xs k x h e = ap (λ (y : HistoryDay). y.day) e ∙ sym (get_or-map_std (λ (y : HistoryDay). y.day) xs k x 0 h)

pub no_day : (xs : List HistoryDay) (k : ℕ) → length xs ≤ k → 0 ≡ get_or (days_of xs) k 0
no_day xs k h = sym (get_or_past (days_of xs) k 0 (rw length-map h))
