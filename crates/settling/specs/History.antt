-- The search for history days, and what the sums over them keep to.
use Rattle.std.specs.Prelude.{◌≡◌, ℕ, ◌-◌, ◌<◌, ◌≤◌, Bool, true, false, List, [], ◌∷◌, ◌++◌, map, ℤ, pos, ◌-ℤ◌, neg_ℤ, ◌≤ℤ◌, Some, None, Ok, Err, filter, Option}
use Rattle.ledger.specs.declared.terms.Terms.{Terms}
use Rattle.ledger.specs.declared.records.Order.{Order}
use Rattle.ledger.specs.declared.records.Booked.{Booked}
use Rattle.settling.specs.declared.history_day.HistoryDay.{HistoryDay}
use Rattle.metering.specs.declared.curve.Curve.{Curve}
use Rattle.rulebooks.specs.Rules.{Rules, answered}
use Rattle.ledger.specs.declared.records.Resource.{Resource}
use Rattle.ledger.specs.Words.{Granted, ◌>>=◌, at, worth, toward, ordered, lead, days_before, total, total_of}
use Rattle.ledger.specs.Settling.{Held, Part, reading_on, qualifies, ruled_at, direction_number}
use Rattle.ledger.specs.Book.{orders_in, busy_on}

-- the days that can stand in the history of an order
abbrev pub fits : Terms → Held → List Booked → Order → ℕ → Bool
fits t held bs o = qualifies t held (busy_on (orders_in bs)) (lead o ++ ordered o)

-- the days that pass, latest first, from the one before `before` back to `low`
abbrev pub passing : (ℕ → Bool) → ℕ → ℕ → List ℕ
passing test low before = filter test (days_before before (before - low))

-- the curve held, where the day passes
abbrev pub FoundOn : Bool → Option Curve → Option Curve → Type 0
FoundOn passes held None = passes ≡ false
FoundOn passes held (Some c) = (passes ≡ true) × (held ≡ Some c)

-- a history with one more day, under the curve held for it
pub record Added (held : Held) (day : ℕ) (old new : List HistoryDay) : Type 0 where
  pub one : HistoryDay
  pub day_is : one.day ≡ day
  pub curve_is : held day ≡ Some one.curve
  pub items : new ≡ old ++ (one ∷ [])

-- a day added to a history where the day passes, and the history as it was where it does not
abbrev pub Tried : Bool → Held → ℕ → List HistoryDay → List HistoryDay → Bool → Type 0
Tried passes held day old new false = (passes ≡ false) × (new ≡ old)
Tried passes held day old new true = (passes ≡ true) × Added held day old new

-- no day passes, and the history is as it was
pub record NoDay (test : ℕ → Bool) (low before : ℕ) (old new : List HistoryDay) : Type 0 where
  pub none : passing test low before ≡ []
  pub same : new ≡ old

-- the latest day that passes, added with the curve held for it
pub record NextDay (test : ℕ → Bool) (held : Held) (low before : ℕ) (old new : List HistoryDay) (day : ℕ) : Type 0 where
  pub above : low ≤ day
  pub below : day < before
  pub rest : passing test low before ≡ day ∷ passing test low day
  pub added : Added held day old new

-- each curve is the one held for its day
abbrev pub Kept : Held → List HistoryDay → Type 0
Kept held [] = Unit {0}
Kept held (x ∷ xs) = (held x.day ≡ Some x.curve) × Kept held xs

abbrev pub days_of : List HistoryDay → List ℕ
days_of xs = map (λ x. x.day) xs

-- the days that the vector lent holds, or the refusal
abbrev pub days_in : Granted (Unit {0}) → List HistoryDay → Granted (List ℕ)
days_in (Ok u) xs = Ok (days_of xs)
days_in (Err e) xs = Err e

-- the three sums: a quarter over the days, or over the curves found for them, and the lead quarters on the day
abbrev pub summed : Held → List ℕ → ℕ → ℤ
summed held days q = total (λ d. reading_on (held d) q) days

abbrev pub summed_in : List HistoryDay → ℕ → ℤ
summed_in xs q = total (λ x. worth (at x.curve q)) xs

abbrev pub lead_sum : Order → Curve → ℤ
lead_sum o c = total (λ q. worth (at c q)) (lead o)

-- one quarter, by the sums over the history days and the lead sums l and now
abbrev pub quarter_with : Rules → (ℕ → ℤ) → Order → ℕ → Resource → Curve → ℤ → ℤ → ℕ → Granted ℤ
quarter_with R sums o r x c l now q =
    ruled_at r q (answered R x.choice (direction_number o.direction) (sums q) l now) >>= (λ b. Ok (toward o.direction (worth (at c q) -ℤ b)))

-- a resource settled by its history, where only the sums over its days are known
abbrev pub by_sums : Rules → (ℕ → ℤ) → Order → ℕ → Resource → Curve → List ℕ → Granted Part
by_sums R sums o r x c days =
    total_of (quarter_with R sums o r x c (total sums (lead o)) (lead_sum o c)) (ordered o) >>= (λ a.
    Ok (record { days = days; lead_then = total sums (lead o); lead_now = lead_sum o c; estimated = false; amount = a }))

-- at most n, either way
pub record Near (n : ℕ) (z : ℤ) : Type 0 where
  pub low : neg_ℤ (pos n) ≤ℤ z
  pub high : z ≤ℤ pos n

abbrev pub NearOf : ℕ → Granted ℤ → Type 0
NearOf n (Ok z) = Near n z
NearOf n (Err e) = Unit {0}
