-- One resource settled by its history.
use Rattle.std.proofs.Common.{◌≡◌, ℕ, false, List, [], ◌∷◌, ℤ, ◌+ℤ◌, Some, Ok, Err, Option, sym, refl, ap, ◌∙◌, arith, w32, w64, to_z, of_z}
use mathlib.Core.Path.{fun_ext}
use Rattle.std.proofs.lemmas.Int.{ints}
use Rattle.metering.specs.declared.curve.Curve.{Curve}
use Rattle.rulebooks.specs.Rules.{Rules}
use Rattle.ledger.specs.declared.terms.Terms.{Terms}
use Rattle.ledger.specs.declared.records.Booked.{Booked}
use Rattle.ledger.specs.declared.records.Order.{Order}
use Rattle.ledger.specs.declared.records.Resource.{Resource}
use Rattle.settling.specs.declared.settled.Settled.{Settled}
use Rattle.settling.specs.declared.history_day.HistoryDay.{HistoryDay}
use Rattle.ledger.specs.Words.{Granted, ◌>>=◌, lead, ordered, total, total_of}
use Rattle.ledger.specs.Settling.{Held, reading_on, by_history, latest, needs}
use Rattle.settling.specs.History.{Near, Kept, days_of, fits, summed, summed_in, lead_sum, quarter_with, by_sums}
use Rattle.settling.specs.Evidence.{history_row, given}

pub narrowed : (z : ℤ) → Near 120000000 z → to_z w32 (of_z w32 (to_z w64 (of_z w64 z))) ≡ z
narrowed z h = omega (arith, ints)

abbrev pub shown : List ℕ → ℤ → ℤ → ℤ → Granted Settled
shown days now l a = Ok (record { amount = a; evidence = Some (history_row days now l) })

given_is : (days : List ℕ) (now l : ℤ) (m : Granted ℤ) → given (m >>= (λ a. Ok (record { days = days; lead_then = l; lead_now = now; estimated = false; amount = a }))) ≡ (m >>= shown days now l)
given_is days now l (Ok a) = refl
given_is days now l (Err e) = refl

pub history_is : (R : Rules) (sums : ℕ → ℤ) (o : Order) (r : ℕ) (x : Resource) (c : Curve) (days : List ℕ) (l now : ℤ) (m : Granted ℤ)
    → l ≡ total sums (lead o) → now ≡ lead_sum o c → m ≡ total_of (quarter_with R sums o r x c l now) (ordered o)
    → given (by_sums R sums o r x c days) ≡ (m >>= shown days now l)
history_is R sums o r x c days l now m el en em =
    given_is days (lead_sum o c) (total sums (lead o)) (total_of (quarter_with R sums o r x c (total sums (lead o)) (lead_sum o c)) (ordered o))
    ∙ (ap (λ (z : ℤ). total_of (quarter_with R sums o r x c z (lead_sum o c)) (ordered o) >>= shown days (lead_sum o c) z) (sym el)
    ∙ (ap (λ (z : ℤ). total_of (quarter_with R sums o r x c l z) (ordered o) >>= shown days z l) (sym en)
    ∙ ap (λ (v : Granted ℤ). v >>= shown days now l) (sym em)))

-- a sum over the curves held for some days is the sum over the days
sums_kept : (held : Held) (xs : List HistoryDay) → Kept held xs → (q : ℕ) → summed_in xs q ≡ summed held (days_of xs) q
sums_kept held [] k q = refl
sums_kept held (x ∷ xs) k q =
    ap (λ (m : Option Curve). reading_on m q +ℤ summed_in xs q) (sym k.0) ∙ ap (λ (z : ℤ). reading_on (held x.day) q +ℤ z) (sums_kept held xs k.1 q)

-- by the days found, with their curves
pub found_is : (t : Terms) (R : Rules) (held : Held) (bs : List Booked) (o : Order) (r : ℕ) (x : Resource) (c : Curve) (xs : List HistoryDay)
    → Kept held xs → Ok (days_of xs) ≡ latest r (needs R x) (fits t held bs o) o.day
    → given (by_sums R (summed_in xs) o r x c (days_of xs)) ≡ given (latest r (needs R x) (fits t held bs o) o.day >>= by_history R held o r x c)
found_is t R held bs o r x c xs k e =
    ap (λ (sums : ℕ → ℤ). given (by_sums R sums o r x c (days_of xs))) (fun_ext (sums_kept held xs k))
    ∙ ap (λ (v : Granted (List ℕ)). given (v >>= by_history R held o r x c)) e
