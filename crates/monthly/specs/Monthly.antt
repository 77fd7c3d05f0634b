-- A month from the parts of a book, and its sums.
use Rattle.std.specs.Prelude.{ℕ, ◌+◌, ◌*◌, ◌<◌, ◌≤◌, not, ◌&&◌, List, length, pos, Some, None, Ok, Err, Option, nat_le, slice_index_or}
use Rattle.calendar.specs.Gregorian.{is_month, first_day, last_day}
use Rattle.rulebooks.specs.Rounding.{rounded}
use Rattle.ledger.specs.declared.fault.BookFault.TheVariants.{Number, NoMonth}
use Rattle.ledger.specs.declared.terms.Terms.{Terms}
use Rattle.ledger.specs.declared.records.Booked.{Booked}
use Rattle.ledger.specs.declared.records.Outcome.{Outcome}
use Rattle.ledger.specs.declared.records.Declaration.{Declaration}
use Rattle.ledger.specs.declared.records.Direction.TheVariants.{Up}
use Rattle.ledger.specs.declared.records.Month.{Month}
use Rattle.monthly.specs.declared.month.Sums.{Sums}
use Rattle.ledger.specs.Words.{Granted, ◌>>=◌, unless, tally}
use Rattle.ledger.specs.Settling.{positive, cents}
use Rattle.ledger.specs.Book.{percent, outcomes_in, available, offered, days_of, month_figures}
use Rattle.ledger.specs.Standing.{are_modest}

-- the month of terms, orders and declarations
abbrev pub month_from : Terms → List Booked → List Declaration → ℕ → ℕ → Granted Month
month_from t os xs y m =
    unless (not (is_month y m)) NoMonth >>= (λ _.
    outcomes_in (first_day y m) (last_day y m) 0 os >>= (λ outcomes.
    Ok (month_figures t (available t (days_of (first_day y m) (last_day y m))) (offered t xs (days_of (first_day y m) (last_day y m))) outcomes)))

-- what outcomes sum to
abbrev pub sums_of : List Outcome → Sums
sums_of xs = record { eda = tally (λ x. x.eda) xs; pta = tally (λ x. x.pta) xs; seta = tally (λ x. x.seta) xs; paid = tally (λ x. x.paid) xs }

abbrev pub plus : Sums → Sums → Sums
plus a b = record { eda = a.eda + b.eda; pta = a.pta + b.pta; seta = a.seta + b.seta; paid = a.paid + b.paid }

abbrev pub of_one : Outcome → Sums
of_one x = record { eda = x.eda; pta = x.pta; seta = x.seta; paid = x.paid }

abbrev pub sums_with : Sums → Granted (List Outcome) → Granted Sums
sums_with a (Err e) = Err e
sums_with a (Ok xs) = Ok (plus a (sums_of xs))

abbrev pub no_sums : Sums
no_sums = record { eda = 0; pta = 0; seta = 0; paid = 0 }

-- the sums over the orders of the days from first to last
abbrev pub sums_in : ℕ → ℕ → List Booked → Granted Sums
sums_in first last os = sums_with no_sums (outcomes_in first last 0 os)

-- no more than n times the most energy of one order, in Wh
pub record Within (n : ℕ) (a : Sums) : Type 0 where
  pub eda : a.eda ≤ 70_000_000_000 * n
  pub pta : a.pta ≤ 70_000_000_000 * n
  pub seta : a.seta ≤ 70_000_000_000 * n
  pub paid : a.paid ≤ 70_000_000_000 * n

abbrev pub WithinIf : Option Outcome → Type 0
WithinIf None = Unit {0}
WithinIf (Some x) = Within 1 (of_one x)

abbrev pub no_order : Booked
no_order = record { order = record { day = 0; q0 = 0; q1 = 0; direction = Up; qr = 0 }; result = None }

-- at most 128 orders, each result of a bounded energy
pub record Kept (os : List Booked) : Type 0 where
  pub few : length os ≤ 128
  pub energies : (k : ℕ) → k < length os → WithinIf (slice_index_or os k no_order).result

abbrev pub WithinOk : Granted Sums → Type 0
WithinOk (Err e) = Unit {0}
WithinOk (Ok a) = Within 128 a

-- the figures, from the sums
abbrev pub figures_from : Terms → ℕ → ℕ → Sums → Month
figures_from t av di a = record {
  av = av;
  di = di;
  edm = a.eda;
  ptm = a.pta;
  setm = a.seta;
  dpm = percent a.pta a.eda;
  apm = positive (rounded (pos (di * t.qc * t.af)) (pos 400));
  upm = cents a.paid t.uf;
  pay = positive (rounded (pos (di * t.qc * t.af)) (pos 400)) + cents a.paid t.uf;
}

-- the month of orders that a book can have
abbrev pub month_in : Terms → List Booked → List Declaration → ℕ → ℕ → Granted Month
month_in t os xs y m = unless (not (nat_le (length os) 128 && are_modest os)) Number >>= (λ _. month_from t os xs y m)
