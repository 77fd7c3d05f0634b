-- Worked figures of a June, each from a whole book: what three deliveries settle at, which order may follow another, and a history that is too short.
use Rattle.std.specs.Prelude.{◌≡◌, ℕ, zero, suc, ◌+◌, ◌*◌, ◌≤◌, true, false, cond, List, [], ◌∷◌, ◌++◌, map, replicate, ℤ, pos, neg_ℤ, Some, None, Ok, ◌==◌, refl}
use Rattle.std.proofs.Common.{arith}
use Rattle.metering.specs.declared.reading.Reading.TheVariants.{Measured}
use Rattle.metering.specs.declared.curve.Curve.{Curve}
use Rattle.metering.specs.Curves.{curve_of}
use Rattle.stores.specs.Model.{StoreModel, put_into}
use Rattle.rulebooks.specs.Supplied.{supplied_rules}
use Rattle.rulebooks.specs.Figures.{Figures as RuleFigures}
use Rattle.ledger.specs.declared.fault.BookFault.TheVariants.{TooSoon, ShortHistory}
use Rattle.ledger.specs.declared.feasts.Feasts.{Feasts}
use Rattle.ledger.specs.declared.terms.Terms.{Terms}
use Rattle.ledger.specs.declared.records.Direction.TheVariants.{Up}
use Rattle.ledger.specs.declared.records.Order.{Order}
use Rattle.ledger.specs.declared.records.Outcome.{Outcome}
use Rattle.ledger.specs.declared.life.Call.TheVariants.{Book as Ordering, Settle}
use Rattle.ledger.specs.declared.life.Answer.TheVariants.{Refused, Booked as Numbered}
use Rattle.ledger.specs.Words.{Granted, ◌>>=◌}
use Rattle.ledger.specs.Days.{rests_before}
use Rattle.ledger.specs.Book.{Book, fresh, registered, booked, settlement}
use Rattle.ledger.specs.Run.{run}

abbrev pub no_feasts : Feasts
no_feasts = record {
  days = replicate 32 0;
  count = 0;
  table = refl;
  room = omega arith;
  in_range = λ k h. absurd (omega arith);
  rising = λ k h. absurd (omega arith);
}

-- terms of some kinds of day, window 8 to 96, 0.2000 EUR per kWh, no feast
abbrev pub terms_for : (kinds : ℕ) → 1 ≤ kinds → kinds ≤ 7 → Terms
terms_for kinds low high = record {
  kinds = kinds;
  w0 = 8;
  w1 = 96;
  qc = 20;
  uf = 2000;
  af = 50;
  feasts = no_feasts;
  some_kind = low;
  known_kinds = high;
  leads = omega arith;
  window = omega arith;
  day = omega arith;
  power_from = omega arith;
  power_to = omega arith;
  energy_price = omega arith;
  power_price = omega arith;
}

abbrev pub working : Terms
working = terms_for 1 (omega arith) (omega arith)

abbrev pub sundays : Terms
sundays = terms_for 4 (omega arith) (omega arith)

-- a curve that is flat
abbrev pub flat : ℤ → Curve
flat z = curve_of (replicate 96 (Measured z))

-- a book of one resource, under option 1
abbrev pub book_on : Terms → StoreModel → Book
book_on t m = registered (fresh t m supplied_rules) (replicate 14 65) 1 8

-- THREE DELIVERIES

-- Monday 8 June 2026
abbrev pub monday : ℕ
monday = 9655

abbrev pub four_quarters : Order
four_quarters = record { day = monday; q0 = 44; q1 = 48; direction = Up; qr = 8 }

-- -2,200 Wh in the quarters before the order, then what was read in its own
abbrev pub on_monday : List ℤ → Curve
on_monday zs = curve_of (replicate 44 (Measured (neg_ℤ (pos 2200))) ++ (map (λ z. Measured z) zs ++ replicate 48 (Measured (neg_ℤ (pos 2000)))))

-- -2,000 Wh in each quarter of the other days
abbrev pub deliveries : List ℤ → StoreModel
deliveries zs = record {
  width = 1;
  capacity = 400;
  span = 400;
  floor = 0;
  look = λ r d. cond (d == monday) (Some (on_monday zs)) (Some (flat (neg_ℤ (pos 2000))));
}

abbrev pub outcome_with : List ℤ → Granted Outcome
outcome_with zs = settlement (booked (book_on working (deliveries zs)) four_quarters) 0 608 >>= (λ x. Ok x.outcome)

-- A KEEPER OF 90 DAYS

abbrev pub empty_keeper : StoreModel
empty_keeper = record { width = 1; capacity = 400; span = 90; floor = 0; look = λ r d. None }

-- a curve put for each of the first n Sundays since 2 January 2000, day 1
abbrev pub sundays_kept : ℕ → StoreModel
sundays_kept zero = empty_keeper
sundays_kept (suc n) = put_into (sundays_kept n) 0 (1 + 7 * n) (flat (neg_ℤ (pos 2000)))

-- Sunday 28 June 2026, the last of 1,383
abbrev pub last_sunday : ℕ
last_sunday = 9675

-- THE FIGURES

pub record BookFigures : Type 0 where
  pub baselines : RuleFigures
  -- four quarters at 8 kW: -400 Wh in each, against a baseline of -2,200 Wh; then -1,000 Wh; then one of them -1,001 Wh
  pub most : outcome_with (replicate 4 (neg_ℤ (pos 400))) ≡ Ok (record { sum = pos 7200; pta = 7200; eda = 8000; seta = 7200; paid = 7200; pay = 144 })
  pub enough : outcome_with (replicate 4 (neg_ℤ (pos 1000))) ≡ Ok (record { sum = pos 4800; pta = 4800; eda = 8000; seta = 4800; paid = 4800; pay = 96 })
  pub too_little : outcome_with (neg_ℤ (pos 1001) ∷ replicate 3 (neg_ℤ (pos 1000))) ≡ Ok (record { sum = pos 4799; pta = 4799; eda = 8000; seta = 4799; paid = 0; pay = 0 })
  -- after an order that ends at 40
  pub rested : run (book_on working empty_keeper) (Ordering monday 36 40 0 8 ∷ (Ordering monday 48 52 0 8 ∷ [])) ≡ (Numbered 0 ∷ (Numbered 1 ∷ []))
  pub too_soon : run (book_on working empty_keeper) (Ordering monday 36 40 0 8 ∷ (Ordering monday 47 52 0 8 ∷ [])) ≡ (Numbered 0 ∷ (Refused TooSoon ∷ []))
  pub always_rested : (a o : Order) → a.q1 ≡ 40 → o.day ≡ a.day → o.q0 ≡ 48 → rests_before a o ≡ true
  pub never_rested : (a o : Order) → a.q1 ≡ 40 → o.day ≡ a.day → o.q0 ≡ 47 → rests_before a o ≡ false
  -- fifteen days are needed, twelve found
  pub short_history : run (book_on sundays (sundays_kept 1383)) (Ordering last_sunday 44 48 0 8 ∷ (Settle 0 ∷ [])) ≡ (Numbered 0 ∷ (Refused (ShortHistory 0 12) ∷ []))
