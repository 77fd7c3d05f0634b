-- What an order settles at.
use Rattle.std.specs.Prelude.{ℕ, zero, suc, ◌-◌, ◌*◌, min, Bool, true, false, cond, not, ◌&&◌, ◌||◌, List, [], ◌∷◌, ◌++◌, map, length, take, replicate, ℤ, pos, negsuc, ◌-ℤ◌, Some, None, Ok, Err, filter, Option, Result, nat_lt}
use Rattle.std.specs.Option.{unwrap_or}
use Rattle.metering.specs.declared.curve.Curve.{Curve}
use Rattle.rulebooks.specs.declared.rule.RuleFault.{RuleFault}
use Rattle.rulebooks.specs.Rules.{Rules, answered}
use Rattle.rulebooks.specs.Rounding.{rounded}
use Rattle.ledger.specs.declared.fault.BookFault.TheVariants.{NoCurve, ShortHistory, Rule}
use Rattle.ledger.specs.declared.terms.Terms.{Terms}
use Rattle.ledger.specs.declared.records.Direction.{Direction}
use Rattle.ledger.specs.declared.records.Direction.TheVariants.{Up, Down}
use Rattle.ledger.specs.declared.records.Order.{Order}
use Rattle.ledger.specs.declared.records.Outcome.{Outcome}
use Rattle.ledger.specs.declared.records.Resource.{Resource}
use Rattle.ledger.specs.Words.{Granted, ◌>>=◌, at, worth, measured_in, toward, ordered, lead, days_before, total, total_of, each}
use Rattle.ledger.specs.Days.{in_kinds}

-- the curve held for each day, of one resource
abbrev pub Held : Type 0
Held = ℕ → Option Curve

abbrev pub curve_for : ℕ → ℕ → Option Curve → Granted Curve
curve_for r d None = Err (NoCurve r d)
curve_for r d (Some c) = Ok c

-- the reading of a day that is known to have a curve
abbrev pub reading_on : Option Curve → ℕ → ℤ
reading_on None q = pos 0
reading_on (Some c) q = worth (at c q)

abbrev pub is_whole : Option Curve → List ℕ → Bool
is_whole None qs = false
is_whole (Some c) qs = measured_in c qs

-- a day that can stand in the history: of a kind in the terms, without an order, with a curve that is measured in these quarters
abbrev pub qualifies : Terms → Held → (ℕ → Bool) → List ℕ → ℕ → Bool
qualifies t held busy qs d = in_kinds t d && (not (busy d) && is_whole (held d) qs)

-- the latest n of the 400 days before d that pass the test
abbrev pub latest : ℕ → ℕ → (ℕ → Bool) → ℕ → Granted (List ℕ)
latest r n test d =
    let days = take n (filter test (days_before d 400)) in
    cond (nat_lt (length days) n) (Err (ShortHistory r (length days))) (Ok days)

abbrev pub direction_number : Direction → ℕ
direction_number Up = 0
direction_number Down = 1

-- a refusal of the rulebook, at its resource and quarter
abbrev pub ruled_at : ℕ → ℕ → Result ℤ RuleFault → Granted ℤ
ruled_at r q (Ok b) = Ok b
ruled_at r q (Err f) = Err (Rule r q f)

-- what one resource brings to an order: its history days, latest first; the lead sums over them and on the day; whether one of its
-- quarters is estimated; its contribution in Wh
pub record Part : Type 0 where
  pub days : List ℕ
  pub lead_then : ℤ
  pub lead_now : ℤ
  pub estimated : Bool
  pub amount : ℤ

module _ (R : Rules) (held : Held) (o : Order) (r : ℕ) (x : Resource) where
  -- S: a quarter over the history days
  abbrev pub sum_over : List ℕ → ℕ → ℤ
  sum_over days q = total (λ d. reading_on (held d) q) days

  -- L: the lead quarters over the history days
  abbrev pub lead_over : List ℕ → ℤ
  lead_over days = total (sum_over days) (lead o)

  -- C: the lead quarters on the day
  abbrev pub lead_on : Curve → ℤ
  lead_on c = total (λ q. worth (at c q)) (lead o)

  abbrev pub baseline : List ℕ → Curve → ℕ → Granted ℤ
  baseline days c q = ruled_at r q (answered R x.choice (direction_number o.direction) (sum_over days q) (lead_over days) (lead_on c))

  -- one quarter: how far its reading lies from its baseline, in the ordered direction
  abbrev pub quarter : List ℕ → Curve → ℕ → Granted ℤ
  quarter days c q = baseline days c q >>= (λ b. Ok (toward o.direction (worth (at c q) -ℤ b)))

  abbrev pub by_history : Curve → List ℕ → Granted Part
  by_history c days =
      total_of (quarter days c) (ordered o) >>= (λ a.
      Ok (record { days = days; lead_then = lead_over days; lead_now = lead_on c; estimated = false; amount = a }))

  -- an estimated resource counts with its available power
  abbrev pub by_power : Curve → Part
  by_power c = record { days = []; lead_then = pos 0; lead_now = pos 0; estimated = true; amount = pos (x.power * (o.q1 - o.q0) * 250) }

-- the days that a registered choice needs
abbrev pub needs : Rules → Resource → ℕ
needs R x = unwrap_or (R.days x.choice) 0

abbrev pub part : Terms → Rules → Held → (ℕ → Bool) → Order → ℕ → Resource → Granted Part
part t R held busy o r x =
    curve_for r o.day (held o.day) >>= (λ c.
    cond (measured_in c (lead o ++ ordered o))
    (latest r (needs R x) (qualifies t held busy (lead o ++ ordered o)) o.day >>= by_history R held o r x c)
    (Ok (by_power R held o r x c)))

-- resources in rising number
abbrev pub numbered_from : ℕ → List Resource → List (ℕ × Resource)
numbered_from k [] = []
numbered_from k (x ∷ xs) = (k, x) ∷ numbered_from (suc k) xs

abbrev pub positive : ℤ → ℕ
positive (pos n) = n
positive (negsuc n) = 0

-- EDa: the ordered energy, in Wh
abbrev pub ordered_energy : Order → ℕ
ordered_energy o = o.qr * (o.q1 - o.q0) * 250

abbrev pub any_estimated : List Part → Bool
any_estimated [] = false
any_estimated (p ∷ ps) = p.estimated || any_estimated ps

abbrev pub sum_of : List Part → ℤ
sum_of ps = total (λ p. p.amount) ps

-- pTa: what was delivered; with an estimated resource at most what was ordered
abbrev pub delivered_energy : Order → List Part → ℕ
delivered_energy o ps = cond (any_estimated ps) (min (positive (sum_of ps)) (ordered_energy o)) (positive (sum_of ps))

-- SETa: what is remunerated
abbrev pub remunerated : Order → List Part → ℕ
remunerated o ps = min (delivered_energy o ps) (ordered_energy o)

-- under six tenths of the ordered energy nothing is paid
abbrev pub paid_energy : ℕ → ℕ → ℕ
paid_energy full s = cond (nat_lt (5 * s) (3 * full)) 0 s

-- Wh at 0.0001 EUR per kWh, in cents
abbrev pub cents : ℕ → ℕ → ℕ
cents energy uf = positive (rounded (pos (energy * uf)) (pos 100000))

abbrev pub outcome_of : Terms → Order → List Part → Outcome
outcome_of t o ps = record {
  sum = sum_of ps;
  pta = delivered_energy o ps;
  eda = ordered_energy o;
  seta = remunerated o ps;
  paid = paid_energy (ordered_energy o) (remunerated o ps);
  pay = cents (paid_energy (ordered_energy o) (remunerated o ps)) t.uf;
}

-- the parts of all resources; the first refusal in rising number ends the settling
abbrev pub parts : Terms → Rules → (ℕ → Held) → (ℕ → Bool) → List Resource → Order → Granted (List Part)
parts t R held busy xs o = each (λ x. part t R (held x.0) busy o x.0 x.1) (numbered_from 0 xs)

-- an evidence row: 1, the number of days, the days latest first in fifteen words, C, L; all 0 if estimated
abbrev pub filled_to : ℕ → List ℤ → List ℤ
filled_to zero xs = []
filled_to (suc n) [] = pos 0 ∷ filled_to n []
filled_to (suc n) (x ∷ xs) = x ∷ filled_to n xs

abbrev pub evidence_row : Part → List ℤ
evidence_row p =
    cond p.estimated (replicate 19 (pos 0))
    (pos 1 ∷ (pos (length p.days) ∷ (filled_to 15 (map (λ d. pos d) p.days) ++ (p.lead_now ∷ (p.lead_then ∷ [])))))

abbrev pub evidence : List Part → List ℤ
evidence [] = []
evidence (p ∷ ps) = evidence_row p ++ evidence ps
