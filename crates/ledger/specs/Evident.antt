-- What the evidence of an order tells, in other words than the search for it; and what a month and a line pay cannot depend on.
use Rattle.std.specs.Prelude.{◌≡◌, ℕ, ◌+◌, ◌<◌, ◌≤◌, Bool, true, false, List, [], ◌∷◌, ◌++◌, length, Ok, Err}
use mathlib.Core.List.{Memᴰ}
use Rattle.calendar.specs.Gregorian.{first_day, last_day}
use Rattle.stores.specs.Model.{StoreModel}
use Rattle.rulebooks.specs.Rules.{Rules}
use Rattle.ledger.specs.declared.fault.BookFault.TheVariants.{ShortHistory}
use Rattle.ledger.specs.declared.terms.Terms.{Terms}
use Rattle.ledger.specs.declared.records.Order.{Order}
use Rattle.ledger.specs.declared.records.Booked.{Booked}
use Rattle.ledger.specs.declared.records.Outcome.{Outcome}
use Rattle.ledger.specs.declared.records.Resource.{Resource}
use Rattle.ledger.specs.Words.{lead, ordered}
use Rattle.ledger.specs.Settling.{Held, Part, part, needs, qualifies, ordered_energy, cents, outcome_of}
use Rattle.ledger.specs.Book.{Book, with_store, numbered, in_month, booked, declared, settled, month_of}

-- THE HISTORY DAYS

-- days that fall, so that none stands twice
abbrev pub Falling : List ℕ → Type 0
Falling [] = Unit {0}
Falling (d ∷ ds) = ((e : ℕ) → Memᴰ e ds → e < d) × Falling ds

-- a day that can stand in the history of an order of a day
pub record Standing (test : ℕ → Bool) (before d : ℕ) : Type 0 where
  pub passes : test d ≡ true
  pub earlier : d < before
  pub near : before ≤ d + 400

-- the latest n days that can stand there: so many, latest first, each one of them, and none left out is later than one taken
pub record Latest (n : ℕ) (test : ℕ → Bool) (before : ℕ) (days : List ℕ) : Type 0 where
  pub number : length days ≡ n
  pub falling : Falling days
  pub each : (d : ℕ) → Memᴰ d days → Standing test before d
  pub none_later : (d : ℕ) → Standing test before d → (Memᴰ d days → ⊥) → (e : ℕ) → Memᴰ e days → d < e

-- all days that can stand there, fewer than n
pub record TooFew (n : ℕ) (test : ℕ → Bool) (before found : ℕ) : Type 0 where
  pub days : List ℕ
  pub number : length days ≡ found
  pub few : found < n
  pub falling : Falling days
  pub each : (d : ℕ) → Memᴰ d days → Standing test before d
  pub all : (d : ℕ) → Standing test before d → Memᴰ d days

-- a resource that is not estimated is settled from exactly the latest days that its choice needs: of a kind in the terms, without an
-- order, with a curve that is measured in the lead and ordered quarters; and where it is refused for want of days, the number told
-- counts all of them
pub record History : Type 0 where
  pub granted : (t : Terms) (R : Rules) (held : Held) (busy : ℕ → Bool) (o : Order) (r : ℕ) (x : Resource) (p : Part)
      → part t R held busy o r x ≡ Ok p → p.estimated ≡ false → Latest (needs R x) (qualifies t held busy (lead o ++ ordered o)) o.day p.days
  pub refused : (t : Terms) (R : Rules) (held : Held) (busy : ℕ → Bool) (o : Order) (r : ℕ) (x : Resource) (k found : ℕ)
      → part t R held busy o r x ≡ Err (ShortHistory k found) → (k ≡ r) × TooFew (needs R x) (qualifies t held busy (lead o ++ ordered o)) o.day found

-- WHAT PAY AND MONTHS KEEP TO

-- a line pay is at most that of the whole ordered energy
abbrev pub PayBounded : Type 0
PayBounded = (t : Terms) (o : Order) (ps : List Part) → (outcome_of t o ps).pay ≤ cents (ordered_energy o) t.uf

-- an order booked or settled, or a declaration made, for a day outside a month leaves that month's figures as they were; so does whatever happens to the store
pub record MonthApart : Type 0 where
  pub store : (b : Book) (s : StoreModel) (y m : ℕ) → month_of (with_store b s) y m ≡ month_of b y m
  pub settling : (b : Book) (k : ℕ) (a : Booked) (x : Outcome) (y m : ℕ) → numbered b.orders k ≡ Ok a → in_month (first_day y m) (last_day y m) a.order.day ≡ false → month_of (settled b k x) y m ≡ month_of b y m
  pub order : (b : Book) (o : Order) (y m : ℕ) → in_month (first_day y m) (last_day y m) o.day ≡ false → month_of (booked b o) y m ≡ month_of b y m
  pub declaration : (b : Book) (d q0 q1 y m : ℕ) → in_month (first_day y m) (last_day y m) d ≡ false → month_of (declared b d q0 q1) y m ≡ month_of b y m
