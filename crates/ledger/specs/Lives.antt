-- Two lives that differ only in how far pools went in the ordered direction, and what holds of them.
use Rattle.std.specs.Prelude.{◌≡◌, ℕ, ◌+◌, ◌*◌, ◌<◌, ◌≤◌, cond, ◌⊎◌, List, [], ◌∷◌, map, ℤ, Some, Ok, Err, ◌==◌}
use mathlib.Core.List.{Memᴰ}
use Rattle.std.specs.List.{AllZip, AllByRecursion}
use Rattle.metering.specs.declared.reading.Reading.{Reading}
use Rattle.metering.specs.declared.reading.Reading.TheVariants.{Measured}
use Rattle.metering.specs.declared.curve.Curve.{Curve}
use Rattle.stores.specs.Model.{StoreModel}
use Rattle.rulebooks.specs.Rules.{Rules}
use Rattle.rulebooks.specs.Options.{unadjusted_mean}
use Rattle.rulebooks.specs.Supplied.{supplied_rules}
use Rattle.ledger.specs.declared.fault.BookFault.{BookFault}
use Rattle.ledger.specs.declared.terms.Terms.{Terms}
use Rattle.ledger.specs.declared.records.Order.{Order}
use Rattle.ledger.specs.declared.records.Booked.{Booked}
use Rattle.ledger.specs.declared.records.Outcome.{Outcome}
use Rattle.ledger.specs.declared.records.Month.{Month}
use Rattle.ledger.specs.declared.life.Call.{Call}
use Rattle.ledger.specs.declared.life.Call.TheVariants.{Register, Enter, Drop, Book as Ordering, Declare, Settle, Month as Monthly}
use Rattle.ledger.specs.declared.life.Answer.{Answer}
use Rattle.ledger.specs.declared.life.Answer.TheVariants.{Refused, Registered, Entered, Dropped, Booked as Numbered, Declared, Settled, Month as Figures}
use Rattle.ledger.specs.Words.{Granted, at, apart, ordered, tally, Further}
use Rattle.ledger.specs.Settling.{reading_on, numbered_from}
use Rattle.ledger.specs.Book.{Book, fresh, numbered, settlement}
use Rattle.ledger.specs.Run.{step, run, orders_of}

-- WHEN TWO LIVES DIFFER ONLY SO

-- the reading of quarter q on day d: the same, or measured in both, in the quarters of one of the orders, and further its way
pub data Moved (os : List Order) (d q : ℕ) : Reading → Reading → Type 0 where
  same : {x : Reading} → Moved os d q x x
  further : {a b : ℤ} (o : Order) → Memᴰ o os → o.day ≡ d → o.q0 ≤ q → q < o.q1 → Further o.direction a b → Moved os d q (Measured a) (Measured b)

abbrev pub MovedCurve : List Order → ℕ → Curve → Curve → Type 0
MovedCurve os d c c' = (q : ℕ) → Moved os d q (at c q) (at c' q)

-- the same call, or a curve entered that differs only so
pub data Alike (os : List Order) : Call → Call → Type 0 where
  the_same : {x : Call} → Alike os x x
  entering : {r d : ℕ} {c c' : Curve} → MovedCurve os d c c' → Alike os (Enter r d c) (Enter r d c')

-- THE ENERGY ADDED

-- what a book holds of a resource in the quarters of an order
abbrev pub held_for : Book → Order → ℕ → List ℤ
held_for b o r = map (λ q. reading_on (b.store.look r o.day) q) (ordered o)

-- over resources and quarters, how far the readings of one book lie from those of another
abbrev pub added_to : Book → Book → Order → ℕ
added_to s t o = tally (λ x. apart (held_for s o x.0) (held_for t o x.0)) (numbered_from 0 s.resources)

abbrev pub added_at : Book → Book → Granted Booked → ℕ
added_at s t (Ok a) = added_to s t a.order
added_at s t (Err e) = 0

-- the energy that the second life adds to the order that a call settles
abbrev pub added_by : Book → Book → Call → ℕ
added_by s t (Register pod choice power) = 0
added_by s t (Enter r d c) = 0
added_by s t (Drop d) = 0
added_by s t (Ordering d q0 q1 n qr) = 0
added_by s t (Declare d q0 q1) = 0
added_by s t (Settle k) = added_at s t (numbered s.orders k)
added_by s t (Monthly y m) = 0

-- WHAT HOLDS OF THEM

-- the remunerated energy is at least as great, by no more than what was added, and the line pay is not smaller
pub record NoWorse (added : ℕ) (x y : Outcome) : Type 0 where
  pub more : x.seta ≤ y.seta
  pub near : y.seta ≤ x.seta + added
  pub paid : x.paid ≤ y.paid
  pub pay : x.pay ≤ y.pay

-- two answers: refused alike, or granted alike; of a settling with the same evidence
pub data Better (added : ℕ) : Answer → Answer → Type 0 where
  same_answer : {a : Answer} → Better added a a
  both_settled : {x y : Outcome} {sheet : List ℤ} → NoWorse added x y → Better added (Settled x sheet) (Settled y sheet)
  both_months : {x y : Month} → x.pay ≤ y.pay → Better added (Figures x) (Figures y)

-- call by call, the second life is no worse
abbrev pub Compared : Book → Book → List Call → List Call → Type 0
Compared s t [] [] = Unit {0}
Compared s t [] (y ∷ ys) = ⊥
Compared s t (x ∷ xs) [] = ⊥
Compared s t (x ∷ xs) (y ∷ ys) = Better (added_by s t x) (step s x).answer (step t y).answer × Compared (step s x).book (step t y).book xs ys

-- for all terms, all meanings of a store and a rulebook, and all calls: a life that differs from another only in measured readings
-- inside the quarters of orders that the first books, each equal or further in the ordered direction, is no worse
abbrev pub TwoLives : Type 0
TwoLives = (t : Terms) (m : StoreModel) (R : Rules) (xs ys : List Call)
    → AllZip (Alike (orders_of (fresh t m R) xs)) xs ys → Compared (fresh t m R) (fresh t m R) xs ys

-- the answers of two lives, call by call: those of the second are no worse
pub data NoWorseLife : Book → Book → List Call → List Call → List Answer → List Answer → Type 0 where
  ended : {s t : Book} → NoWorseLife s t [] [] [] []
  going : {s t : Book} {x y : Call} {xs ys : List Call} {a a' : Answer} {us us' : List Answer} → Better (added_by s t x) a a'
      → NoWorseLife (step s x).book (step t y).book xs ys us us' → NoWorseLife s t (x ∷ xs) (y ∷ ys) (a ∷ us) (a' ∷ us')

-- these answers of a life, beside those of every second life that differs from it only so
abbrev pub Second : Book → List Call → List Answer → Type 0
Second b xs us = (ys : List Call) → AllZip (Alike (orders_of b xs)) xs ys → NoWorseLife b b xs ys us (run b ys)

-- a remunerated energy lies from zero to the ordered energy; the paid energy is zero or at least six tenths of it
abbrev pub Fair : Answer → Type 0
Fair (Refused e) = Unit {0}
Fair (Registered n) = Unit {0}
Fair Entered = Unit {0}
Fair Dropped = Unit {0}
Fair (Numbered n) = Unit {0}
Fair Declared = Unit {0}
Fair (Settled x sheet) = (x.seta ≤ x.eda) × ((x.paid ≡ 0) ⊎ ((x.paid ≡ x.seta) × (3 * x.eda ≤ 5 * x.paid)))
Fair (Figures x) = Unit {0}

abbrev pub Bounds : Type 0
Bounds = (b : Book) (xs : List Call) → AllByRecursion Fair (run b xs)

-- THE UNADJUSTED MEAN

-- the supplied rulebook with the unadjusted mean as the baseline of option 1
abbrev pub mean_rules : Rules
mean_rules = record {
  days = supplied_rules.days;
  rule = λ k direction s l c. cond (k == 1) (Some (unadjusted_mean s)) (supplied_rules.rule k direction s l c);
}

abbrev pub with_rules : Book → Rules → Book
with_rules b R = record { terms = b.terms; store = b.store; rules = R; resources = b.resources; orders = b.orders; declarations = b.declarations }

-- two that may be refused: refused alike, or both there and so related
pub data Both {A B : Type 0} (R : A → B → Type 0) : Granted A → Granted B → Type 0 where
  neither : {e : BookFault} → Both R (Err e) (Err e)
  both : {a : A} {b : B} → R a b → Both R (Ok a) (Ok b)

-- settling with the supplied rulebook is granted just where it is with the unadjusted mean, and remunerates no less
abbrev pub MeanGuaranteed : Type 0
MeanGuaranteed = (b : Book) (k words : ℕ)
    → Both (λ x y. y.outcome.seta ≤ x.outcome.seta) (settlement (with_rules b supplied_rules) k words) (settlement (with_rules b mean_rules) k words)
