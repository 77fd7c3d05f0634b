-- Quarters, readings and sums; and what may be refused.
use Rattle.std.specs.Prelude.{ℕ, zero, suc, ◌+◌, ◌-◌, Bool, true, false, ◌&&◌, List, [], ◌∷◌, ℤ, pos, ◌+ℤ◌, ◌-ℤ◌, neg_ℤ, ◌≤ℤ◌, Ok, Err, Result, unsigned_abs}
use Rattle.metering.specs.declared.reading.Reading.{Reading}
use Rattle.metering.specs.declared.reading.Reading.TheVariants.{Measured, Estimated}
use Rattle.metering.specs.declared.curve.Curve.{Curve}
use Rattle.metering.specs.Readings.{reading_in}
use Rattle.ledger.specs.declared.fault.BookFault.{BookFault}
use Rattle.ledger.specs.declared.records.Direction.{Direction}
use Rattle.ledger.specs.declared.records.Direction.TheVariants.{Up, Down}
use Rattle.ledger.specs.declared.records.Order.{Order}

infixl 20 ◌>>=◌
-- a value, or a refusal
abbrev pub Granted : Type 0 → Type 0
Granted A = Result A BookFault

abbrev pub ◌>>=◌ : {A B : Type 0} → Granted A → (A → Granted B) → Granted B
Err e >>= f = Err e
Ok a >>= f = f a

-- refused where the test holds
abbrev pub unless : Bool → BookFault → Granted (Unit {0})
unless true e = Err e
unless false e = Ok tt

abbrev pub is_measured : Reading → Bool
is_measured (Measured z) = true
is_measured Estimated = false

-- the number of a reading that is known to be measured
abbrev pub worth : Reading → ℤ
worth (Measured z) = z
worth Estimated = pos 0

-- the reading of a curve at a quarter of the day
abbrev pub at : Curve → ℕ → Reading
at c q = reading_in c.readings q

-- none of these quarters is estimated
abbrev pub measured_in : Curve → List ℕ → Bool
measured_in c [] = true
measured_in c (q ∷ qs) = is_measured (at c q) && measured_in c qs

-- z counted in the ordered direction
abbrev pub toward : Direction → ℤ → ℤ
toward Up z = z
toward Down z = neg_ℤ z

-- b is a, or further in the ordered direction: larger upward, smaller downward
abbrev pub Further : Direction → ℤ → ℤ → Type 0
Further Up a b = a ≤ℤ b
Further Down a b = b ≤ℤ a

-- n numbers from a on
abbrev pub counting : ℕ → ℕ → List ℕ
counting a zero = []
counting a (suc n) = a ∷ counting (suc a) n

-- the quarters of an order, and the eight before it
abbrev pub ordered : Order → List ℕ
ordered o = counting o.q0 (o.q1 - o.q0)

abbrev pub lead : Order → List ℕ
lead o = counting (o.q0 - 8) 8

-- at most n days, from the one before d back
abbrev pub days_before : ℕ → ℕ → List ℕ
days_before d zero = []
days_before zero (suc n) = []
days_before (suc d) (suc n) = d ∷ days_before d n

abbrev pub total : {A : Type 0} → (A → ℤ) → List A → ℤ
total f [] = pos 0
total f (x ∷ xs) = f x +ℤ total f xs

-- the same, where a term may be refused: the first refusal ends it
abbrev pub total_of : {A : Type 0} → (A → Granted ℤ) → List A → Granted ℤ
total_of f [] = Ok (pos 0)
total_of f (x ∷ xs) = f x >>= (λ a. total_of f xs >>= (λ b. Ok (a +ℤ b)))

abbrev pub each : {A B : Type 0} → (A → Granted B) → List A → Granted (List B)
each f [] = Ok []
each f (x ∷ xs) = f x >>= (λ a. each f xs >>= (λ b. Ok (a ∷ b)))

-- the natural sum
abbrev pub tally : {A : Type 0} → (A → ℕ) → List A → ℕ
tally f [] = 0
tally f (x ∷ xs) = f x + tally f xs

-- how far apart two readings are, and two lists of them
abbrev pub distance : ℤ → ℤ → ℕ
distance a b = unsigned_abs (b -ℤ a)

abbrev pub apart : List ℤ → List ℤ → ℕ
apart [] ys = 0
apart (x ∷ xs) [] = 0
apart (x ∷ xs) (y ∷ ys) = distance x y + apart xs ys
