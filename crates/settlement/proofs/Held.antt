-- The order of a number, and the orders after a result is written.
use Rattle.std.proofs.Common.{◌≡◌, ℕ, zero, suc, ◌<◌, ◌≤◌, List, [], ◌∷◌, length, get_or, set, Some, Ok, Err, refl, sym, ap, arith}
use Rattle.ledger.specs.declared.fault.BookFault.TheVariants.{NoOrder}
use Rattle.ledger.specs.declared.records.Booked.{Booked}
use Rattle.ledger.specs.declared.records.Outcome.{Outcome}
use Rattle.ledger.specs.Book.{numbered, recorded, unsettled}
use Rattle.settlement.specs.Tables.{unsettled_in}

numbered_there : (bs : List Booked) (k : ℕ) (a : Booked) → k < length bs → a ≡ get_or bs k a → numbered bs k ≡ Ok a
numbered_there [] k a h e = let z : ◌≡◌ {A = ℕ} 0 1 = omega arith in cc
numbered_there (b ∷ bs) zero a h e = cc
numbered_there (b ∷ bs) (suc k) a h e = numbered_there bs k a (omega arith) e

numbered_past : (bs : List Booked) (k : ℕ) → length bs ≤ k → numbered bs k ≡ Err NoOrder
numbered_past [] k h = refl
numbered_past (b ∷ bs) zero h = let z : ◌≡◌ {A = ℕ} 0 1 = omega arith in cc
numbered_past (b ∷ bs) (suc k) h = numbered_past bs k (omega arith)

-- the same orders have the same order of a number, still to be settled
pub unsettled_there : (bs cs : List Booked) (k : ℕ) (a : Booked) → cs ≡ bs → k < length cs → a ≡ get_or cs k a → unsettled a a.result ≡ unsettled_in bs k
unsettled_there bs cs k a same h e = rw (sym same) (rw (numbered_there cs k a h e))

pub unsettled_past : (bs cs : List Booked) (k : ℕ) → cs ≡ bs → length cs ≤ k → Err NoOrder ≡ unsettled_in bs k
unsettled_past bs cs k same h = rw (sym same) (rw (numbered_past cs k h))

pub recorded_there : (bs : List Booked) (k : ℕ) (x : Outcome) (a : Booked) → k < length bs → a ≡ get_or bs k a → set bs k (record { order = a.order; result = Some x }) ≡ recorded k x bs
recorded_there [] k x a h e = let z : ◌≡◌ {A = ℕ} 0 1 = omega arith in cc
recorded_there (b ∷ bs) zero x a h e = ap (λ (y : Booked). record { order = y.order; result = Some x } ∷ bs) e
recorded_there (b ∷ bs) (suc k) x a h e = ap (λ t. b ∷ t) (recorded_there bs k x a (omega arith) e)

pub recorded_past : (bs : List Booked) (k : ℕ) (x : Outcome) → length bs ≤ k → bs ≡ recorded k x bs
recorded_past [] k x h = refl
recorded_past (b ∷ bs) zero x h = let z : ◌≡◌ {A = ℕ} 0 1 = omega arith in cc
recorded_past (b ∷ bs) (suc k) x h = ap (λ t. b ∷ t) (recorded_past bs k x (omega arith))
