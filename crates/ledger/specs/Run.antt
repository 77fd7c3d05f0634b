-- A life: a list of calls on a book, one after the other.
use Rattle.std.specs.Prelude.{ℕ, ◌-◌, List, [], ◌∷◌, ◌++◌, length, replicate, ℤ, pos, Ok, Err, vec_items}
use Rattle.stores.specs.Model.{put_into, raised_to}
use Rattle.ledger.specs.declared.records.Order.{Order}
use Rattle.ledger.specs.declared.life.Call.{Call}
use Rattle.ledger.specs.declared.life.Call.TheVariants.{Register, Enter, Drop, Book as Ordering, Declare, Settle, Month as Monthly}
use Rattle.ledger.specs.declared.life.Answer.{Answer}
use Rattle.ledger.specs.declared.life.Answer.TheVariants.{Refused, Registered, Entered, Dropped, Booked as Numbered, Declared, Settled, Month as Figures}
use Rattle.ledger.specs.Words.{Granted}
use Rattle.ledger.specs.Settling.{Part, evidence}
use Rattle.ledger.specs.Book.{Book, orders_in, with_store, may_register, registered, may_enter, may_drop, direction_of, may_book, booked, may_declare, declared, settlement, settled, month_of}

-- a call's answer, and the book after it
pub record Step : Type 0 where
  pub answer : Answer
  pub book : Book

-- a refused call changes nothing
abbrev pub grant : {A : Type 0} → Book → Granted A → (A → Step) → Step
grant b (Err e) f = record { answer = Refused e; book = b }
grant b (Ok a) f = f a

-- a sheet of 608 words: the evidence, then 0
abbrev pub sheet_of : List Part → List ℤ
sheet_of ps = evidence ps ++ replicate (608 - length (evidence ps)) (pos 0)

abbrev pub order_from : ℕ → ℕ → ℕ → ℕ → ℕ → Order
order_from d q0 q1 n qr = record { day = d; q0 = q0; q1 = q1; direction = direction_of n; qr = qr }

abbrev pub step : Book → Call → Step
step b (Register pod choice power) =
    grant b (may_register b (vec_items pod) choice power) (λ _.
    record { answer = Registered (length b.resources); book = registered b (vec_items pod) choice power })
step b (Enter r d c) = grant b (may_enter b r d) (λ _. record { answer = Entered; book = with_store b (put_into b.store r d c) })
step b (Drop d) = grant b (may_drop d) (λ _. record { answer = Dropped; book = with_store b (raised_to b.store d) })
step b (Ordering d q0 q1 n qr) =
    grant b (may_book b (order_from d q0 q1 n qr) n) (λ _.
    record { answer = Numbered (length (orders_in b.orders)); book = booked b (order_from d q0 q1 n qr) })
step b (Declare d q0 q1) = grant b (may_declare b d q0 q1) (λ _. record { answer = Declared; book = declared b d q0 q1 })
step b (Settle k) =
    grant b (settlement b k 608) (λ x.
    record { answer = Settled x.outcome (sheet_of x.parts); book = settled b k x.outcome })
step b (Monthly y m) = grant b (month_of b y m) (λ x. record { answer = Figures x; book = b })

abbrev pub run : Book → List Call → List Answer
run b [] = []
run b (x ∷ xs) = (step b x).answer ∷ run (step b x).book xs

abbrev pub final : Book → List Call → Book
final b [] = b
final b (x ∷ xs) = final (step b x).book xs

-- the orders that a life books
abbrev pub orders_of : Book → List Call → List Order
orders_of b xs = orders_in (final b xs).orders
