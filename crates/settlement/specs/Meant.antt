-- What the code's book means, and what the calls on it answer and leave.
use Rattle.std.specs.Prelude.{ℕ, List, ◌++◌, length, drop, ℤ, Ok, Err}
use Rattle.metering.specs.declared.curve.Curve.{Curve}
use Rattle.stores.specs.Model.{StoreModel, put_into, raised_to}
use Rattle.rulebooks.specs.Rules.{Rules}
use Rattle.ledger.specs.declared.terms.Terms.{Terms}
use Rattle.ledger.specs.declared.records.Outcome.{Outcome}
use Rattle.ledger.specs.declared.records.Month.{Month}
use Rattle.settlement.specs.declared.book.Book.{Book as Code}
use Rattle.ledger.specs.Words.{Granted, ◌>>=◌}
use Rattle.ledger.specs.Settling.{evidence}
use Rattle.ledger.specs.Book.{Book, orders_in, with_store, may_register, registered, may_enter, may_drop, may_book, booked, may_declare, declared, Settlement, settled}
use Rattle.ledger.specs.LineText.{line_text, length_in, written_to}
use Rattle.ledger.specs.Run.{order_from}
use Rattle.settlement.specs.Tables.{orders_held}

abbrev pub meaning : {S R : Type 0} → (S → StoreModel) → (R → Rules) → Code S R → Book
meaning model rules b = record {
  terms = b.terms;
  store = model b.store;
  rules = rules b.rules;
  resources = b.resources.items;
  orders = orders_held b.orders;
  declarations = b.declarations.items;
}

-- a granted call answers this
abbrev pub answering : {A : Type 0} → A → Granted (Unit {0}) → Granted A
answering a (Ok u) = Ok a
answering a (Err e) = Err e

-- a refused call changes nothing
abbrev pub changing : Book → Book → Granted (Unit {0}) → Book
changing old new (Ok u) = new
changing old new (Err e) = old

abbrev pub register_answer : Book → List ℕ → ℕ → ℕ → Granted ℕ
register_answer b pod choice power = answering (length b.resources) (may_register b pod choice power)

abbrev pub after_register : Book → List ℕ → ℕ → ℕ → Book
after_register b pod choice power = changing b (registered b pod choice power) (may_register b pod choice power)

abbrev pub after_enter : Book → ℕ → ℕ → Curve → Book
after_enter b r d c = changing b (with_store b (put_into b.store r d c)) (may_enter b r d)

abbrev pub after_drop : Book → ℕ → Book
after_drop b d = changing b (with_store b (raised_to b.store d)) (may_drop d)

abbrev pub book_answer : Book → ℕ → ℕ → ℕ → ℕ → ℕ → Granted ℕ
book_answer b d q0 q1 n qr = answering (length (orders_in b.orders)) (may_book b (order_from d q0 q1 n qr) n)

abbrev pub after_book : Book → ℕ → ℕ → ℕ → ℕ → ℕ → Book
after_book b d q0 q1 n qr = changing b (booked b (order_from d q0 q1 n qr)) (may_book b (order_from d q0 q1 n qr) n)

abbrev pub after_declare : Book → ℕ → ℕ → ℕ → Book
after_declare b d q0 q1 = changing b (declared b d q0 q1) (may_declare b d q0 q1)

-- what a settling answers, which book it leaves and what is on the sheet then: the rows of the resources, and beyond them what stood there
abbrev pub outcome_in : Granted Settlement → Granted Outcome
outcome_in m = m >>= (λ x. Ok x.outcome)

abbrev pub after_settle : Book → ℕ → Granted Settlement → Book
after_settle b k (Ok x) = settled b k x.outcome
after_settle b k (Err e) = b

abbrev pub sheet_after : Granted Settlement → List ℤ → List ℤ
sheet_after (Ok x) ws = evidence x.parts ++ drop (length (evidence x.parts)) ws
sheet_after (Err e) ws = ws

-- the length of the line of a month's figures, and the memory after it is written; refused where there are no figures, or no room
abbrev pub line_length : Terms → Granted Month → List ℕ → Granted ℕ
line_length t m out = m >>= (λ x. length_in out (line_text t x))

abbrev pub line_after : Terms → Granted Month → List ℕ → List ℕ
line_after t (Ok x) out = written_to out (line_text t x)
line_after t (Err e) out = out
