-- What a book means, and what each call on it answers and leaves.
use Rattle.std.specs.Prelude.{ℕ, zero, suc, ◌+◌, ◌-◌, ◌*◌, Bool, true, false, cond, not, ◌&&◌, ◌||◌, List, [], ◌∷◌, ◌++◌, length, pos, is_some, Some, None, Ok, Err, Option, Result, ◌==◌, nat_le, nat_lt}
use Rattle.std.specs.Str.{bytes_eq}
use Rattle.calendar.specs.Gregorian.{is_month, first_day, last_day}
use Rattle.stores.specs.declared.fault.StoreFault.{StoreFault}
use Rattle.stores.specs.Model.{StoreModel, put_answer, drop_answer}
use Rattle.rulebooks.specs.Rules.{Rules}
use Rattle.rulebooks.specs.Rounding.{rounded}
use Rattle.ledger.specs.declared.fault.BookFault.TheVariants.{Fields, OrdersBooked, NoRoom, UnknownChoice, NotRegistered, Number, Outside, TooSoon, ManyOrders, Declared, ManyDeclarations, NoOrder, Settled, NoMonth, Unsettled, ShortMemory, Store}
use Rattle.ledger.specs.declared.terms.Terms.{Terms}
use Rattle.ledger.specs.declared.records.Direction.{Direction}
use Rattle.ledger.specs.declared.records.Direction.TheVariants.{Up, Down}
use Rattle.ledger.specs.declared.records.Order.{Order}
use Rattle.ledger.specs.declared.records.Outcome.{Outcome}
use Rattle.ledger.specs.declared.records.Booked.{Booked}
use Rattle.ledger.specs.declared.records.Resource.{Resource}
use Rattle.ledger.specs.declared.records.Declaration.{Declaration}
use Rattle.ledger.specs.declared.records.Month.{Month}
use Rattle.ledger.specs.Words.{Granted, ◌>>=◌, unless, counting, tally}
use Rattle.ledger.specs.Days.{in_kinds, are_quarters, in_window, rests_before, is_declared, shares}
use Rattle.ledger.specs.Settling.{Part, parts, outcome_of, positive, cents}

pub record Book : Type 0 where
  pub terms : Terms
  pub store : StoreModel
  pub rules : Rules
  pub resources : List Resource
  pub orders : List Booked
  pub declarations : List Declaration

-- the orders of a book, in the order of booking
abbrev pub orders_in : List Booked → List Order
orders_in [] = []
orders_in (b ∷ bs) = b.order ∷ orders_in bs

-- a new book on a store
abbrev pub fresh : Terms → StoreModel → Rules → Book
fresh t m R = record { terms = t; store = m; rules = R; resources = []; orders = []; declarations = [] }

abbrev pub with_store : Book → StoreModel → Book
with_store b m = record { terms = b.terms; store = m; rules = b.rules; resources = b.resources; orders = b.orders; declarations = b.declarations }

abbrev pub with_orders : Book → List Booked → Book
with_orders b os = record { terms = b.terms; store = b.store; rules = b.rules; resources = b.resources; orders = os; declarations = b.declarations }

-- REGISTERING

-- a capital letter or a digit
abbrev pub is_pod_byte : ℕ → Bool
is_pod_byte b = (nat_le 65 b && nat_le b 90) || (nat_le 48 b && nat_le b 57)

abbrev pub all_pod_bytes : List ℕ → Bool
all_pod_bytes [] = true
all_pod_bytes (b ∷ bs) = is_pod_byte b && all_pod_bytes bs

abbrev pub is_used : List Resource → List ℕ → Bool
is_used [] pod = false
is_used (x ∷ xs) pod = bytes_eq x.pod pod || is_used xs pod

abbrev pub fields_fit : List Resource → List ℕ → ℕ → Bool
fields_fit xs pod power = (length pod == 14 && all_pod_bytes pod) && (not (is_used xs pod) && (nat_le 1 power && nat_le power 4000))

-- choice 0 means 1
abbrev pub chosen : ℕ → ℕ
chosen choice = cond (choice == 0) 1 choice

abbrev pub is_empty : {A : Type 0} → List A → Bool
is_empty [] = true
is_empty (x ∷ xs) = false

abbrev pub may_register : Book → List ℕ → ℕ → ℕ → Granted (Unit {0})
may_register b pod choice power =
    unless (not (fields_fit b.resources pod power)) Fields >>= (λ _.
    unless (not (is_empty (orders_in b.orders))) OrdersBooked >>= (λ _.
    unless (nat_le b.store.width (length b.resources)) NoRoom >>= (λ _.
    unless (not (is_some (b.rules.days (chosen choice)))) UnknownChoice)))

abbrev pub registered : Book → List ℕ → ℕ → ℕ → Book
registered b pod choice power = record {
  terms = b.terms;
  store = b.store;
  rules = b.rules;
  resources = b.resources ++ (record { pod = pod; choice = chosen choice; power = power } ∷ []);
  orders = b.orders;
  declarations = b.declarations;
}

-- ENTERING AND DROPPING

-- what the store refuses keeps its layer
abbrev pub passed : {A : Type 0} → Result A StoreFault → Granted A
passed (Ok a) = Ok a
passed (Err f) = Err (Store f)

abbrev pub may_enter : Book → ℕ → ℕ → Granted (Unit {0})
may_enter b r d =
    unless (nat_lt 36524 d) Number >>= (λ _.
    unless (nat_le (length b.resources) r) (NotRegistered r d) >>= (λ _.
    passed (put_answer b.store r d)))

abbrev pub may_drop : ℕ → Granted (Unit {0})
may_drop d = passed (drop_answer d)

-- BOOKING

abbrev pub is_direction : ℕ → Bool
is_direction n = nat_le n 1

abbrev pub direction_of : ℕ → Direction
direction_of n = cond (n == 0) Up Down

-- after the last order booked
abbrev pub in_time : List Order → Order → Bool
in_time [] o = true
in_time (a ∷ []) o = rests_before a o
in_time (a ∷ (b ∷ bs)) o = in_time (b ∷ bs) o

abbrev pub order_fits : Order → ℕ → Bool
order_fits o n = (nat_le o.day 36524 && are_quarters o.q0 o.q1) && (is_direction n && (nat_le 1 o.qr && nat_le o.qr 128000))

abbrev pub may_book : Book → Order → ℕ → Granted (Unit {0})
may_book b o n =
    unless (not (order_fits o n)) Number >>= (λ _.
    unless (not (in_window b.terms o.q0 o.q1 && in_kinds b.terms o.day)) Outside >>= (λ _.
    unless (not (in_time (orders_in b.orders) o)) TooSoon >>= (λ _.
    unless (nat_le 128 (length (orders_in b.orders))) ManyOrders)))

abbrev pub booked : Book → Order → Book
booked b o = with_orders b (b.orders ++ (record { order = o; result = None } ∷ []))

-- DECLARING

abbrev pub may_declare : Book → ℕ → ℕ → ℕ → Granted (Unit {0})
may_declare b d q0 q1 =
    unless (not (nat_le d 36524 && are_quarters q0 q1)) Number >>= (λ _.
    unless (not (in_window b.terms q0 q1 && in_kinds b.terms d)) Outside >>= (λ _.
    unless (shares b.declarations d q0 q1) Declared >>= (λ _.
    unless (nat_le 64 (length b.declarations)) ManyDeclarations)))

abbrev pub declared : Book → ℕ → ℕ → ℕ → Book
declared b d q0 q1 = record {
  terms = b.terms;
  store = b.store;
  rules = b.rules;
  resources = b.resources;
  orders = b.orders;
  declarations = b.declarations ++ (record { day = d; q0 = q0; q1 = q1 } ∷ []);
}

-- SETTLING

abbrev pub numbered : List Booked → ℕ → Granted Booked
numbered [] k = Err NoOrder
numbered (b ∷ bs) zero = Ok b
numbered (b ∷ bs) (suc k) = numbered bs k

abbrev pub unsettled : Booked → Option Outcome → Granted Order
unsettled b None = Ok b.order
unsettled b (Some x) = Err Settled

-- a day with a booked order
abbrev pub busy_on : List Order → ℕ → Bool
busy_on [] d = false
busy_on (o ∷ os) d = o.day == d || busy_on os d

abbrev pub recorded : ℕ → Outcome → List Booked → List Booked
recorded k x [] = []
recorded zero x (b ∷ bs) = record { order = b.order; result = Some x } ∷ bs
recorded (suc k) x (b ∷ bs) = b ∷ recorded k x bs

-- what settling gives: the order, its parts and the outcome that is kept with it
pub record Settlement : Type 0 where
  pub order : Order
  pub parts : List Part
  pub outcome : Outcome

abbrev pub settlement_of : Terms → Order → List Part → Settlement
settlement_of t o ps = record { order = o; parts = ps; outcome = outcome_of t o ps }

-- an order by its number, with a sheet of so many words
abbrev pub settlement : Book → ℕ → ℕ → Granted Settlement
settlement b k words =
    numbered b.orders k >>= (λ a.
    unsettled a a.result >>= (λ o.
    unless (nat_lt words (19 * length b.resources)) ShortMemory >>= (λ _.
    parts b.terms b.rules b.store.look (busy_on (orders_in b.orders)) b.resources o >>= (λ ps.
    Ok (settlement_of b.terms o ps)))))

abbrev pub settled : Book → ℕ → Outcome → Book
settled b k x = with_orders b (recorded k x b.orders)

-- THE MONTH

abbrev pub in_month : ℕ → ℕ → ℕ → Bool
in_month first last d = nat_le first d && nat_le d last

-- the outcomes of the orders of the days from first to last, or the first of these orders that is not settled
abbrev pub outcome_at : ℕ → Option Outcome → Granted Outcome
outcome_at k None = Err (Unsettled k)
outcome_at k (Some x) = Ok x

abbrev pub outcomes_in : ℕ → ℕ → ℕ → List Booked → Granted (List Outcome)
outcomes_in first last k [] = Ok []
outcomes_in first last k (b ∷ bs) =
    cond (in_month first last b.order.day)
    (outcome_at k b.result >>= (λ x. outcomes_in first last (suc k) bs >>= (λ xs. Ok (x ∷ xs))))
    (outcomes_in first last (suc k) bs)

abbrev pub window_of : Terms → List ℕ
window_of t = counting t.w0 (t.w1 - t.w0)

-- AV: quarters of the window on days of the kinds
abbrev pub available : Terms → List ℕ → ℕ
available t days = tally (λ d. cond (in_kinds t d) (t.w1 - t.w0) 0) days

-- DI: those that are not declared
abbrev pub offered : Terms → List Declaration → List ℕ → ℕ
offered t xs days = tally (λ d. cond (in_kinds t d) (tally (λ q. cond (is_declared xs d q) 0 1) (window_of t)) 0) days

abbrev pub days_of : ℕ → ℕ → List ℕ
days_of first last = counting first (last + 1 - first)

-- part of whole, in hundredths of a percent; all of nothing is 100 percent
abbrev pub percent : ℕ → ℕ → ℕ
percent part whole = cond (whole == 0) 10000 (positive (rounded (pos (10000 * part)) (pos whole)))

abbrev pub month_figures : Terms → ℕ → ℕ → List Outcome → Month
month_figures t av di xs =
    let apm = positive (rounded (pos (di * t.qc * t.af)) (pos 400)) in
    let upm = cents (tally (λ x. x.paid) xs) t.uf in
    record {
      av = av;
      di = di;
      edm = tally (λ x. x.eda) xs;
      ptm = tally (λ x. x.pta) xs;
      setm = tally (λ x. x.seta) xs;
      dpm = percent (tally (λ x. x.pta) xs) (tally (λ x. x.eda) xs);
      apm = apm;
      upm = upm;
      pay = apm + upm;
    }

abbrev pub month_of : Book → ℕ → ℕ → Granted Month
month_of b y m =
    unless (not (is_month y m)) NoMonth >>= (λ _.
    outcomes_in (first_day y m) (last_day y m) 0 b.orders >>= (λ xs.
    Ok (month_figures b.terms (available b.terms (days_of (first_day y m) (last_day y m))) (offered b.terms b.declarations (days_of (first_day y m) (last_day y m))) xs)))
