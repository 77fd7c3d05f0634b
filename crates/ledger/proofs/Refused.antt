-- Each refusal of each call, on a book that shows it, by computing.
use Rattle.std.proofs.Common.{◌≡◌, ℕ, true, false, cond, ◌&&◌, leb, ◌∷◌, length, replicate, pos, Some, None, Ok, Err, refl}
use Rattle.calendar.specs.Gregorian.{years_days, months_days, first_day, last_day}
use Rattle.stores.specs.declared.fault.StoreFault.TheVariants.{Day, UnderFloor, Held}
use Rattle.stores.specs.Model.{StoreModel}
use Rattle.rulebooks.specs.Supplied.{supplied_rules}
use Rattle.ledger.specs.declared.fault.BookFault.TheVariants.{Fields, OrdersBooked, NoRoom, UnknownChoice, NotRegistered, Number, Outside, TooSoon, ManyOrders, Declared, ManyDeclarations, NoOrder, Settled, NoCurve, NoMonth, Unsettled, ShortMemory, Store}
use Rattle.ledger.specs.declared.records.Direction.TheVariants.{Up}
use Rattle.ledger.specs.declared.records.Order.{Order}
use Rattle.ledger.specs.Days.{are_quarters, in_window, in_kinds, shares}
use Rattle.ledger.specs.Book.{Book, orders_in, fresh, may_register, may_enter, may_drop, order_fits, in_time, may_book, booked, may_declare, declared, settlement, settled, month_of}
use Rattle.ledger.specs.Figures.{working, flat, book_on, monday, four_quarters, empty_keeper}

-- room for two, with a curve of the first for day 7 and a floor at day 5
unfoldable two : StoreModel
two = record { width = 2; capacity = 400; span = 90; floor = 5; look = λ r d. cond (leb r 0 && (leb 7 d && leb d 7)) (Some (flat (pos 1))) None }

unfoldable empty : Book
empty = fresh working empty_keeper supplied_rules

-- one resource
unfoldable one : Book
one = book_on working empty_keeper

-- with an order for Monday 8 June 2026
unfoldable ordering : Book
ordering = booked one four_quarters

unfoldable order : ℕ → ℕ → ℕ → ℕ → Order
order d q0 q1 qr = record { day = d; q0 = q0; q1 = q1; direction = Up; qr = qr }

-- REGISTERING

short_pod : may_register empty (replicate 13 65) 1 8 ≡ Err Fields
unfolding empty
short_pod = refl

small_letter : may_register empty (97 ∷ replicate 13 65) 1 8 ≡ Err Fields
unfolding empty
small_letter = refl

same_pod : may_register one (replicate 14 65) 1 8 ≡ Err Fields
unfolding one
same_pod = refl

no_power : may_register empty (replicate 14 65) 1 0 ≡ Err Fields
unfolding empty
no_power = refl

over_power : may_register empty (replicate 14 65) 1 4001 ≡ Err Fields
unfolding empty
over_power = refl

after_order : may_register ordering (replicate 14 66) 1 8 ≡ Err OrdersBooked
unfolding ordering one
after_order = refl

no_room : may_register one (replicate 14 66) 1 8 ≡ Err NoRoom
unfolding one
no_room = refl

unknown_choice : may_register empty (replicate 14 65) 9 8 ≡ Err UnknownChoice
unfolding empty
unknown_choice = refl

-- choice 0 is known
granted : may_register empty (replicate 14 65) 0 8 ≡ Ok tt
unfolding empty
granted = refl

-- ENTERING AND DROPPING

no_day : may_enter one 0 36525 ≡ Err Number
unfolding one
no_day = refl

not_registered : may_enter one 1 7 ≡ Err (NotRegistered 1 7)
unfolding one
not_registered = refl

under_floor : may_enter (book_on working two) 0 4 ≡ Err (Store (UnderFloor 0 4))
unfolding two
under_floor = refl

held_already : may_enter (book_on working two) 0 7 ≡ Err (Store (Held 0 7))
unfolding two
held_already = refl

no_day_to_drop : may_drop 36525 ≡ Err (Store Day)
no_day_to_drop = refl

-- BOOKING

no_quarters : may_book one (order monday 44 44 8) 0 ≡ Err Number
unfolding one order
no_quarters = refl

no_direction : may_book one four_quarters 2 ≡ Err Number
unfolding one
no_direction = refl

no_ordered_power : may_book one (order monday 44 48 0) 0 ≡ Err Number
unfolding one order
no_ordered_power = refl

before_window : may_book one (order monday 7 12 8) 0 ≡ Err Outside
unfolding one order
before_window = refl

on_sunday : may_book one (order 9654 44 48 8) 0 ≡ Err Outside
unfolding one order
on_sunday = refl

too_soon : may_book ordering (order monday 55 60 8) 0 ≡ Err TooSoon
unfolding ordering one order
too_soon = refl

many_orders : (b : Book) (o : Order) (n : ℕ) → order_fits o n ≡ true → (in_window b.terms o.q0 o.q1 && in_kinds b.terms o.day) ≡ true
    → in_time (orders_in b.orders) o ≡ true → leb 128 (length (orders_in b.orders)) ≡ true → may_book b o n ≡ Err ManyOrders
many_orders b o n fits inside timely many = rw (fits, inside, timely, many) refl

-- DECLARING

no_declared_day : may_declare one 36525 44 48 ≡ Err Number
unfolding one
no_declared_day = refl

past_midnight : may_declare one monday 44 97 ≡ Err Number
unfolding one
past_midnight = refl

declared_before_window : may_declare one monday 7 12 ≡ Err Outside
unfolding one
declared_before_window = refl

declared_twice : may_declare (declared one monday 44 48) monday 47 52 ≡ Err Declared
unfolding one
declared_twice = refl

many_declarations : (b : Book) (d q0 q1 : ℕ) → (leb d 36524 && are_quarters q0 q1) ≡ true → (in_window b.terms q0 q1 && in_kinds b.terms d) ≡ true
    → shares b.declarations d q0 q1 ≡ false → leb 64 (length b.declarations) ≡ true → may_declare b d q0 q1 ≡ Err ManyDeclarations
many_declarations b d q0 q1 fits inside free many = rw (fits, inside, free, many) refl

-- SETTLING; a history that is too short stands among the figures

no_order : settlement one 0 608 ≡ Err NoOrder
unfolding one
no_order = refl

settled_already : settlement (settled ordering 0 (record { sum = pos 0; pta = 0; eda = 8000; seta = 0; paid = 0; pay = 0 })) 0 608 ≡ Err Settled
unfolding ordering one
settled_already = refl

short_sheet : settlement ordering 0 18 ≡ Err ShortMemory
unfolding ordering one
short_sheet = refl

no_curve : settlement ordering 0 19 ≡ Err (NoCurve 0 monday)
unfolding ordering one
no_curve = refl

-- THE MONTH

no_month : month_of one 2026 13 ≡ Err NoMonth
unfolding one
no_month = refl

no_year : month_of one 2100 1 ≡ Err NoMonth
unfolding one
no_year = refl

unsettled_order : month_of ordering 2026 6 ≡ Err (Unsettled 0)
unfolding ordering one years_days months_days first_day last_day
unsettled_order = refl
