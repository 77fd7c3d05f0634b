-- Two lives, call by call.
use Rattle.std.proofs.Common.{◌≡◌, ℕ, zero, suc, ◌+◌, ◌-◌, ◌*◌, ◌≤◌, max, Bool, true, false, cond, not, ◌&&◌, eqb, ltb, leb, List, [], ◌∷◌, length, ℤ, is_some, Some, None, Ok, Err, vec_items, Option, Result, sym, refl, ap, subst, ap₂, arith}
use mathlib.Core.Path.{fun_ext}
use mathlib.Core.List.{Memᴰ}
use Rattle.std.specs.List.{AllZip}
use Rattle.std.proofs.lemmas.List.Elements.{AllZip-push}
use Rattle.std.proofs.lemmas.Bool.{and_parts, eqb-true}
use Rattle.calendar.specs.Gregorian.{is_month, first_day, last_day}
use Rattle.metering.specs.declared.curve.Curve.{Curve}
use Rattle.stores.specs.declared.fault.StoreFault.{StoreFault}
use Rattle.stores.specs.declared.fault.StoreFault.TheVariants.{Day, Resource as NoResource, UnderFloor, Held, Full}
use Rattle.stores.specs.Model.{StoreModel, sum_below, one, held_from, put_answer, cut_under, gained, put_into, raised_to}
use Rattle.rulebooks.specs.Rules.{Rules}
use Rattle.ledger.specs.declared.fault.BookFault.{BookFault}
use Rattle.ledger.specs.declared.fault.BookFault.TheVariants.{Fields, OrdersBooked, NoRoom, UnknownChoice, NotRegistered, Number, Outside, TooSoon, ManyOrders, ShortMemory, NoMonth}
use Rattle.ledger.specs.declared.terms.Terms.{Terms}
use Rattle.ledger.specs.declared.records.Order.{Order}
use Rattle.ledger.specs.declared.records.Outcome.{Outcome}
use Rattle.ledger.specs.declared.records.Booked.{Booked}
use Rattle.ledger.specs.declared.records.Resource.{Resource}
use Rattle.ledger.specs.declared.records.Declaration.{Declaration}
use Rattle.ledger.specs.declared.life.Call.{Call}
use Rattle.ledger.specs.declared.life.Call.TheVariants.{Register, Enter, Drop, Book as Ordering, Declare, Settle, Month as Monthly}
use Rattle.ledger.specs.declared.life.Answer.{Answer}
use Rattle.ledger.specs.declared.life.Answer.TheVariants.{Registered, Entered, Dropped, Booked as Numbered, Declared, Settled, Month as Figures}
use Rattle.ledger.specs.Words.{Granted, ◌>>=◌, unless, tally}
use Rattle.ledger.specs.Days.{in_window, in_kinds}
use Rattle.ledger.specs.Settling.{parts}
use Rattle.ledger.specs.Book.{Book, fresh, orders_in, may_register, registered, may_enter, may_drop, may_book, booked, may_declare, declared, numbered, unsettled, busy_on, recorded, Settlement, settlement_of, settlement, settled, in_month, outcome_at, outcomes_in, available, offered, days_of, month_figures, month_of, with_store, fields_fit, is_empty, chosen, order_fits, in_time, passed}
use Rattle.ledger.specs.Run.{Step, grant, sheet_of, order_from, step, run, final, orders_of}
use Rattle.ledger.specs.Lives.{same, MovedCurve, Alike, the_same, entering, added_to, added_at, added_by, Better, same_answer, both_settled, both_months, Compared, TwoLives, NoWorseLife, ended, going, Second, Both, neither, both}
use Rattle.ledger.proofs.Rel.{bind_both, cond_both}
use Rattle.ledger.proofs.Numbers.{cents_more}
use Rattle.ledger.proofs.Brought.{Beheld, not_held, held_both, Apart}
use Rattle.ledger.proofs.Whole.{Improved, settle_near}
use Rattle.ledger.proofs.Orders.{Chain, Kept, step_kept, final_kept, apart_of}

-- a curve is held in both stores or in neither, and differs only where one of the orders stands
abbrev pub Looks : List Order → (ℕ → ℕ → Option Curve) → (ℕ → ℕ → Option Curve) → Type 0
Looks later look look' = (r d : ℕ) → Beheld (MovedCurve later d) (look r d) (look' r d)

abbrev store : ℕ → ℕ → ℕ → ℕ → (ℕ → ℕ → Option Curve) → StoreModel
store w c s f look = record { width = w; capacity = c; span = s; floor = f; look = look }

-- two results: none yet, or one that is no worse
pub data Results : Option Outcome → Option Outcome → Type 0 where
  none_yet : Results None None
  each_has : {x y : Outcome} → x.paid ≤ y.paid → Results (Some x) (Some y)

abbrev pub Booking : Booked → Booked → Type 0
Booking b c = (b.order ≡ c.order) × Results b.result c.result

-- two books side by side
pub data Twin (later : List Order) : Book → Book → Type 0 where
  twin : {t : Terms} {R : Rules} {xs : List Resource} {ds : List Declaration} {w c s f : ℕ} {look look' : ℕ → ℕ → Option Curve} {os os' : List Booked}
      → Looks later look look' → AllZip Booking os os'
      → Twin later (record { terms = t; store = record { width = w; capacity = c; span = s; floor = f; look = look }; rules = R; resources = xs; orders = os; declarations = ds })
      (record { terms = t; store = record { width = w; capacity = c; span = s; floor = f; look = look' }; rules = R; resources = xs; orders = os'; declarations = ds })

orders_same : (bs cs : List Booked) → AllZip Booking bs cs → orders_in bs ≡ orders_in cs
orders_same [] [] h = refl
orders_same [] (c ∷ cs) h = absurd h
orders_same (b ∷ bs) [] h = absurd h
orders_same (b ∷ bs) (c ∷ cs) h = ap₂ ◌∷◌ h.0.0 (orders_same bs cs h.1)

record Found (bs : List Booked) (b c : Booked) : Type 0 where
  pub moved : Booking b c
  pub member : Memᴰ b.order (orders_in bs)

numbered_both : (k : ℕ) (bs cs : List Booked) → AllZip Booking bs cs → Both (Found bs) (numbered bs k) (numbered cs k)
numbered_both k [] [] h = neither
numbered_both k [] (c ∷ cs) h = absurd h
numbered_both k (b ∷ bs) [] h = absurd h
numbered_both zero (b ∷ bs) (c ∷ cs) h = both (record { moved = h.0; member = Memᴰ.head refl })
numbered_both (suc k) (b ∷ bs) (c ∷ cs) h = wider (numbered_both k bs cs h.1)
  where
    wider : {m m' : Granted Booked} → Both (Found bs) m m' → Both (Found (b ∷ bs)) m m'
    wider neither = neither
    wider (both f) = both (record { moved = f.moved; member = Memᴰ.tail f.member })

recorded_each : (k : ℕ) (x y : Outcome) → x.paid ≤ y.paid → (bs cs : List Booked) → AllZip Booking bs cs → AllZip Booking (recorded k x bs) (recorded k y cs)
recorded_each k x y n [] [] h = tt
recorded_each k x y n [] (c ∷ cs) h = absurd h
recorded_each k x y n (b ∷ bs) [] h = absurd h
recorded_each zero x y n (b ∷ bs) (c ∷ cs) h = ((h.0.0, each_has n), h.1)
recorded_each (suc k) x y n (b ∷ bs) (c ∷ cs) h = (h.0, recorded_each k x y n bs cs h.1)

-- THE STORE

some_same : {A : Type 0} {R : A → A → Type 0} {a b : Option A} → Beheld R a b → is_some a ≡ is_some b
some_same not_held = refl
some_same (held_both r) = refl

one_same : {R : Curve → Curve → Type 0} {a b : Option Curve} → Beheld R a b → one a ≡ one b
one_same not_held = refl
one_same (held_both r) = refl

held_same : (later : List Order) (w c s f : ℕ) (look look' : ℕ → ℕ → Option Curve) → Looks later look look' → (d : ℕ) → held_from (store w c s f look) d ≡ held_from (store w c s f look') d
unfolding held_from
held_same later w c s f look look' h d =
    ap (λ (g : ℕ → ℕ). sum_below g w) (fun_ext (λ r. ap (λ (g : ℕ → ℕ). sum_below g 36525) (fun_ext (λ k. ap (λ (n : ℕ). cond (leb d k) n 0) (one_same (h r k))))))

put_same : (later : List Order) (w c s f : ℕ) (look look' : ℕ → ℕ → Option Curve) → Looks later look look' → (r d : ℕ) → put_answer (store w c s f look) r d ≡ put_answer (store w c s f look') r d
put_same later w c s f look look' h r d =
    ap₂ (λ (b : Bool) (n : ℕ). cond (ltb 36524 d) (Err Day) (cond (leb w r) (Err (NoResource r d)) (cond (ltb d f) (Err (UnderFloor r d)) (cond b (Err (Held r d)) (cond (leb c n) (Err (Full r d)) (Ok tt))))))
    (some_same (h r d)) (held_same later w c s f look look' h (max f (d + 1 - s)))

cut_looks : (later : List Order) (f : ℕ) (look look' : ℕ → ℕ → Option Curve) → Looks later look look' → Looks later (cut_under f look) (cut_under f look')
cut_looks later f look look' h r d = go (ltb d f)
  where
    go : (b : Bool) → Beheld (MovedCurve later d) (cond b None (look r d)) (cond b None (look' r d))
    go true = not_held
    go false = h r d

gained_looks : (later : List Order) (r d : ℕ) (c c' : Curve) → MovedCurve later d c c' → (look look' : ℕ → ℕ → Option Curve) → Looks later look look' → Looks later (gained r d c look) (gained r d c' look')
gained_looks later r d c c' m look look' h r' d' = go (eqb r' r && eqb d' d) refl
  where
    go : (b : Bool) → (eqb r' r && eqb d' d) ≡ b → Beheld (MovedCurve later d') (cond b (Some c) (look r' d')) (cond b (Some c') (look' r' d'))
    go true e = held_both (subst (λ k. MovedCurve later k c c') (sym (eqb-true d' d (and_parts (eqb r' r) (eqb d' d) e).1)) m)
    go false e = h r' d'

-- GRANTED OR REFUSED ALIKE

pub record Beside (later : List Order) (added : ℕ) (x y : Step) : Type 0 where
  pub book : Twin later x.book y.book
  pub answer : Better added x.answer y.answer

grant_beside : {A : Type 0} {R : A → A → Type 0} {later : List Order} {m m' : Granted A} (n : ℕ) (s t : Book) (f g : A → Step) → Twin later s t → Both R m m'
    → ((a b : A) → R a b → Beside later n (f a) (g b)) → Beside later n (grant s m f) (grant t m' g)
grant_beside n s t f g w neither k = record { book = w; answer = same_answer }
grant_beside n s t f g w (both {a = a} {b = b} r) k = k a b r

both_refl : {A : Type 0} (m m' : Granted A) → m ≡ m' → Both (λ (a b : A). Unit {0}) m m'
both_refl {A} m m' e = subst (λ x. Both (λ (a b : A). Unit {0}) m x) e (go m)
  where
    go : (x : Granted A) → Both (λ (a b : A). Unit {0}) x x
    go (Err w) = neither
    go (Ok a) = both tt

unless_both : (b : Bool) (e : BookFault) → Both (λ (a c : Unit {0}). Unit {0}) (unless b e) (unless b e)
unless_both true e = neither
unless_both false e = both tt

unsettled_both : (b c : Booked) → b.order ≡ c.order → {x y : Option Outcome} → Results x y → Both (λ o p. (o ≡ b.order) × (o ≡ p)) (unsettled b x) (unsettled c y)
unsettled_both b c e none_yet = both (refl, e)
unsettled_both b c e (each_has n) = neither

-- MONTHS

-- the outcomes of a month: as many, and each paid at least as much
abbrev Pays : List Outcome → List Outcome → Type 0
Pays xs ys = tally (λ x. x.paid) xs ≤ tally (λ y. y.paid) ys

outcome_both : (k : ℕ) {x y : Option Outcome} → Results x y → Both (λ a b. a.paid ≤ b.paid) (outcome_at k x) (outcome_at k y)
outcome_both k none_yet = neither
outcome_both k (each_has n) = both n

outcomes_both : (first last k : ℕ) (bs cs : List Booked) → AllZip Booking bs cs → Both Pays (outcomes_in first last k bs) (outcomes_in first last k cs)
outcomes_both first last k [] [] h = both (omega arith)
outcomes_both first last k [] (c ∷ cs) h = absurd h
outcomes_both first last k (b ∷ bs) [] h = absurd h
outcomes_both first last k (b ∷ bs) (c ∷ cs) h =
    cond_both (in_month first last b.order.day) (in_month first last c.order.day) (ap (λ o. in_month first last o.day) h.0.0)
    (bind_both (λ x. outcomes_in first last (suc k) bs >>= (λ xs. Ok (x ∷ xs))) (λ x. outcomes_in first last (suc k) cs >>= (λ xs. Ok (x ∷ xs)))
    (outcome_both k h.0.1) (λ x y r.
    bind_both (λ xs. Ok (x ∷ xs)) (λ xs. Ok (y ∷ xs)) (outcomes_both first last (suc k) bs cs h.1) (λ xs ys p. both (omega arith))))
    (outcomes_both first last (suc k) bs cs h.1)

pay_more : (t : Terms) (av di : ℕ) (xs ys : List Outcome) → Pays xs ys → (month_figures t av di xs).pay ≤ (month_figures t av di ys).pay
pay_more t av di xs ys p =
    let c = cents_more t.uf (tally (λ x. x.paid) xs) (tally (λ y. y.paid) ys) p in
    omega arith

-- ONE CALL

module _ (later : List Order) (t : Terms) (R : Rules) (xs : List Resource) (ds : List Declaration) (w c s f : ℕ) (look look' : ℕ → ℕ → Option Curve) (os os' : List Booked)
    (L : Looks later look look') (B : AllZip Booking os os')
    (A : (o : Order) → Memᴰ o (orders_in os) → Apart later (busy_on (orders_in os)) o) where
  abbrev one_book : Book
  one_book = record { terms = t; store = record { width = w; capacity = c; span = s; floor = f; look = look }; rules = R; resources = xs; orders = os; declarations = ds }

  abbrev other_book : Book
  other_book = record { terms = t; store = record { width = w; capacity = c; span = s; floor = f; look = look' }; rules = R; resources = xs; orders = os'; declarations = ds }

  here : Twin later one_book other_book
  here = twin L B

  -- from the order on: its parts, in both stores
  abbrev from_order : Book → Order → Granted Settlement
  from_order b o =
      unless (ltb 608 (19 * length b.resources)) ShortMemory >>= (λ _.
      parts b.terms b.rules b.store.look (busy_on (orders_in b.orders)) b.resources o >>= (λ ps.
      Ok (settlement_of b.terms o ps)))

  order_both : (o : Order) → Memᴰ o (orders_in os) → Both (Improved (added_to one_book other_book o)) (from_order one_book o) (from_order other_book o)
  order_both o m =
      subst (λ (ps : List Order). Both (Improved (added_to one_book other_book o)) (from_order one_book o)
      (unless (ltb 608 (19 * length xs)) ShortMemory >>= (λ _. parts t R look' (busy_on ps) xs o >>= (λ qs. Ok (settlement_of t o qs))))) (orders_same os os' B)
      (bind_both (λ _. parts t R look (busy_on (orders_in os)) xs o >>= (λ ps. Ok (settlement_of t o ps))) (λ _. parts t R look' (busy_on (orders_in os)) xs o >>= (λ ps. Ok (settlement_of t o ps)))
      (unless_both (ltb 608 (19 * length xs)) ShortMemory) (λ _ _ _.
      settle_near t R look look' (busy_on (orders_in os)) xs later o (A o m) L))

  settled_both : {m m' : Granted Booked} → Both (Found os) m m'
      → Both (Improved (added_at one_book other_book m)) (m >>= (λ a. unsettled a a.result >>= from_order one_book)) (m' >>= (λ a. unsettled a a.result >>= from_order other_book))
  settled_both neither = neither
  settled_both (both {a = a} {b = b} g) =
      bind_both (from_order one_book) (from_order other_book) (unsettled_both a b g.moved.0 g.moved.1) (λ o p e.
      subst (λ q. Both (Improved (added_to one_book other_book a.order)) (from_order one_book o) (from_order other_book q)) e.1
      (subst (λ q. Both (Improved (added_to one_book other_book q)) (from_order one_book o) (from_order other_book o)) e.0
      (order_both o (subst (λ q. Memᴰ q (orders_in os)) (sym e.0) g.member))))

  settlement_both : (k : ℕ) → Both (Improved (added_at one_book other_book (numbered os k))) (settlement one_book k 608) (settlement other_book k 608)
  settlement_both k = settled_both (numbered_both k os os' B)

  month_both : (y m : ℕ) → Both (λ a b. a.pay ≤ b.pay) (month_of one_book y m) (month_of other_book y m)
  month_both y m =
      bind_both
      (λ _. outcomes_in (first_day y m) (last_day y m) 0 os >>= (λ zs. Ok (month_figures t (available t (days_of (first_day y m) (last_day y m))) (offered t ds (days_of (first_day y m) (last_day y m))) zs)))
      (λ _. outcomes_in (first_day y m) (last_day y m) 0 os' >>= (λ zs. Ok (month_figures t (available t (days_of (first_day y m) (last_day y m))) (offered t ds (days_of (first_day y m) (last_day y m))) zs)))
      (unless_both (not (is_month y m)) NoMonth) (λ _ _ _.
      bind_both (λ zs. Ok (month_figures t (available t (days_of (first_day y m) (last_day y m))) (offered t ds (days_of (first_day y m) (last_day y m))) zs))
      (λ zs. Ok (month_figures t (available t (days_of (first_day y m) (last_day y m))) (offered t ds (days_of (first_day y m) (last_day y m))) zs))
      (outcomes_both (first_day y m) (last_day y m) 0 os os' B) (λ zs zs' p.
      both (pay_more t (available t (days_of (first_day y m) (last_day y m))) (offered t ds (days_of (first_day y m) (last_day y m))) zs zs' p)))

  -- the two books ask the same of a call
  register_same : (pod : List ℕ) (choice power : ℕ) → may_register one_book pod choice power ≡ may_register other_book pod choice power
  register_same pod choice power =
      ap (λ (e : Bool). unless (not (fields_fit xs pod power)) Fields >>= (λ _. unless (not e) OrdersBooked >>= (λ _. unless (leb w (length xs)) NoRoom >>= (λ _. unless (not (is_some (R.days (chosen choice)))) UnknownChoice))))
      (ap is_empty (orders_same os os' B))

  book_same : (o : Order) (n : ℕ) → may_book one_book o n ≡ may_book other_book o n
  book_same o n =
      ap (λ (ps : List Order). unless (not (order_fits o n)) Number >>= (λ _. unless (not (in_window t o.q0 o.q1 && in_kinds t o.day)) Outside >>= (λ _. unless (not (in_time ps o)) TooSoon >>= (λ _. unless (leb 128 (length ps)) ManyOrders))))
      (orders_same os os' B)

  enter_same : (r d : ℕ) → may_enter one_book r d ≡ may_enter other_book r d
  enter_same r d =
      ap (λ (a : Result (Unit {0}) StoreFault). unless (ltb 36524 d) Number >>= (λ _. unless (leb (length xs) r) (NotRegistered r d) >>= (λ _. passed a)))
      (put_same later w c s f look look' L r d)

  enter_beside : (r d : ℕ) (k k' : Curve) → MovedCurve later d k k' → Beside later 0 (step one_book (Enter r d k)) (step other_book (Enter r d k'))
  enter_beside r d k k' m =
      grant_beside 0 one_book other_book (λ _. record { answer = Entered; book = with_store one_book (put_into one_book.store r d k) }) (λ _. record { answer = Entered; book = with_store other_book (put_into other_book.store r d k') }) here
      (both_refl (may_enter one_book r d) (may_enter other_book r d) (enter_same r d)) (λ _ _ _.
      record { book = twin (cut_looks later (max f (d + 1 - s)) (gained r d k look) (gained r d k' look') (gained_looks later r d k k' m look look' L)) B; answer = same_answer })

  same_call : (x : Call) → Beside later (added_by one_book other_book x) (step one_book x) (step other_book x)
  same_call (Register pod choice power) =
      grant_beside 0 one_book other_book (λ _. record { answer = Registered (length xs); book = registered one_book (vec_items pod) choice power }) (λ _. record { answer = Registered (length xs); book = registered other_book (vec_items pod) choice power }) here
      (both_refl _ _ (register_same (vec_items pod) choice power)) (λ _ _ _. record { book = twin L B; answer = same_answer })
  same_call (Enter r d k) = enter_beside r d k k (λ q. same)
  same_call (Drop d) =
      grant_beside 0 one_book other_book (λ _. record { answer = Dropped; book = with_store one_book (raised_to one_book.store d) }) (λ _. record { answer = Dropped; book = with_store other_book (raised_to other_book.store d) }) here
      (both_refl (may_drop d) (may_drop d) refl) (λ _ _ _. record { book = twin (cut_looks later d look look' L) B; answer = same_answer })
  same_call (Ordering d q0 q1 n qr) =
      let o = order_from d q0 q1 n qr in
      grant_beside 0 one_book other_book (λ _. record { answer = Numbered (length (orders_in os)); book = booked one_book o }) (λ _. record { answer = Numbered (length (orders_in os')); book = booked other_book o }) here
      (both_refl (may_book one_book o n) (may_book other_book o n) (book_same o n)) (λ _ _ _.
      record {
        book = twin L (AllZip-push Booking os os' (record { order = o; result = None }) (record { order = o; result = None }) B (refl, none_yet));
        answer = subst (λ (k : ℕ). Better 0 (Numbered (length (orders_in os))) (Numbered k)) (ap length (orders_same os os' B)) same_answer;
      })
  same_call (Declare d q0 q1) =
      grant_beside 0 one_book other_book (λ _. record { answer = Declared; book = declared one_book d q0 q1 }) (λ _. record { answer = Declared; book = declared other_book d q0 q1 }) here
      (both_refl (may_declare one_book d q0 q1) (may_declare other_book d q0 q1) refl) (λ _ _ _. record { book = twin L B; answer = same_answer })
  same_call (Settle k) =
      grant_beside (added_at one_book other_book (numbered os k)) one_book other_book
      (λ x. record { answer = Settled x.outcome (sheet_of x.parts); book = settled one_book k x.outcome }) (λ x. record { answer = Settled x.outcome (sheet_of x.parts); book = settled other_book k x.outcome }) here
      (settlement_both k) (λ x y i.
      record {
        book = twin L (recorded_each k x.outcome y.outcome i.outcome.paid os os' B);
        answer = subst (λ (sh : List ℤ). Better (added_at one_book other_book (numbered os k)) (Settled x.outcome (sheet_of x.parts)) (Settled y.outcome sh)) i.sheet (both_settled i.outcome);
      })
  same_call (Monthly y m) =
      grant_beside 0 one_book other_book (λ x. record { answer = Figures x; book = one_book }) (λ x. record { answer = Figures x; book = other_book }) here
      (month_both y m) (λ a b p. record { book = here; answer = both_months p })

  pub step_beside : {x y : Call} → Alike later x y → Beside later (added_by one_book other_book x) (step one_book x) (step other_book y)
  step_beside (the_same {x = x}) = same_call x
  step_beside (entering {r = r} {d = d} {c = k} {c' = k'} m) = enter_beside r d k k' m

-- WHOLE LIVES

beside : {later : List Order} {s t : Book} → Twin later s t → ((o : Order) → Memᴰ o (orders_in s.orders) → Apart later (busy_on (orders_in s.orders)) o)
    → {x y : Call} → Alike later x y → Beside later (added_by s t x) (step s x) (step t y)
beside {later} (twin {t = t} {R = R} {xs = xs} {ds = ds} {w = w} {c = c} {s = s} {f = f} {look = look} {look' = look'} {os = os} {os' = os'} L B) A al =
    step_beside later t R xs ds w c s f look look' os os' L B A al

from_here : (later : List Order) (s t : Book) (xs ys : List Call) → Chain (orders_in s.orders) → Twin later s t
    → orders_in (final s xs).orders ≡ later → AllZip (Alike later) xs ys → Compared s t xs ys
from_here later s t [] [] c w e h = tt
from_here later s t [] (y ∷ ys) c w e h = absurd h
from_here later s t (x ∷ xs) [] c w e h = absurd h
from_here later s t (x ∷ xs) (y ∷ ys) c w e h =
    let k : Kept (orders_in s.orders) later = subst (λ os. Kept (orders_in s.orders) os) e (final_kept s (x ∷ xs) c) in
    let b = beside w (λ o m. apart_of (orders_in s.orders) later o k.chain k.grown m) h.0 in
    (b.answer, from_here later (step s x).book (step t y).book xs ys (step_kept s x c).chain b.book e h.1)

-- a store looks like itself
self_looks : (later : List Order) (look : ℕ → ℕ → Option Curve) → Looks later look look
self_looks later look r d = go (look r d)
  where
    go : (a : Option Curve) → Beheld (MovedCurve later d) a a
    go None = not_held
    go (Some c) = held_both (λ q. same)

pub two_lives : TwoLives
two_lives t m R xs ys h =
    from_here (orders_of (fresh t m R) xs) (fresh t m R) (fresh t m R) xs ys tt (twin (self_looks (orders_of (fresh t m R) xs) m.look) tt) refl h

-- the same, of the answers as lists
no_worse_life : (s t : Book) (xs ys : List Call) → Compared s t xs ys → NoWorseLife s t xs ys (run s xs) (run t ys)
no_worse_life s t [] [] c = ended
no_worse_life s t [] (y ∷ ys) c = elim c [ ]
no_worse_life s t (x ∷ xs) [] c = elim c [ ]
no_worse_life s t (x ∷ xs) (y ∷ ys) c = going c.0 (no_worse_life (step s x).book (step t y).book xs ys c.1)

pub second : (t : Terms) (m : StoreModel) (R : Rules) (xs : List Call) (us : List Answer) → us ≡ run (fresh t m R) xs → Second (fresh t m R) xs us
second t m R xs us e ys h =
    subst (λ (l : List Answer). NoWorseLife (fresh t m R) (fresh t m R) xs ys l (run (fresh t m R) ys)) (sym e) (no_worse_life (fresh t m R) (fresh t m R) xs ys (two_lives t m R xs ys h))
