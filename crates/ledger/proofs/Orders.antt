-- The orders of a book are in time order, and what follows from it for readings.
use Rattle.std.proofs.Common.{◌≡◌, ℕ, zero, suc, ◌+◌, ◌-◌, ◌<◌, ◌≤◌, Bool, true, false, not, ◌&&◌, eqb, leb, ◌⊎◌, List, [], ◌∷◌, ◌++◌, length, ℤ, None, Ok, Err, vec_items, sym, refl, ap, ◌∙◌, subst, inl, inr, true≢false, arith}
use mathlib.Core.List.Memᴰ
use mathlib.Core.List.{Memᴰ}
use lib.Signed.{≤ℤ_refl}
use Rattle.std.specs.List.{AllByRecursion}
use Rattle.std.proofs.ByRecursion.{All-push}
use Rattle.std.proofs.lemmas.Bool.{leb-true, ltb-true, eq-eqb, and_parts, or_left, or_right}
use Rattle.metering.specs.declared.reading.Reading.{Reading}
use Rattle.ledger.specs.declared.fault.BookFault.TheVariants.{Number, Outside, TooSoon, ManyOrders}
use Rattle.ledger.specs.declared.terms.Terms.{Terms}
use Rattle.ledger.specs.declared.records.Direction.{Direction}
use Rattle.ledger.specs.declared.records.Direction.TheVariants.{Up, Down}
use Rattle.ledger.specs.declared.records.Order.{Order}
use Rattle.ledger.specs.declared.records.Outcome.{Outcome}
use Rattle.ledger.specs.declared.records.Booked.{Booked}
use Rattle.ledger.specs.declared.life.Call.{Call}
use Rattle.ledger.specs.declared.life.Call.TheVariants.{Register, Enter, Drop, Book as Ordering, Declare, Settle, Month as Monthly}
use Rattle.ledger.specs.Words.{Granted, ◌>>=◌, unless, worth, Further}
use Rattle.ledger.specs.Days.{starts, ends, in_window, in_kinds}
use Rattle.ledger.specs.Book.{Book, orders_in, may_register, may_enter, may_drop, in_time, order_fits, may_book, may_declare, busy_on, recorded, settlement, month_of}
use Rattle.ledger.specs.Run.{Step, grant, order_from, step, final}
use Rattle.ledger.specs.Lives.{Moved, same, further}
use Rattle.ledger.proofs.Brought.{Apart}

pub record Good (o : Order) : Type 0 where
  pub early : 8 ≤ o.q0
  pub long : o.q0 < o.q1
  pub ended : o.q1 ≤ 96

abbrev pub Before : Order → Order → Type 0
Before a b = ends a + 8 ≤ starts b

abbrev pub Chain : List Order → Type 0
Chain [] = Unit {0}
Chain (o ∷ os) = Good o × AllByRecursion (λ b. Before o b) os × Chain os

all_mem : {A : Type 0} (P : A → Type 0) {x : A} {xs : List A} → AllByRecursion P xs → Memᴰ x xs → P x
all_mem P h (Memᴰ.head e) = subst P (sym e) h.0
all_mem P h (Memᴰ.tail m) = all_mem P h.1 m

pub good_of : {o : Order} {os : List Order} → Chain os → Memᴰ o os → Good o
good_of h (Memᴰ.head e) = subst Good (sym e) h.0
good_of h (Memᴰ.tail m) = good_of h.2 m

before_trans : (a b c : Order) → Good b → Before a b → Before b c → Before a c
before_trans a b c g x y = omega (arith, g.long)

either_way : {a b : Order} (os : List Order) → Chain os → Memᴰ a os → Memᴰ b os → (a ≡ b) ⊎ (Before a b ⊎ Before b a)
either_way [] c m n = absurd (Memᴰ.not-nil m)
either_way {a} {b} (o ∷ os) c m n = pick (Memᴰ.cases_cons m) (Memᴰ.cases_cons n) (λ m' n'. either_way os c.2 m' n')
  where
    pick : (a ≡ o) ⊎ Memᴰ a os → (b ≡ o) ⊎ Memᴰ b os → (Memᴰ a os → Memᴰ b os → (a ≡ b) ⊎ (Before a b ⊎ Before b a)) → (a ≡ b) ⊎ (Before a b ⊎ Before b a)
    pick (inl e) (inl f) k = inl (e ∙ sym f)
    pick (inl e) (inr n') k = inr (inl (subst (λ x. Before x b) (sym e) (all_mem (λ x. Before o x) c.1 n')))
    pick (inr m') (inl f) k = inr (inr (subst (λ x. Before x a) (sym f) (all_mem (λ x. Before o x) c.1 m')))
    pick (inr m') (inr n') k = k m' n'

-- every order of os is in later, and every other one of later comes after all of os
pub record Grown (os later : List Order) : Type 0 where
  pub kept : (a : Order) → Memᴰ a os → Memᴰ a later
  pub fresh : (b : Order) → Memᴰ b later → Memᴰ b os ⊎ ((a : Order) → Memᴰ a os → Before a b)

grown_same : (os : List Order) → Grown os os
grown_same os = record { kept = λ a m. m; fresh = λ b m. inl m }

grown_trans : {os ps qs : List Order} → Grown os ps → Grown ps qs → Grown os qs
grown_trans {os} {ps} {qs} g h = record { kept = λ a m. h.kept a (g.kept a m); fresh = λ b m. go b (h.fresh b m) }
  where
    go : (b : Order) → Memᴰ b ps ⊎ ((a : Order) → Memᴰ a ps → Before a b) → Memᴰ b os ⊎ ((a : Order) → Memᴰ a os → Before a b)
    go b (inl m) = g.fresh b m
    go b (inr after) = inr (λ a m. after a (g.kept a m))

grown_one : (o : Order) (os : List Order) → AllByRecursion (λ a. Before a o) os → Grown os (os ++ (o ∷ []))
grown_one o os h = record { kept = λ a m. Memᴰ.append_left (o ∷ []) m; fresh = λ b m. go b (Memᴰ.append_cases os m) }
  where
    last : (b : Order) → (b ≡ o) ⊎ Memᴰ b [] → Memᴰ b os ⊎ ((a : Order) → Memᴰ a os → Before a b)
    last b (inl e) = inr (λ a m. subst (λ x. Before a x) (sym e) (all_mem (λ x. Before x o) h m))
    last b (inr m) = absurd (Memᴰ.not-nil m)

    go : (b : Order) → Memᴰ b os ⊎ Memᴰ b (o ∷ []) → Memᴰ b os ⊎ ((a : Order) → Memᴰ a os → Before a b)
    go b (inl m) = inl m
    go b (inr m) = last b (Memᴰ.cases_cons m)

chain_push : (o : Order) (os : List Order) → Chain os → Good o → AllByRecursion (λ a. Before a o) os → Chain (os ++ (o ∷ []))
chain_push o [] c g h = (g, tt, tt)
chain_push o (a ∷ os) c g h = (c.0, All-push (λ b. Before a b) os o c.1 h.0, chain_push o os c.2 g h.1)

all_before : (o : Order) (os : List Order) → Chain os → in_time os o ≡ true → AllByRecursion (λ a. Before a o) os
all_before o [] c e = tt
all_before o (a ∷ []) c e = (leb-true (ends a + 8) (starts o) e, tt)
all_before o (a ∷ (b ∷ os)) c e =
    let rest = all_before o (b ∷ os) c.2 e in
    (before_trans a b o c.2.0 c.1.0 rest.0, rest)

pub record Kept (os later : List Order) : Type 0 where
  pub chain : Chain later
  pub grown : Grown os later

kept_same : (os : List Order) → Chain os → Kept os os
kept_same os c = record { chain = c; grown = grown_same os }

-- a call that is granted or refused keeps what both ends keep
grant_kept : {A : Type 0} (os : List Order) (s : Book) (m : Granted A) (f : A → Step) → Kept os (orders_in s.orders) → ((a : A) → m ≡ Ok a → Kept os (orders_in (f a).book.orders)) → Kept os (orders_in (grant s m f).book.orders)
grant_kept os s (Err e) f h k = h
grant_kept os s (Ok a) f h k = k a refl

orders_recorded : (k : ℕ) (x : Outcome) (bs : List Booked) → orders_in (recorded k x bs) ≡ orders_in bs
orders_recorded k x [] = refl
orders_recorded zero x (b ∷ bs) = refl
orders_recorded (suc k) x (b ∷ bs) = ap (λ os. b.order ∷ os) (orders_recorded k x bs)

orders_push : (bs : List Booked) (b : Booked) → orders_in (bs ++ (b ∷ [])) ≡ orders_in bs ++ (b.order ∷ [])
orders_push [] b = refl
orders_push (c ∷ bs) b = ap (λ os. c.order ∷ os) (orders_push bs b)

abbrev Fails : Granted (Unit {0}) → Type 0
Fails (Err e) = ⊥
Fails (Ok a) = Unit {0}

-- what a booking was asked
book_asked : (u v w z : Bool) (a : Unit {0})
    → (unless (not u) Number >>= (λ _. unless (not v) Outside >>= (λ _. unless (not w) TooSoon >>= (λ _. unless z ManyOrders)))) ≡ Ok a → (u ≡ true) × (v ≡ true) × (w ≡ true)
book_asked true true true z a h = (refl, refl, refl)
book_asked true true false z a h = absurd (subst Fails (sym h) tt)
book_asked true false w z a h = absurd (subst Fails (sym h) tt)
book_asked false v w z a h = absurd (subst Fails (sym h) tt)

good_true : (t : Terms) (o : Order) (n : ℕ) → order_fits o n ≡ true → (in_window t o.q0 o.q1 && in_kinds t o.day) ≡ true → Good o
good_true t o n u v =
    let qs = and_parts _ _ (and_parts _ _ (and_parts _ _ u).0).1 in
    let ws = and_parts _ _ (and_parts _ _ v).0 in
    let a = leb-true t.w0 o.q0 ws.0 in
    let b = t.leads in
    record { early = omega arith; long = ltb-true o.q0 o.q1 qs.0; ended = leb-true o.q1 96 qs.1 }

pub step_kept : (s : Book) (x : Call) → Chain (orders_in s.orders) → Kept (orders_in s.orders) (orders_in (step s x).book.orders)
step_kept s (Register pod choice power) h = grant_kept (orders_in s.orders) s (may_register s (vec_items pod) choice power) _ (kept_same _ h) (λ _ _. kept_same _ h)
step_kept s (Enter r d c) h = grant_kept (orders_in s.orders) s (may_enter s r d) _ (kept_same _ h) (λ _ _. kept_same _ h)
step_kept s (Drop d) h = grant_kept (orders_in s.orders) s (may_drop d) _ (kept_same _ h) (λ _ _. kept_same _ h)
step_kept s (Ordering d q0 q1 n qr) h =
    let o = order_from d q0 q1 n qr in
    grant_kept (orders_in s.orders) s (may_book s o n) _ (kept_same _ h) (λ a e.
    let g = book_asked (order_fits o n) (in_window s.terms o.q0 o.q1 && in_kinds s.terms o.day) (in_time (orders_in s.orders) o) (leb 128 (length (orders_in s.orders))) a e in
    let before_all = all_before o (orders_in s.orders) h g.2 in
    subst (λ os. Kept (orders_in s.orders) os) (sym (orders_push s.orders (record { order = o; result = None })))
    (record { chain = chain_push o (orders_in s.orders) h (good_true s.terms o n g.0 g.1) before_all; grown = grown_one o (orders_in s.orders) before_all }))
step_kept s (Declare d q0 q1) h = grant_kept (orders_in s.orders) s (may_declare s d q0 q1) _ (kept_same _ h) (λ _ _. kept_same _ h)
step_kept s (Settle k) h = grant_kept (orders_in s.orders) s (settlement s k 608) _ (kept_same _ h) (λ x _. subst (λ os. Kept (orders_in s.orders) os) (sym (orders_recorded k x.outcome s.orders)) (kept_same _ h))
step_kept s (Monthly y m) h = grant_kept (orders_in s.orders) s (month_of s y m) _ (kept_same _ h) (λ _ _. kept_same _ h)

pub final_kept : (s : Book) (xs : List Call) → Chain (orders_in s.orders) → Kept (orders_in s.orders) (orders_in (final s xs).orders)
final_kept s [] h = kept_same _ h
final_kept s (x ∷ xs) h =
    let k = step_kept s x h in
    let l = final_kept (step s x).book xs k.chain in
    record { chain = l.chain; grown = grown_trans k.grown l.grown }

further_same : (w : Direction) (a : ℤ) → Further w a a
further_same Up a = ≤ℤ_refl a
further_same Down a = ≤ℤ_refl a

busy_mem : {o : Order} (d : ℕ) {os : List Order} → Memᴰ o os → o.day ≡ d → busy_on os d ≡ true
busy_mem d (Memᴰ.head {x = x} {xs = xs} e) f = or_left (eqb x.day d) (busy_on xs d) (eq-eqb x.day d (ap (λ p. p.day) (sym e) ∙ f))
busy_mem d (Memᴰ.tail {x = x} {xs = xs} m) f = or_right (eqb x.day d) (busy_on xs d) (busy_mem d m f)

module _ (os later : List Order) (o : Order) (chain : Chain later) (grown : Grown os later) (m : Memᴰ o os) where
  good : Good o
  good = good_of chain (grown.kept o m)

  -- an order of the same day that has q is o itself, if q lies between o's lead and its end
  only_one : (a : Order) → Memᴰ a later → (q : ℕ) → a.day ≡ o.day → a.q0 ≤ q → q < a.q1 → o.q0 - 8 ≤ q → q < o.q1 → a ≡ o
  only_one a n q d l u l' u' = go (either_way later chain n (grown.kept o m))
    where
      go : (a ≡ o) ⊎ (Before a o ⊎ Before o a) → a ≡ o
      go (inl e) = e
      go (inr (inl x)) = absurd (omega arith)
      go (inr (inr x)) = absurd (omega arith)

  lead_fixed : (q : ℕ) {x y : Reading} → o.q0 - 8 ≤ q → q < o.q0 → Moved later o.day q x y → x ≡ y
  lead_fixed q l u same = refl
  lead_fixed q l u (further a n d f t w) =
      let g = good in
      let e = only_one a n q d f t l (omega arith) in
      absurd (omega (arith, ap (λ p. p.q0) e))

  order_further : (q : ℕ) {x y : Reading} → o.q0 ≤ q → q < o.q1 → Moved later o.day q x y → Further o.direction (worth x) (worth y)
  order_further q {x} l u same = further_same o.direction (worth x)
  order_further q l u (further {a = v} {b = v'} a n d f t w) =
      subst (λ p. Further p.direction v v') (only_one a n q d f t (omega arith) u) w

  history_fixed : (d q : ℕ) {x y : Reading} → d < o.day → busy_on os d ≡ false → Moved later d q x y → x ≡ y
  history_fixed d q l b same = refl
  history_fixed d q l b (further a n e f t w) = absurd (go (grown.fresh a n))
    where
      ga : Good a
      ga = good_of chain n

      clash : Before o a → ⊥
      clash x = let g = ga in omega arith

      go : Memᴰ a os ⊎ ((p : Order) → Memᴰ p os → Before p a) → ⊥
      go (inl k) = true≢false (sym (busy_mem d k e) ∙ b)
      go (inr after) = clash (after o m)

  pub apart_of : Apart later (busy_on os) o
  apart_of = record {
    in_lead = λ q x y l u h. lead_fixed q l u h;
    in_order = λ q x y l u h. order_further q l u h;
    in_history = λ d q x y l b h. history_fixed d q l b h;
    enough = good.early;
  }
