-- What a settled order is remunerated and paid lies in its bounds, in every life.
use Rattle.std.proofs.Common.{◌≡◌, ℕ, ◌*◌, ◌≤◌, Bool, true, false, cond, ltb, ◌⊎◌, List, [], ◌∷◌, length, Ok, Err, vec_items, refl, inl, inr, arith}
use Rattle.std.proofs.lemmas.Bool.{ltb-false}
use Rattle.stores.specs.Model.{put_into, raised_to}
use Rattle.ledger.specs.declared.fault.BookFault.TheVariants.{ShortMemory}
use Rattle.ledger.specs.declared.terms.Terms.{Terms}
use Rattle.ledger.specs.declared.records.Order.{Order}
use Rattle.ledger.specs.declared.records.Outcome.{Outcome}
use Rattle.ledger.specs.declared.life.Call.{Call}
use Rattle.ledger.specs.declared.life.Call.TheVariants.{Register, Enter, Drop, Book as Ordering, Declare, Settle, Month as Monthly}
use Rattle.ledger.specs.declared.life.Answer.TheVariants.{Registered, Entered, Dropped, Booked as Numbered, Declared, Settled, Month as Figures}
use Rattle.ledger.specs.Words.{Granted, ◌>>=◌, unless}
use Rattle.ledger.specs.Settling.{Part, parts, paid_energy, ordered_energy, remunerated, outcome_of}
use Rattle.ledger.specs.Book.{Book, orders_in, with_store, may_register, registered, may_enter, may_drop, may_book, booked, may_declare, declared, numbered, unsettled, busy_on, Settlement, settlement_of, settlement, settled, month_of}
use Rattle.ledger.specs.Run.{Step, grant, sheet_of, order_from, step}
use Rattle.ledger.specs.Lives.{Fair, Bounds}
use Rattle.ledger.proofs.Rel.{Sure}

-- what a settling promises, whatever its evidence
abbrev FairOutcome : Outcome → Type 0
FairOutcome x = (x.seta ≤ x.eda) × ((x.paid ≡ 0) ⊎ ((x.paid ≡ x.seta) × (3 * x.eda ≤ 5 * x.paid)))

paid_fair : (full s : ℕ) → (paid_energy full s ≡ 0) ⊎ ((paid_energy full s ≡ s) × (3 * full ≤ 5 * paid_energy full s))
paid_fair full s = go (ltb (5 * s) (3 * full)) refl
  where
    go : (b : Bool) → ltb (5 * s) (3 * full) ≡ b → (cond b 0 s ≡ 0) ⊎ ((cond b 0 s ≡ s) × (3 * full ≤ 5 * cond b 0 s))
    go true e = inl refl
    go false e = inr (refl, ltb-false (5 * s) (3 * full) e)

outcome_fair : (t : Terms) (o : Order) (ps : List Part) → FairOutcome (outcome_of t o ps)
outcome_fair t o ps = (omega arith, paid_fair (ordered_energy o) (remunerated o ps))

bind_sure : {A B : Type 0} (Q : B → Type 0) (m : Granted A) (f : A → Granted B) → ((a : A) → Sure Q (f a)) → Sure Q (m >>= f)
bind_sure Q (Err e) f h = tt
bind_sure Q (Ok a) f h = h a

settlement_fair : (b : Book) (k words : ℕ) → Sure (λ x. FairOutcome x.outcome) (settlement b k words)
settlement_fair b k words =
    let Q : Settlement → Type 0 = λ x. FairOutcome x.outcome in
    let found : Order → Granted (List Part) = parts b.terms b.rules b.store.look (busy_on (orders_in b.orders)) b.resources in
    bind_sure Q (numbered b.orders k) (λ a. unsettled a a.result >>= (λ o. unless (ltb words (19 * length b.resources)) ShortMemory >>= (λ _. found o >>= (λ ps. Ok (settlement_of b.terms o ps))))) (λ a.
    bind_sure Q (unsettled a a.result) (λ o. unless (ltb words (19 * length b.resources)) ShortMemory >>= (λ _. found o >>= (λ ps. Ok (settlement_of b.terms o ps)))) (λ o.
    bind_sure Q (unless (ltb words (19 * length b.resources)) ShortMemory) (λ _. found o >>= (λ ps. Ok (settlement_of b.terms o ps))) (λ _.
    bind_sure Q (found o) (λ ps. Ok (settlement_of b.terms o ps)) (λ ps. outcome_fair b.terms o ps))))

grant_fair : {A : Type 0} (Q : A → Type 0) (b : Book) (m : Granted A) (f : A → Step) → Sure Q m → ((a : A) → Q a → Fair (f a).answer) → Fair (grant b m f).answer
grant_fair Q b (Err e) f h k = tt
grant_fair Q b (Ok a) f h k = k a h

-- an answer that is fair by what it is
plain : {A : Type 0} (b : Book) (m : Granted A) (f : A → Step) → ((a : A) → Fair (f a).answer) → Fair (grant b m f).answer
plain b (Err e) f k = tt
plain b (Ok a) f k = k a

step_fair : (b : Book) (x : Call) → Fair (step b x).answer
step_fair b (Register pod choice power) = plain b (may_register b (vec_items pod) choice power) (λ _. record { answer = Registered (length b.resources); book = registered b (vec_items pod) choice power }) (λ _. tt)
step_fair b (Enter r d c) = plain b (may_enter b r d) (λ _. record { answer = Entered; book = with_store b (put_into b.store r d c) }) (λ _. tt)
step_fair b (Drop d) = plain b (may_drop d) (λ _. record { answer = Dropped; book = with_store b (raised_to b.store d) }) (λ _. tt)
step_fair b (Ordering d q0 q1 n qr) = plain b (may_book b (order_from d q0 q1 n qr) n) (λ _. record { answer = Numbered (length (orders_in b.orders)); book = booked b (order_from d q0 q1 n qr) }) (λ _. tt)
step_fair b (Declare d q0 q1) = plain b (may_declare b d q0 q1) (λ _. record { answer = Declared; book = declared b d q0 q1 }) (λ _. tt)
step_fair b (Settle k) =
    grant_fair (λ x. FairOutcome x.outcome) b (settlement b k 608) (λ x. record { answer = Settled x.outcome (sheet_of x.parts); book = settled b k x.outcome })
    (settlement_fair b k 608) (λ x h. h)
step_fair b (Monthly y m) = plain b (month_of b y m) (λ x. record { answer = Figures x; book = b }) (λ _. tt)

pub bounds : Bounds
bounds b [] = tt
bounds b (x ∷ xs) = (step_fair b x, bounds (step b x).book xs)
