-- The settling of an order of a book, from the order found and the parts of its resources.
use Rattle.std.proofs.Common.{◌≡◌, ℕ, ◌*◌, ◌≤◌, Bool, true, not, ltb, leb, List, length, ℤ, Ok, Err, sym, refl, ap, ◌∙◌, arith}
use Rattle.std.proofs.lemmas.Bool.{and_from, le-leb}
use Rattle.ledger.specs.declared.fault.BookFault.{BookFault}
use Rattle.ledger.specs.declared.fault.BookFault.TheVariants.{Number, ShortMemory}
use Rattle.ledger.specs.declared.records.Order.{Order}
use Rattle.ledger.specs.declared.records.Outcome.{Outcome}
use Rattle.ledger.specs.declared.records.Resource.{Resource}
use Rattle.ledger.specs.Words.{Granted, ◌>>=◌, unless}
use Rattle.ledger.specs.Settling.{Part, parts, outcome_of}
use Rattle.ledger.specs.Book.{Book, orders_in, busy_on, numbered, unsettled, Settlement, settlement_of, settlement, settled}
use Rattle.ledger.specs.Standing.{is_placed, are_powered}
use Rattle.settling.specs.Sheets.{settled_at, sheet_of, can_settle, order_parts}
use Rattle.settlement.specs.Meant.{outcome_in, after_settle, sheet_after}
use Rattle.settlement.specs.Tables.{unsettled_in}

pub can_settle_lem : (xs : List Resource) (o : Order) → length xs ≤ 32 → are_powered xs ≡ true → is_placed o ≡ true → can_settle xs o ≡ true
can_settle_lem xs o h p q = and_from (leb (length xs) 32) _ (le-leb (length xs) 32 h) (and_from (is_placed o) _ q p)

bind_bind : {A B C : Type 0} (m : Granted A) (f : A → Granted B) (g : B → Granted C) → (m >>= (λ a. f a >>= g)) ≡ ((m >>= f) >>= g)
bind_bind (Ok a) f g = refl
bind_bind (Err e) f g = refl

module _ (b : Book) (k words : ℕ) (o : Order) where
  -- the parts of the order, and what it settles at
  abbrev pub parts_in : Granted (List Part)
  parts_in = order_parts b.terms b.rules b.store.look b.orders b.resources o words

  abbrev pub settling : Granted (List Part) → Granted Settlement
  settling m = m >>= (λ ps. Ok (settlement_of b.terms o ps))

  pub settlement_is : unsettled_in b.orders k ≡ Ok o → can_settle b.resources o ≡ true → settlement b k words ≡ settling parts_in
  settlement_is p t =
      let room = unless (ltb words (19 * length b.resources)) ShortMemory in
      let all : Granted (List Part) = parts b.terms b.rules b.store.look (busy_on (orders_in b.orders)) b.resources o in
      let rest : Order → Granted Settlement = λ a. room >>= (λ _. parts b.terms b.rules b.store.look (busy_on (orders_in b.orders)) b.resources a >>= (λ ps. Ok (settlement_of b.terms a ps))) in
      bind_bind (numbered b.orders k) (λ a. unsettled a a.result) rest
      ∙ (ap (λ (m : Granted Order). m >>= rest) p
      ∙ (bind_bind room (λ _. all) (λ ps. Ok (settlement_of b.terms o ps))
      ∙ sym (ap (λ (v : Bool). settling (unless (not v) Number >>= (λ _. room >>= (λ _. all)))) t)))

  pub settling_answer : (m : Granted (List Part)) → settled_at b.terms o m ≡ outcome_in (settling m)
  settling_answer (Ok ps) = refl
  settling_answer (Err e) = refl

  pub settling_sheet : (m : Granted (List Part)) (ws : List ℤ) → sheet_of m ws ≡ sheet_after (settling m) ws
  settling_sheet (Ok ps) ws = refl
  settling_sheet (Err e) ws = refl

  pub settling_refused : (e : BookFault) (m : Granted (List Part)) → Err e ≡ settled_at b.terms o m → b ≡ after_settle b k (settling m)
  settling_refused e (Ok ps) q = let z : ◌≡◌ {A = ℕ} 0 1 = cc in absurd (omega (arith, z))
  settling_refused e (Err f) q = refl

  pub settling_done : (x : Outcome) (m : Granted (List Part)) → Ok x ≡ settled_at b.terms o m → settled b k x ≡ after_settle b k (settling m)
  settling_done x (Ok ps) q = let h : x ≡ outcome_of b.terms o ps = cc in ap (settled b k) h
  settling_done x (Err f) q = let z : ◌≡◌ {A = ℕ} 0 1 = cc in absurd (omega (arith, z))
