-- What the tests of an order and its resources tell.
use Rattle.std.proofs.Common.{◌≡◌, ℕ, zero, suc, ◌<◌, ◌≤◌, Bool, true, ◌&&◌, ltb, leb, List, [], ◌∷◌, length, get_or, refl, ap, arith}
use Rattle.std.specs.List.{list_all}
use Rattle.std.proofs.lemmas.Bool.{and_parts, leb-true, ltb-true}
use Rattle.ledger.specs.declared.records.Order.{Order}
use Rattle.ledger.specs.declared.records.Resource.{Resource}
use Rattle.ledger.specs.Standing.{is_placed, are_powered}
use Rattle.settling.specs.Placed.{Placed}
use Rattle.settling.specs.Sheets.{can_settle}

placed : (o : Order) → is_placed o ≡ true → Placed o
placed o e =
    let a = and_parts (leb 8 o.q0) _ e in
    let b = and_parts (ltb o.q0 o.q1) _ a.1 in
    let c = and_parts (leb o.q1 96) _ b.1 in
    let d = and_parts (leb o.day 36524) _ c.1 in
    record {
      leads = leb-true 8 o.q0 a.0;
      rises = ltb-true o.q0 o.q1 b.0;
      ends = leb-true o.q1 96 c.0;
      day_to = leb-true o.day 36524 d.0;
      power_to = leb-true o.qr 128000 d.1;
    }

pub record Fit (xs : List Resource) (o : Order) : Type 0 where
  pub many : length xs ≤ 32
  pub placed : Placed o
  pub powered : are_powered xs ≡ true

pub fit : (xs : List Resource) (o : Order) → can_settle xs o ≡ true → Fit xs o
fit xs o e =
    let a = and_parts (leb (length xs) 32) _ e in
    let b = and_parts (is_placed o) (are_powered xs) a.1 in
    record { many = leb-true (length xs) 32 a.0; placed = placed o b.0; powered = b.1 }

pub powered_all : (xs : List Resource) → list_all (λ x. leb x.power 4000) xs ≡ are_powered xs
powered_all [] = refl
powered_all (x ∷ xs) = ap (λ (b : Bool). leb x.power 4000 && b) (powered_all xs)

pub powered_at : (xs : List Resource) (i : ℕ) (d : Resource) → are_powered xs ≡ true → i < length xs → (get_or xs i d).power ≤ 4000
powered_at [] i d e h = absurd (omega (arith, h))
powered_at (x ∷ xs) zero d e h = leb-true x.power 4000 (and_parts (leb x.power 4000) (are_powered xs) e).0
powered_at (x ∷ xs) (suc i) d e h = powered_at xs i d (and_parts (leb x.power 4000) (are_powered xs) e).1 (omega arith)
