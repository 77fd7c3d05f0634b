-- What stands of orders and resources: one more, one recorded, one looked up, all of them.
use Rattle.std.proofs.Common.{◌≡◌, ℕ, zero, suc, ◌<◌, ◌≤◌, true, ◌&&◌, ltb, leb, List, [], ◌∷◌, ◌++◌, length, get_or, Some, refl, sym, subst, arith}
use Rattle.std.proofs.lemmas.Bool.{and_parts, and_from, leb-true, le-leb}
use Rattle.ledger.specs.declared.terms.Terms.{Terms}
use Rattle.ledger.specs.declared.records.Order.{Order}
use Rattle.ledger.specs.declared.records.Outcome.{Outcome}
use Rattle.ledger.specs.declared.records.Booked.{Booked}
use Rattle.ledger.specs.declared.records.Resource.{Resource}
use Rattle.ledger.specs.Days.{in_window, in_kinds, are_quarters}
use Rattle.ledger.specs.Book.{recorded}
use Rattle.ledger.specs.Standing.{is_placed, is_modest, are_modest, are_standing, are_powered}

-- what booking tests is enough
pub placed_booked : (t : Terms) (o : Order) → ((leb o.day 36524 && are_quarters o.q0 o.q1) && (leb 1 o.qr && leb o.qr 128000)) ≡ true → (in_window t o.q0 o.q1 && in_kinds t o.day) ≡ true → is_placed o ≡ true
placed_booked t o f w =
    let a = and_parts (leb o.day 36524 && are_quarters o.q0 o.q1) _ f in
    let b = and_parts (leb o.day 36524) _ a.0 in
    let q = and_parts (ltb o.q0 o.q1) (leb o.q1 96) b.1 in
    let p = and_parts (leb 1 o.qr) (leb o.qr 128000) a.1 in
    let v = and_parts (in_window t o.q0 o.q1) (in_kinds t o.day) w in
    let u = and_parts (leb t.w0 o.q0) (leb o.q1 t.w1) v.0 in
    let first : t.w0 ≤ o.q0 = leb-true t.w0 o.q0 u.0 in
    let eight : 8 ≤ t.w0 = t.leads in
    and_from (leb 8 o.q0) _ (le-leb 8 o.q0 (omega arith))
    (and_from (ltb o.q0 o.q1) _ q.0
    (and_from (leb o.q1 96) _ q.1
    (and_from (leb o.day 36524) _ b.0 p.1)))

pub standing_more : (bs : List Booked) (b : Booked) → are_standing bs ≡ true → is_placed b.order ≡ true → is_modest b.result ≡ true → are_standing (bs ++ (b ∷ [])) ≡ true
standing_more [] b e p m = and_from (is_placed b.order && is_modest b.result) true (and_from (is_placed b.order) _ p m) refl
standing_more (a ∷ bs) b e p m =
    let h = and_parts (is_placed a.order && is_modest a.result) (are_standing bs) e in
    and_from (is_placed a.order && is_modest a.result) _ h.0 (standing_more bs b h.1 p m)

pub standing_recorded : (bs : List Booked) (k : ℕ) (x : Outcome) → are_standing bs ≡ true → is_modest (Some x) ≡ true → are_standing (recorded k x bs) ≡ true
standing_recorded [] k x e w = refl
standing_recorded (a ∷ bs) zero x e w =
    let h = and_parts (is_placed a.order && is_modest a.result) (are_standing bs) e in
    let g = and_parts (is_placed a.order) (is_modest a.result) h.0 in
    and_from (is_placed a.order && is_modest (Some x)) _ (and_from (is_placed a.order) _ g.0 w) h.1
standing_recorded (a ∷ bs) (suc k) x e w =
    let h = and_parts (is_placed a.order && is_modest a.result) (are_standing bs) e in
    and_from (is_placed a.order && is_modest a.result) _ h.0 (standing_recorded bs k x h.1 w)

-- the order of a number
pub placed_at : (bs : List Booked) (k : ℕ) (a : Booked) → are_standing bs ≡ true → k < length bs → a ≡ get_or bs k a → is_placed a.order ≡ true
placed_at [] k a e h i = absurd (omega arith)
placed_at (b ∷ bs) zero a e h i =
    let g = and_parts (is_placed b.order && is_modest b.result) (are_standing bs) e in
    subst (λ (x : Booked). is_placed x.order ≡ true) (sym i) (and_parts (is_placed b.order) (is_modest b.result) g.0).0
placed_at (b ∷ bs) (suc k) a e h i =
    let g = and_parts (is_placed b.order && is_modest b.result) (are_standing bs) e in
    placed_at bs k a g.1 (omega arith) i

pub all_modest : (bs : List Booked) → are_standing bs ≡ true → are_modest bs ≡ true
all_modest [] e = refl
all_modest (a ∷ bs) e =
    let g = and_parts (is_placed a.order && is_modest a.result) (are_standing bs) e in
    let h = and_parts (is_placed a.order) (is_modest a.result) g.0 in
    and_from (is_modest a.result) _ h.1 (all_modest bs g.1)

pub powered_more : (xs : List Resource) (x : Resource) → are_powered xs ≡ true → x.power ≤ 4000 → are_powered (xs ++ (x ∷ [])) ≡ true
powered_more [] x e h = and_from (leb x.power 4000) true (le-leb x.power 4000 h) refl
powered_more (y ∷ xs) x e h =
    let g = and_parts (leb y.power 4000) (are_powered xs) e in
    and_from (leb y.power 4000) _ g.0 (powered_more xs x g.1 h)
