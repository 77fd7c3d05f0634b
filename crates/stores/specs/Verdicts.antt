-- When a put is refused or granted.
use Rattle.std.specs.Prelude.{◌≡◌, ℕ, ◌<◌, ◌≤◌, Bool, true, false, cond, is_some, Some, None, Ok, Err, Option, Result, nat_le, nat_lt, refl}
use Rattle.std.proofs.Common.{◌∙◌, ap, sym, arith}
use Rattle.std.proofs.lemmas.Bool.{le-ltb, le-leb, lt-leb, leb-false, ltb-false, cond-true, cond-false, both_ways}
use Rattle.metering.specs.declared.curve.Curve.{Curve}
use Rattle.stores.specs.declared.fault.StoreFault.{StoreFault}
use Rattle.stores.specs.declared.fault.StoreFault.TheVariants.{Day, Resource, UnderFloor, Held, Full}
use Rattle.stores.specs.Model.{StoreModel, held_from, new_floor, put_answer, put_into, after_put, drop_answer, raised_to, after_drop, unless}

-- what each store of this width and floor tests before it looks for room
abbrev pub admission : ℕ → ℕ → Bool → ℕ → ℕ → Result (Unit {0}) StoreFault
admission width floor held r d =
    cond (nat_lt 36524 d) (Err Day)
    (cond (nat_le width r) (Err (Resource r d))
    (cond (nat_lt d floor) (Err (UnderFloor r d))
    (cond held (Err (Held r d)) (Ok tt))))

-- a chain of four tests, and what comes where all fail
abbrev chain : Bool → Bool → Bool → Bool → StoreFault → StoreFault → StoreFault → StoreFault → Result (Unit {0}) StoreFault → Result (Unit {0}) StoreFault
chain a b c d p q s t rest = cond a (Err p) (cond b (Err q) (cond c (Err s) (cond d (Err t) rest)))

chain_ok : (a b c d : Bool) (p q s t : StoreFault) → chain a b c d p q s t (Ok tt) ≡ Ok tt → (a ≡ false) × (b ≡ false) × (c ≡ false) × (d ≡ false)
chain_ok true b c d p q s t h = cc
chain_ok false true c d p q s t h = cc
chain_ok false false true d p q s t h = cc
chain_ok false false false true p q s t h = cc
chain_ok false false false false p q s t h = (refl, refl, refl, refl)

-- what the tests tell where they pass
pub record Admitted (m : StoreModel) (r d : ℕ) : Type 0 where
  pub last : d ≤ 36524
  pub resource : r < m.width
  pub above : m.floor ≤ d
  pub free : m.look r d ≡ None

-- whether the curve is held need only be told where no other test refuses
pub admitted : (m : StoreModel) (r d w f : ℕ) (h : Bool) → w ≡ m.width → f ≡ m.floor → (admission w f false r d ≡ Ok tt → h ≡ is_some (m.look r d)) → Ok tt ≡ admission w f h r d → Admitted m r d
admitted m r d w f h ew ef eh a =
    let t = chain_ok (nat_lt 36524 d) (nat_le w r) (nat_lt d f) h Day (Resource r d) (UnderFloor r d) (Held r d) (sym a) in
    let x = leb-false w r t.1 in
    let y = ltb-false d f t.2 in
    let held = eh (ap (λ (b : Bool). admission w f b r d) (sym t.3) ∙ sym a) in
    record { last = ltb-false _ _ t.0; resource = omega arith; above = omega arith; free = not_held _ (sym held ∙ t.3) }
  where
    not_held : {X : Type 0} (o : Option X) → is_some o ≡ false → o ≡ None
    not_held None e = refl
    not_held (Some x) e = absurd (both_ways true e refl)

-- the answer is then that of room alone
pub put_room : (m : StoreModel) (r d : ℕ) → Admitted m r d
    → put_answer m r d ≡ cond (nat_le m.capacity (held_from m (new_floor m d))) (Err (Full r d)) (Ok tt)
put_room m r d a =
    cond-false (nat_lt 36524 d) _ _ (le-ltb 36524 d a.last)
    ∙ (cond-false (nat_le m.width r) _ _ (lt-leb m.width r a.resource)
    ∙ (cond-false (nat_lt d m.floor) _ _ (le-ltb d m.floor a.above)
    ∙ cond-false (is_some (m.look r d)) _ _ (ap is_some a.free)))

pub put_granted : (m : StoreModel) (r d : ℕ) → Admitted m r d → held_from m (new_floor m d) < m.capacity → put_answer m r d ≡ Ok tt
put_granted m r d a h = put_room m r d a ∙ cond-false (nat_le m.capacity (held_from m (new_floor m d))) _ _ (lt-leb m.capacity (held_from m (new_floor m d)) h)

pub put_full : (m : StoreModel) (r d : ℕ) → Admitted m r d → m.capacity ≤ held_from m (new_floor m d) → put_answer m r d ≡ Err (Full r d)
put_full m r d a h = put_room m r d a ∙ cond-true (nat_le m.capacity (held_from m (new_floor m d))) _ _ (le-leb m.capacity (held_from m (new_floor m d)) h)

-- what a granted put leaves
pub after_granted : (m : StoreModel) (r d : ℕ) (c : Curve) → put_answer m r d ≡ Ok tt → after_put m r d c ≡ put_into m r d c
after_granted m r d c h = ap (λ (a : Result (Unit {0}) StoreFault). unless a m (put_into m r d c)) h

pub after_dropped : (m : StoreModel) (d : ℕ) → drop_answer d ≡ Ok tt → after_drop m d ≡ raised_to m d
after_dropped m d h = ap (λ (a : Result (Unit {0}) StoreFault). unless a m (raised_to m d)) h

pub drop_day : (d : ℕ) → drop_answer d ≡ Ok tt → d ≤ 36524
drop_day d h = day (nat_lt 36524 d) refl h
  where
    day : (b : Bool) → nat_lt 36524 d ≡ b → ◌≡◌ {A = Result (Unit {0}) StoreFault} (cond b (Err Day) (Ok tt)) (Ok tt) → d ≤ 36524
    day true e h = cc
    day false e h = ltb-false _ _ e

pub not_held : {X : Type 0} (o : Option X) → is_some o ≡ false → o ≡ None
not_held None h = refl
not_held (Some x) h = absurd (both_ways true h refl)
