-- What one resource brings, in two stores that differ only where an order stands.
use Rattle.std.proofs.Common.{◌≡◌, ℕ, ◌+◌, ◌-◌, ◌*◌, ◌<◌, ◌≤◌, Bool, true, false, cond, not, ◌&&◌, List, [], ◌∷◌, ◌++◌, map, ℤ, pos, ◌-ℤ◌, Some, None, Ok, Err, Option, refl, ap, subst, ap₂, arith}
use mathlib.Core.Path.{fun_ext}
use mathlib.Core.Bool.{false≢true}
use Rattle.std.specs.List.{AllByRecursion}
use Rattle.std.proofs.ByRecursion.{All-weaker}
use Rattle.metering.specs.declared.reading.Reading.{Reading}
use Rattle.metering.specs.declared.curve.Curve.{Curve}
use Rattle.rulebooks.specs.Rules.{Rules, answered}
use Rattle.ledger.specs.declared.terms.Terms.{Terms}
use Rattle.ledger.specs.declared.records.Direction.{Direction}
use Rattle.ledger.specs.declared.records.Order.{Order}
use Rattle.ledger.specs.declared.records.Resource.{Resource}
use Rattle.ledger.specs.Words.{Granted, ◌>>=◌, is_measured, worth, at, measured_in, toward, Further, ordered, lead, total, distance, apart}
use Rattle.ledger.specs.Days.{in_kinds}
use Rattle.ledger.specs.Settling.{Held, curve_for, reading_on, is_whole, qualifies, latest, direction_number, ruled_at, Part, sum_over, lead_over, lead_on, quarter, by_history, by_power, needs, part, evidence_row}
use Rattle.ledger.specs.Lives.{Moved, same, further, MovedCurve, Both, neither, both}
use Rattle.ledger.proofs.Rel.{bind_both, bind_self, cond_both, total_cong, all_counting, Fit, latest_sure}
use Rattle.ledger.proofs.Numbers.{Near, near_same, near_toward, total_of_near}

-- held in both, or in neither
pub data Beheld {A : Type 0} (R : A → A → Type 0) : Option A → Option A → Type 0 where
  not_held : Beheld R None None
  held_both : {a b : A} → R a b → Beheld R (Some a) (Some b)

pub record PartNear (n : ℕ) (p q : Part) : Type 0 where
  pub row : evidence_row p ≡ evidence_row q
  pub estimated : p.estimated ≡ q.estimated
  pub near : Near p.amount q.amount n

moved_measured : {os : List Order} {d q : ℕ} {x y : Reading} → Moved os d q x y → is_measured x ≡ is_measured y
moved_measured same = refl
moved_measured (further o m a b c f) = refl

measured_same : {os : List Order} {d : ℕ} (c c' : Curve) → MovedCurve os d c c' → (qs : List ℕ) → measured_in c qs ≡ measured_in c' qs
measured_same c c' h [] = refl
measured_same c c' h (q ∷ qs) = ap₂ ◌&&◌ (moved_measured (h q)) (measured_same c c' h qs)

whole_same : {os : List Order} {d : ℕ} {m m' : Option Curve} (qs : List ℕ) → Beheld (MovedCurve os d) m m' → is_whole m qs ≡ is_whole m' qs
whole_same qs not_held = refl
whole_same qs (held_both {a = c} {b = c'} h) = measured_same c c' h qs

not_busy : (k a b : Bool) → (k && (not a && b)) ≡ true → a ≡ false
not_busy true true b e = absurd (false≢true e)
not_busy true false b e = refl
not_busy false a b e = absurd (false≢true e)

same_baseline : (w : Direction) (x y : ℤ) → Further w x y → (m : Granted ℤ) → Both (λ a b. Near a b (distance x y)) (m >>= (λ b. Ok (toward w (x -ℤ b)))) (m >>= (λ b. Ok (toward w (y -ℤ b))))
same_baseline w x y h (Err e) = neither
same_baseline w x y h (Ok b) = both (near_toward w x y b h)

-- nothing moves in the lead of o, nor on an earlier day that is not busy; in its own quarters readings go its way
pub record Apart (os : List Order) (busy : ℕ → Bool) (o : Order) : Type 0 where
  pub in_lead : (q : ℕ) (x y : Reading) → o.q0 - 8 ≤ q → q < o.q0 → Moved os o.day q x y → x ≡ y
  pub in_order : (q : ℕ) (x y : Reading) → o.q0 ≤ q → q < o.q1 → Moved os o.day q x y → Further o.direction (worth x) (worth y)
  pub in_history : (d q : ℕ) (x y : Reading) → d < o.day → busy d ≡ false → Moved os d q x y → x ≡ y
  pub enough : 8 ≤ o.q0

module _ (t : Terms) (R : Rules) (held held' : Held) (busy : ℕ → Bool) (os : List Order) (o : Order) (r : ℕ) (x : Resource) (A : Apart os busy o)
    (H : (d : ℕ) → Beheld (MovedCurve os d) (held d) (held' d)) where
  qualifies_same : (qs : List ℕ) → qualifies t held busy qs ≡ qualifies t held' busy qs
  qualifies_same qs = fun_ext (λ d. ap (λ b. in_kinds t d && (not (busy d) && b)) (whole_same qs (H d)))

  reading_same : (d q : ℕ) → d < o.day → busy d ≡ false → reading_on (held d) q ≡ reading_on (held' d) q
  reading_same d q l e = go (H d)
    where
      go : {m m' : Option Curve} → Beheld (MovedCurve os d) m m' → reading_on m q ≡ reading_on m' q
      go not_held = refl
      go (held_both {a = c} {b = c'} h) = ap worth (A.in_history d q (at c q) (at c' q) l e (h q))

  module _ (days : List ℕ) (qs : List ℕ) (fit : AllByRecursion (Fit o.day (qualifies t held busy qs)) days) where
    sum_same : (q : ℕ) → sum_over R held o r x days q ≡ sum_over R held' o r x days q
    sum_same q =
        total_cong (λ d. reading_on (held d) q) (λ d. reading_on (held' d) q) days
        (All-weaker (Fit o.day (qualifies t held busy qs)) (λ d. reading_on (held d) q ≡ reading_on (held' d) q)
        (λ d f. reading_same d q f.0 (not_busy (in_kinds t d) (busy d) (is_whole (held d) qs) f.1)) days fit)

    lead_same : lead_over R held o r x days ≡ lead_over R held' o r x days
    lead_same = ap (λ f. total f (lead o)) (fun_ext sum_same)

    module _ (c c' : Curve) (h : MovedCurve os o.day c c') where
      now_same : lead_on R held o r x c ≡ lead_on R held' o r x c'
      now_same = total_cong (λ q. worth (at c q)) (λ q. worth (at c' q)) (lead o)
          (All-weaker (λ q. (o.q0 - 8 ≤ q) × (q < o.q0 - 8 + 8)) (λ q. worth (at c q) ≡ worth (at c' q))
          (λ q b. let e : 8 ≤ o.q0 = A.enough in ap worth (A.in_lead q (at c q) (at c' q) b.0 (omega arith) (h q))) (lead o) (all_counting (o.q0 - 8) 8))

      quarter_near : (q : ℕ) → o.q0 ≤ q → q < o.q1 → Both (λ a b. Near a b (distance (worth (at c q)) (worth (at c' q)))) (quarter R held o r x days c q) (quarter R held' o r x days c' q)
      quarter_near q l u =
          rw (sum_same q, lead_same, now_same)
          (same_baseline o.direction (worth (at c q)) (worth (at c' q)) (A.in_order q (at c q) (at c' q) l u (h q))
          (ruled_at r q (answered R x.choice (direction_number o.direction) (sum_over R held' o r x days q) (lead_over R held' o r x days) (lead_on R held' o r x c'))))

      abbrev made : ℤ → Part
      made a = record { days = days; lead_then = lead_over R held o r x days; lead_now = lead_on R held o r x c; estimated = false; amount = a }

      abbrev made' : ℤ → Part
      made' a = record { days = days; lead_then = lead_over R held' o r x days; lead_now = lead_on R held' o r x c'; estimated = false; amount = a }

      history_near : Both (PartNear (apart (map (λ q. worth (at c q)) (ordered o)) (map (λ q. worth (at c' q)) (ordered o)))) (by_history R held o r x c days) (by_history R held' o r x c' days)
      history_near =
          bind_both (λ a. Ok (made a)) (λ a. Ok (made' a))
          (total_of_near (quarter R held o r x days c) (quarter R held' o r x days c') (λ q. worth (at c q)) (λ q. worth (at c' q)) (ordered o)
          (All-weaker (λ q. (o.q0 ≤ q) × (q < o.q0 + (o.q1 - o.q0)))
          (λ q. Both (λ a b. Near a b (distance (worth (at c q)) (worth (at c' q)))) (quarter R held o r x days c q) (quarter R held' o r x days c' q))
          (λ q b. quarter_near q b.0 (omega arith)) (ordered o) (all_counting o.q0 (o.q1 - o.q0))))
          (λ a a' n. both (record { row = rw (lead_same, now_same) refl; estimated = refl; near = n }))

  -- how far the readings held for the order's day lie apart
  abbrev pub gap : ℕ
  gap = apart (map (λ q. reading_on (held o.day) q) (ordered o)) (map (λ q. reading_on (held' o.day) q) (ordered o))

  by_curve : {m m' : Option Curve} → Beheld (MovedCurve os o.day) m m'
      → Both (PartNear (apart (map (λ q. reading_on m q) (ordered o)) (map (λ q. reading_on m' q) (ordered o))))
      (curve_for r o.day m >>= (λ c. cond (measured_in c (lead o ++ ordered o))
      (latest r (needs R x) (qualifies t held busy (lead o ++ ordered o)) o.day >>= by_history R held o r x c) (Ok (by_power R held o r x c))))
      (curve_for r o.day m' >>= (λ c. cond (measured_in c (lead o ++ ordered o))
      (latest r (needs R x) (qualifies t held' busy (lead o ++ ordered o)) o.day >>= by_history R held' o r x c) (Ok (by_power R held' o r x c))))
  by_curve not_held = neither
  by_curve (held_both {a = c} {b = c'} h) =
      let qs : List ℕ = lead o ++ ordered o in
      let n : ℕ = needs R x in
      cond_both (measured_in c qs) (measured_in c' qs) (measured_same c c' h qs)
      (subst (λ test. Both (PartNear (apart (map (λ q. worth (at c q)) (ordered o)) (map (λ q. worth (at c' q)) (ordered o)))) (latest r n (qualifies t held busy qs) o.day >>= by_history R held o r x c) (latest r n test o.day >>= by_history R held' o r x c')) (qualifies_same qs)
      (bind_self (AllByRecursion (Fit o.day (qualifies t held busy qs))) (latest r n (qualifies t held busy qs) o.day) (by_history R held o r x c) (by_history R held' o r x c')
      (latest_sure r n (qualifies t held busy qs) o.day)
      (λ days fit. history_near days qs fit c c' h)))
      (both (record { row = refl; estimated = refl; near = near_same (pos (x.power * (o.q1 - o.q0) * 250)) (apart (map (λ q. worth (at c q)) (ordered o)) (map (λ q. worth (at c' q)) (ordered o))) }))

  pub part_near : Both (PartNear gap) (part t R held busy o r x) (part t R held' busy o r x)
  part_near = by_curve (H o.day)
