-- What the evidence of an order tells.
use Rattle.std.proofs.Common.{◌≡◌, ℕ, Bool, true, false, cond, ltb, ◌⊎◌, List, [], ◌∷◌, ◌++◌, length, take, ℤ, ◌+ℤ◌, ◌-ℤ◌, Some, None, Ok, Err, Option, Result, sym, ap, ◌∙◌, subst, inl, inr, arith, length-take}
use Rattle.std.proofs.lemmas.Bool.{cases_Bool, both_ways, cond-true, cond-false, ltb-true, ltb-false}
use Rattle.metering.specs.declared.curve.Curve.{Curve}
use Rattle.rulebooks.specs.declared.rule.RuleFault.{RuleFault}
use Rattle.rulebooks.specs.Rules.{Rules, answered}
use Rattle.ledger.specs.declared.fault.BookFault.{BookFault}
use Rattle.ledger.specs.declared.fault.BookFault.TheVariants.{ShortHistory}
use Rattle.ledger.specs.declared.terms.Terms.{Terms}
use Rattle.ledger.specs.declared.records.Order.{Order}
use Rattle.ledger.specs.declared.records.Resource.{Resource}
use Rattle.ledger.specs.Words.{Granted, ◌>>=◌, at, worth, toward, lead, ordered, measured_in, total_of}
use Rattle.ledger.specs.Settling.{Held, Part, curve_for, needs, qualifies, latest, by_history, by_power, quarter, sum_over, lead_over, lead_on, direction_number, ruled_at}
use Rattle.ledger.specs.Evident.{Latest, TooFew, History}
use Rattle.ledger.proofs.Latest.{passing, are_latest, are_all}

-- what the search answers
found_days : (r n before : ℕ) (test : ℕ → Bool) (days : List ℕ) → latest r n test before ≡ Ok days → Latest n test before days
found_days r n before test days e = go (cases_Bool (ltb (length (take n (passing test before))) n))
  where
    go : (ltb (length (take n (passing test before))) n ≡ true) ⊎ (ltb (length (take n (passing test before))) n ≡ false) → Latest n test before days
    go (inl t) =
        let f = sym (cond-true (ltb (length (take n (passing test before))) n) (Err (ShortHistory r (length (take n (passing test before))))) (Ok (take n (passing test before))) t) ∙ e in
        let z : ◌≡◌ {A = ℕ} 0 1 = cc in let never : ⊥ = omega arith in elim never [ ]
    go (inr t) =
        let f = sym (cond-false (ltb (length (take n (passing test before))) n) (Err (ShortHistory r (length (take n (passing test before))))) (Ok (take n (passing test before))) t) ∙ e in
        let same : take n (passing test before) ≡ days = cc in
        let most = ltb-false (length (take n (passing test before))) n t in
        let l = length-take n (passing test before) in
        subst (λ (ds : List ℕ). Latest n test before ds) same (are_latest test before n (omega (arith, l, most)))

missing_days : (r n before : ℕ) (test : ℕ → Bool) (k found : ℕ) → latest r n test before ≡ Err (ShortHistory k found) → (k ≡ r) × TooFew n test before found
missing_days r n before test k found e = go (cases_Bool (ltb (length (take n (passing test before))) n))
  where
    go : (ltb (length (take n (passing test before))) n ≡ true) ⊎ (ltb (length (take n (passing test before))) n ≡ false) → (k ≡ r) × TooFew n test before found
    go (inl t) =
        let f = sym (cond-true (ltb (length (take n (passing test before))) n) (Err (ShortHistory r (length (take n (passing test before))))) (Ok (take n (passing test before))) t) ∙ e in
        let same : length (take n (passing test before)) ≡ found = cc in
        let who : k ≡ r = cc in
        (who, subst (λ (m : ℕ). TooFew n test before m) same (are_all test before n (ltb-true (length (take n (passing test before))) n t)))
    go (inr t) =
        let f = sym (cond-false (ltb (length (take n (passing test before))) n) (Err (ShortHistory r (length (take n (passing test before))))) (Ok (take n (passing test before))) t) ∙ e in
        let z : ◌≡◌ {A = ℕ} 0 1 = cc in let never : ⊥ = omega arith in elim never [ ]

no_way : {A : Type 0} → ◌≡◌ {A = ℕ} 0 1 → A
no_way z = let never : ⊥ = omega arith in elim never [ ]

-- a part by history keeps the days that were found, and the rulebook alone can refuse it
module _ (R : Rules) (held : Held) (o : Order) (r : ℕ) (x : Resource) (c : Curve) where
  abbrev with_days : List ℕ → ℤ → Part
  with_days days a = record { days = days; lead_then = lead_over R held o r x days; lead_now = lead_on R held o r x c; estimated = false; amount = a }

  kept_part : (days : List ℕ) (p : Part) (v : Granted ℤ) → (v >>= (λ a. Ok (with_days days a))) ≡ Ok p → ◌≡◌ {A = Granted (List ℕ)} (Ok days) (Ok p.days)
  kept_part days p (Ok a) q = let h : days ≡ p.days = cc in ap (λ (ds : List ℕ). Ok ds) h
  kept_part days p (Err f) q = no_way (cc)

  kept_days : (m : Granted (List ℕ)) (p : Part) → (m >>= by_history R held o r x c) ≡ Ok p → m ≡ Ok p.days
  kept_days (Err f) p e = no_way (cc)
  kept_days (Ok days) p e = kept_part days p (total_of (quarter R held o r x days c) (ordered o)) e

  ruled_first : (q k found : ℕ) (z : ℤ) (a : Result ℤ RuleFault) (v : Granted ℤ) → ((ruled_at r q a >>= (λ b. Ok (toward o.direction (z -ℤ b)))) >>= (λ u. v >>= (λ w. Ok (u +ℤ w)))) ≡ Err (ShortHistory k found) → v ≡ Err (ShortHistory k found)
  ruled_first q k found z (Err f) v e = no_way (cc)
  ruled_first q k found z (Ok b) (Err f) e = e
  ruled_first q k found z (Ok b) (Ok w) e = no_way (cc)

  never_short : (days qs : List ℕ) (k found : ℕ) → total_of (quarter R held o r x days c) qs ≡ Err (ShortHistory k found) → ⊥
  never_short days [] k found e = no_way (cc)
  never_short days (q ∷ qs) k found e =
      never_short days qs k found (ruled_first q k found (worth (at c q)) (answered R x.choice (direction_number o.direction) (sum_over R held o r x days q) (lead_over R held o r x days) (lead_on R held o r x c)) (total_of (quarter R held o r x days c) qs) e)

  short_part : (days : List ℕ) (k found : ℕ) (v : Granted ℤ) → (v >>= (λ a. Ok (with_days days a))) ≡ Err (ShortHistory k found) → v ≡ Err (ShortHistory k found)
  short_part days k found (Ok a) e = no_way (cc)
  short_part days k found (Err f) e = let h : f ≡ ShortHistory k found = cc in ap (λ (g : BookFault). Err g) h

  short_days : (m : Granted (List ℕ)) (k found : ℕ) → (m >>= by_history R held o r x c) ≡ Err (ShortHistory k found) → m ≡ Err (ShortHistory k found)
  short_days (Err f) k found e = let h : f ≡ ShortHistory k found = cc in ap (λ (g : BookFault). Err g) h
  short_days (Ok days) k found e = absurd (never_short days (ordered o) k found (short_part days k found (total_of (quarter R held o r x days c) (ordered o)) e))

abbrev mark_of : Granted Part → Bool
mark_of (Ok p) = p.estimated
mark_of (Err f) = false

module _ (t : Terms) (R : Rules) (held : Held) (busy : ℕ → Bool) (o : Order) (r : ℕ) (x : Resource) where
  abbrev test : ℕ → Bool
  test = qualifies t held busy (lead o ++ ordered o)

  abbrev found : Granted (List ℕ)
  found = latest r (needs R x) test o.day

  abbrev part_of : Option Curve → Granted Part
  part_of m = curve_for r o.day m >>= (λ c. cond (measured_in c (lead o ++ ordered o)) (found >>= by_history R held o r x c) (Ok (by_power R held o r x c)))

  granted_by : (c : Curve) (p : Part) (b : Bool) → cond b (found >>= by_history R held o r x c) (Ok (by_power R held o r x c)) ≡ Ok p → p.estimated ≡ false → Latest (needs R x) test o.day p.days
  granted_by c p true e n = found_days r (needs R x) o.day test p.days (kept_days R held o r x c found p e)
  granted_by c p false e n = absurd (both_ways p.estimated n (sym (ap mark_of e)))

  granted_on : (m : Option Curve) (p : Part) → part_of m ≡ Ok p → p.estimated ≡ false → Latest (needs R x) test o.day p.days
  granted_on None p e n = no_way (cc)
  granted_on (Some c) p e n = granted_by c p (measured_in c (lead o ++ ordered o)) e n

  refused_by : (c : Curve) (k n : ℕ) (b : Bool) → cond b (found >>= by_history R held o r x c) (Ok (by_power R held o r x c)) ≡ Err (ShortHistory k n) → (k ≡ r) × TooFew (needs R x) test o.day n
  refused_by c k n true e = missing_days r (needs R x) o.day test k n (short_days R held o r x c found k n e)
  refused_by c k n false e = no_way (cc)

  refused_on : (m : Option Curve) (k n : ℕ) → part_of m ≡ Err (ShortHistory k n) → (k ≡ r) × TooFew (needs R x) test o.day n
  refused_on None k n e = no_way (cc)
  refused_on (Some c) k n e = refused_by c k n (measured_in c (lead o ++ ordered o)) e

pub history : History
history = record {
  granted = λ t R held busy o r x p e n. granted_on t R held busy o r x (held o.day) p e n;
  refused = λ t R held busy o r x k n e. refused_on t R held busy o r x (held o.day) k n e;
}
