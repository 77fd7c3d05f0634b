-- Option 1 against the unadjusted mean: no order is remunerated less.
use Rattle.std.proofs.Common.{◌≡◌, ℕ, ◌*◌, ◌≤◌, min, Bool, true, false, cond, ◌||◌, eqb, ltb, List, [], ◌∷◌, ◌++◌, length, ℤ, ◌+ℤ◌, ◌-ℤ◌, ◌≤ℤ◌, Some, None, Ok, Err, Option, refl, subst, ap₂, arith}
use Rattle.std.proofs.lemmas.Int.{ints}
use Rattle.metering.specs.declared.curve.Curve.{Curve}
use Rattle.rulebooks.specs.Rules.{Rules, out_of_range, ruled, answered}
use Rattle.rulebooks.specs.Options.{unadjusted_mean, additive, ratio_rules, lead_mean_rules}
use Rattle.rulebooks.specs.Banks.{if_known, joined}
use Rattle.rulebooks.specs.Supplied.{supplied_rules}
use Rattle.rulebooks.specs.SuppliedLaws.{additive_upward, additive_downward}
use Rattle.ledger.specs.declared.fault.BookFault.TheVariants.{ShortMemory}
use Rattle.ledger.specs.declared.terms.Terms.{Terms}
use Rattle.ledger.specs.declared.records.Direction.{Direction}
use Rattle.ledger.specs.declared.records.Direction.TheVariants.{Up, Down}
use Rattle.ledger.specs.declared.records.Order.{Order}
use Rattle.ledger.specs.declared.records.Resource.{Resource}
use Rattle.ledger.specs.Words.{Granted, ◌>>=◌, unless, at, worth, measured_in, toward, Further, ordered, lead, total_of}
use Rattle.ledger.specs.Settling.{Held, curve_for, qualifies, latest, direction_number, ruled_at, Part, sum_over, lead_over, lead_on, quarter, by_history, by_power, needs, part, parts, numbered_from, positive, ordered_energy, any_estimated, sum_of, remunerated}
use Rattle.ledger.specs.Book.{Book, orders_in, numbered, unsettled, busy_on, Settlement, settlement_of, settlement}
use Rattle.ledger.specs.Lives.{mean_rules, with_rules, Both, neither, both, MeanGuaranteed}
use Rattle.ledger.proofs.Rel.{bind_both, cond_both, EachFor, each_both}
use Rattle.ledger.proofs.Numbers.{positive_more}

bind_same : {A B B' : Type 0} {S : B → B' → Type 0} (m : Granted A) (f : A → Granted B) (f' : A → Granted B') → ((a : A) → Both S (f a) (f' a)) → Both S (m >>= f) (m >>= f')
bind_same (Err e) f f' k = neither
bind_same (Ok a) f f' k = k a

-- A QUARTER

additive_further : (w : Direction) (s l c : ℤ) → Further w (additive (direction_number w) s l c) (unadjusted_mean s)
additive_further Up s l c = additive_upward s l c
additive_further Down s l c = additive_downward s l c

further_same : (w : Direction) (z : ℤ) → Further w z z
further_same Up z = omega (arith, ints)
further_same Down z = omega (arith, ints)

-- the mean as the baseline lies equal or further in the ordered direction
baselines : (w : Direction) (r q choice : ℕ) (s l c : ℤ)
    → Both (Further w) (ruled_at r q (answered supplied_rules choice (direction_number w) s l c)) (ruled_at r q (answered mean_rules choice (direction_number w) s l c))
unfolding answered
baselines w r q choice s l c = go (out_of_range (direction_number w) s l c) (eqb choice 1) (supplied_rules.days choice) ((joined ratio_rules lead_mean_rules).rule choice (direction_number w) s l c)
  where
    go : (out one : Bool) (days : Option ℕ) (other : Option ℤ)
        → Both (Further w)
        (ruled_at r q (ruled out days (if_known (cond one (Some 15) None) (Some (additive (direction_number w) s l c)) other)))
        (ruled_at r q (ruled out days (cond one (Some (unadjusted_mean s)) (if_known (cond one (Some 15) None) (Some (additive (direction_number w) s l c)) other))))
    go true one days other = neither
    go false one None other = neither
    go false true (Some n) other = both (additive_further w s l c)
    go false false (Some n) None = neither
    go false false (Some n) (Some z) = both (further_same w z)

-- the first is no less
abbrev NoLess : ℤ → ℤ → Type 0
NoLess a b = b ≤ℤ a

toward_no_less : (w : Direction) (v a b : ℤ) → Further w a b → NoLess (toward w (v -ℤ a)) (toward w (v -ℤ b))
toward_no_less Up v a b h = omega (arith, ints)
toward_no_less Down v a b h = omega (arith, ints)

total_of_no_less : (f f' : ℕ → Granted ℤ) → ((q : ℕ) → Both NoLess (f q) (f' q)) → (qs : List ℕ) → Both NoLess (total_of f qs) (total_of f' qs)
total_of_no_less f f' h [] = both (omega (arith, ints))
total_of_no_less f f' h (q ∷ qs) =
    bind_both (λ a. total_of f qs >>= (λ b. Ok (a +ℤ b))) (λ a. total_of f' qs >>= (λ b. Ok (a +ℤ b))) (h q) (λ a a' r.
    bind_both (λ b. Ok (a +ℤ b)) (λ b. Ok (a' +ℤ b)) (total_of_no_less f f' h qs) (λ b b' s. both (omega (arith, ints))))

-- A RESOURCE

record PartNoLess (p q : Part) : Type 0 where
  estimated : p.estimated ≡ q.estimated
  amount : NoLess p.amount q.amount

module _ (t : Terms) (held : Held) (busy : ℕ → Bool) (o : Order) (r : ℕ) (x : Resource) where
  quarter_no_less : (days : List ℕ) (c : Curve) (q : ℕ) → Both NoLess (quarter supplied_rules held o r x days c q) (quarter mean_rules held o r x days c q)
  quarter_no_less days c q =
      bind_both (λ b. Ok (toward o.direction (worth (at c q) -ℤ b))) (λ b. Ok (toward o.direction (worth (at c q) -ℤ b)))
      (baselines o.direction r q x.choice (sum_over supplied_rules held o r x days q) (lead_over supplied_rules held o r x days) (lead_on supplied_rules held o r x c))
      (λ a b h. both (toward_no_less o.direction (worth (at c q)) a b h))

  history_no_less : (c : Curve) (days : List ℕ) → Both PartNoLess (by_history supplied_rules held o r x c days) (by_history mean_rules held o r x c days)
  history_no_less c days =
      let made : ℤ → Granted Part = λ a. Ok (record { days = days; lead_then = lead_over supplied_rules held o r x days; lead_now = lead_on supplied_rules held o r x c; estimated = false; amount = a }) in
      bind_both made made
      (total_of_no_less (quarter supplied_rules held o r x days c) (quarter mean_rules held o r x days c) (quarter_no_less days c) (ordered o))
      (λ a b h. both (record { estimated = refl; amount = h }))

  part_no_less : Both PartNoLess (part t supplied_rules held busy o r x) (part t mean_rules held busy o r x)
  part_no_less =
      let qs : List ℕ = lead o ++ ordered o in
      let days : Granted (List ℕ) = latest r (needs supplied_rules x) (qualifies t held busy qs) o.day in
      bind_same (curve_for r o.day (held o.day))
      (λ c. cond (measured_in c qs) (days >>= by_history supplied_rules held o r x c) (Ok (by_power supplied_rules held o r x c)))
      (λ c. cond (measured_in c qs) (days >>= by_history mean_rules held o r x c) (Ok (by_power mean_rules held o r x c))) (λ c.
      cond_both (measured_in c qs) (measured_in c qs) refl
      (bind_same days (by_history supplied_rules held o r x c) (by_history mean_rules held o r x c) (history_no_less c))
      (both (record { estimated = refl; amount = omega (arith, ints) })))

-- AN ORDER

abbrev PartsNoLess : List (ℕ × Resource) → List Part → List Part → Type 0
PartsNoLess = EachFor (λ _ p q. PartNoLess p q)

estimated_same : (xs : List (ℕ × Resource)) (ps qs : List Part) → PartsNoLess xs ps qs → any_estimated ps ≡ any_estimated qs
estimated_same [] [] [] h = refl
estimated_same [] [] (q ∷ qs) h = absurd h
estimated_same [] (p ∷ ps) qs h = absurd h
estimated_same (x ∷ xs) [] qs h = absurd h
estimated_same (x ∷ xs) (p ∷ ps) [] h = absurd h
estimated_same (x ∷ xs) (p ∷ ps) (q ∷ qs) h = ap₂ ◌||◌ h.0.estimated (estimated_same xs ps qs h.1)

sum_no_less : (xs : List (ℕ × Resource)) (ps qs : List Part) → PartsNoLess xs ps qs → NoLess (sum_of ps) (sum_of qs)
sum_no_less [] [] [] h = omega (arith, ints)
sum_no_less [] [] (q ∷ qs) h = absurd h
sum_no_less [] (p ∷ ps) qs h = absurd h
sum_no_less (x ∷ xs) [] qs h = absurd h
sum_no_less (x ∷ xs) (p ∷ ps) [] h = absurd h
sum_no_less (x ∷ xs) (p ∷ ps) (q ∷ qs) h = let a = h.0.amount in let s = sum_no_less xs ps qs h.1 in omega (arith, ints)

capped : (g g' : Bool) → g ≡ g' → (e a b : ℕ) → b ≤ a → min (cond g' (min b e) b) e ≤ min (cond g (min a e) a) e
capped g g' same e a b h = subst (λ k. min (cond k (min b e) b) e ≤ min (cond g (min a e) a) e) same (go g)
  where
    go : (k : Bool) → min (cond k (min b e) b) e ≤ min (cond k (min a e) a) e
    go true = omega arith
    go false = omega arith

remunerated_no_less : (o : Order) (xs : List (ℕ × Resource)) (ps qs : List Part) → PartsNoLess xs ps qs → remunerated o qs ≤ remunerated o ps
remunerated_no_less o xs ps qs h =
    capped (any_estimated ps) (any_estimated qs) (estimated_same xs ps qs h) (ordered_energy o) (positive (sum_of ps)) (positive (sum_of qs))
    (positive_more (sum_of qs) (sum_of ps) (sum_no_less xs ps qs h))

module _ (b : Book) (k words : ℕ) where
  found : Rules → Order → Granted (List Part)
  found R o = parts b.terms R b.store.look (busy_on (orders_in b.orders)) b.resources o

  given : Rules → Order → Granted Settlement
  given R o = unless (ltb words (19 * length b.resources)) ShortMemory >>= (λ _. found R o >>= (λ ps. Ok (settlement_of b.terms o ps)))

  AtLeast : Settlement → Settlement → Type 0
  AtLeast x y = y.outcome.seta ≤ x.outcome.seta

  settled_no_less : Both AtLeast (settlement (with_rules b supplied_rules) k words) (settlement (with_rules b mean_rules) k words)
  unfolding found given AtLeast
  settled_no_less =
      bind_same (numbered b.orders k) (λ a. unsettled a a.result >>= given supplied_rules) (λ a. unsettled a a.result >>= given mean_rules) (λ a.
      bind_same (unsettled a a.result) (given supplied_rules) (given mean_rules) (λ o.
      bind_same (unless (ltb words (19 * length b.resources)) ShortMemory) (λ _. found supplied_rules o >>= (λ ps. Ok (settlement_of b.terms o ps))) (λ _. found mean_rules o >>= (λ ps. Ok (settlement_of b.terms o ps))) (λ _.
      bind_both (λ ps. Ok (settlement_of b.terms o ps)) (λ ps. Ok (settlement_of b.terms o ps))
      (each_both (λ _ p q. PartNoLess p q)
      (λ x. part b.terms supplied_rules (b.store.look x.0) (busy_on (orders_in b.orders)) o x.0 x.1)
      (λ x. part b.terms mean_rules (b.store.look x.0) (busy_on (orders_in b.orders)) o x.0 x.1)
      (λ x. part_no_less b.terms (b.store.look x.0) (busy_on (orders_in b.orders)) o x.0 x.1)
      (numbered_from 0 b.resources))
      (λ ps qs h. both (remunerated_no_less o (numbered_from 0 b.resources) ps qs h)))))

pub mean_guaranteed : MeanGuaranteed
unfolding AtLeast
mean_guaranteed b k words = settled_no_less b k words
