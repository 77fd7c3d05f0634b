-- A settling in two stores that differ only where an order stands.
use Rattle.std.proofs.Common.{◌≡◌, ℕ, ◌+◌, ◌-◌, ◌≤◌, min, Bool, true, false, cond, ◌||◌, List, [], ◌∷◌, ◌++◌, map, length, replicate, ℤ, pos, Ok, refl, ap, subst, ap₂, arith}
use Rattle.rulebooks.specs.Rules.{Rules}
use Rattle.ledger.specs.declared.terms.Terms.{Terms}
use Rattle.ledger.specs.declared.records.Order.{Order}
use Rattle.ledger.specs.declared.records.Resource.{Resource}
use Rattle.ledger.specs.Words.{◌>>=◌, ordered, apart, tally}
use Rattle.ledger.specs.Settling.{Held, Part, part, parts, reading_on, numbered_from, positive, ordered_energy, any_estimated, sum_of, remunerated, paid_energy, evidence}
use Rattle.ledger.specs.Book.{Settlement, settlement_of}
use Rattle.ledger.specs.Run.{sheet_of}
use Rattle.ledger.specs.Lives.{MovedCurve, NoWorse, Both, both}
use Rattle.ledger.proofs.Rel.{bind_both, EachFor, each_both}
use Rattle.ledger.proofs.Numbers.{Near, near_none, near_add, positive_near, paid_more, cents_more}
use Rattle.ledger.proofs.Brought.{Beheld, PartNear, Apart, part_near}

-- the parts of two settlings, each with how far its readings lie apart
abbrev pub PartsNear : (ℕ × Resource → ℕ) → List (ℕ × Resource) → List Part → List Part → Type 0
PartsNear gap xs ps qs = EachFor (λ x p q. PartNear (gap x) p q) xs ps qs

module _ (gap : ℕ × Resource → ℕ) where
  estimated_same : (xs : List (ℕ × Resource)) (ps qs : List Part) → PartsNear gap xs ps qs → any_estimated ps ≡ any_estimated qs
  estimated_same [] [] [] h = refl
  estimated_same [] [] (q ∷ qs) h = absurd h
  estimated_same [] (p ∷ ps) qs h = absurd h
  estimated_same (x ∷ xs) [] qs h = absurd h
  estimated_same (x ∷ xs) (p ∷ ps) [] h = absurd h
  estimated_same (x ∷ xs) (p ∷ ps) (q ∷ qs) h = ap₂ ◌||◌ h.0.estimated (estimated_same xs ps qs h.1)

  sum_near : (xs : List (ℕ × Resource)) (ps qs : List Part) → PartsNear gap xs ps qs → Near (sum_of ps) (sum_of qs) (tally gap xs)
  sum_near [] [] [] h = near_none
  sum_near [] [] (q ∷ qs) h = absurd h
  sum_near [] (p ∷ ps) qs h = absurd h
  sum_near (x ∷ xs) [] qs h = absurd h
  sum_near (x ∷ xs) (p ∷ ps) [] h = absurd h
  sum_near (x ∷ xs) (p ∷ ps) (q ∷ qs) h = near_add h.0.near (sum_near xs ps qs h.1)

  evidence_same : (xs : List (ℕ × Resource)) (ps qs : List Part) → PartsNear gap xs ps qs → evidence ps ≡ evidence qs
  evidence_same [] [] [] h = refl
  evidence_same [] [] (q ∷ qs) h = absurd h
  evidence_same [] (p ∷ ps) qs h = absurd h
  evidence_same (x ∷ xs) [] qs h = absurd h
  evidence_same (x ∷ xs) (p ∷ ps) [] h = absurd h
  evidence_same (x ∷ xs) (p ∷ ps) (q ∷ qs) h = ap₂ ◌++◌ h.0.row (evidence_same xs ps qs h.1)

capped : (g g' : Bool) → g ≡ g' → (e a b n : ℕ) → a ≤ b → b ≤ a + n → (min (cond g (min a e) a) e ≤ min (cond g' (min b e) b) e) × (min (cond g' (min b e) b) e ≤ min (cond g (min a e) a) e + n)
capped g g' eq e a b n l u = subst (λ k. (min (cond g (min a e) a) e ≤ min (cond k (min b e) b) e) × (min (cond k (min b e) b) e ≤ min (cond g (min a e) a) e + n)) eq (go g)
  where
    go : (k : Bool) → (min (cond k (min a e) a) e ≤ min (cond k (min b e) b) e) × (min (cond k (min b e) b) e ≤ min (cond k (min a e) a) e + n)
    go true = (omega arith, omega arith)
    go false = (omega arith, omega arith)

-- two settlings side by side: the same order and evidence, and an outcome that is no worse
pub record Improved (added : ℕ) (x y : Settlement) : Type 0 where
  pub sheet : sheet_of x.parts ≡ sheet_of y.parts
  pub outcome : NoWorse added x.outcome y.outcome

improved : (t : Terms) (o : Order) (gap : ℕ × Resource → ℕ) (xs : List (ℕ × Resource)) (ps qs : List Part) → PartsNear gap xs ps qs → Improved (tally gap xs) (settlement_of t o ps) (settlement_of t o qs)
improved t o gap xs ps qs h =
    let s = positive_near (sum_of ps) (sum_of qs) (tally gap xs) (sum_near gap xs ps qs h) in
    let c = capped (any_estimated ps) (any_estimated qs) (estimated_same gap xs ps qs h) (ordered_energy o) (positive (sum_of ps)) (positive (sum_of qs)) (tally gap xs) s.0 s.1 in
    let p = paid_more (ordered_energy o) (remunerated o ps) (remunerated o qs) c.0 in
    record {
      sheet = ap (λ (e : List ℤ). e ++ replicate (608 - length e) (pos 0)) (evidence_same gap xs ps qs h);
      outcome = record {
        more = c.0;
        near = c.1;
        paid = p;
        pay = cents_more t.uf (paid_energy (ordered_energy o) (remunerated o ps)) (paid_energy (ordered_energy o) (remunerated o qs)) p;
      };
    }

-- how far the readings held for a resource lie apart in an order's quarters
abbrev pub gap_for : (ℕ → Held) → (ℕ → Held) → Order → ℕ × Resource → ℕ
gap_for held held' o x = apart (map (λ q. reading_on (held x.0 o.day) q) (ordered o)) (map (λ q. reading_on (held' x.0 o.day) q) (ordered o))

pub settle_near : (t : Terms) (R : Rules) (held held' : ℕ → Held) (busy : ℕ → Bool) (xs : List Resource) (os : List Order) (o : Order) → Apart os busy o
    → ((r d : ℕ) → Beheld (MovedCurve os d) (held r d) (held' r d))
    → Both (Improved (tally (gap_for held held' o) (numbered_from 0 xs)))
    (parts t R held busy xs o >>= (λ ps. Ok (settlement_of t o ps))) (parts t R held' busy xs o >>= (λ ps. Ok (settlement_of t o ps)))
settle_near t R held held' busy xs os o A H =
    bind_both (λ ps. Ok (settlement_of t o ps)) (λ ps. Ok (settlement_of t o ps))
    (each_both (λ x p q. PartNear (gap_for held held' o x) p q) (λ x. part t R (held x.0) busy o x.0 x.1) (λ x. part t R (held' x.0) busy o x.0 x.1)
    (λ x. part_near t R (held x.0) (held' x.0) busy os o x.0 x.1 A (H x.0)) (numbered_from 0 xs))
    (λ ps qs h. both (improved t o (gap_for held held' o) (numbered_from 0 xs) ps qs h))
