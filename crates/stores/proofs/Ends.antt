-- A search of the numbers below n from both ends in turn.
use Rattle.std.proofs.Common.{◌≡◌, ℕ, ◌+◌, ◌-◌, ◌<◌, ◌≤◌, Bool, false, ap, ◌∙◌, inl, inr, arith}
use Rattle.std.proofs.lemmas.Bool.{cases_eq, cases_lt}

-- the first k numbers and the last k do not pass
pub record Ends (test : ℕ → Bool) (n k : ℕ) : Type 0 where
  pub first : (i : ℕ) → i < k → test i ≡ false
  pub last : (i : ℕ) → i < n → n ≤ i + k → test i ≡ false

pub ends_none : (test : ℕ → Bool) (n : ℕ) → Ends test n 0
ends_none test n = record { first = λ i h. absurd (omega arith); last = λ i h l. absurd (omega arith) }

pub ends_more : (test : ℕ → Bool) (n k : ℕ) → Ends test n k → test (n - 1 - k) ≡ false → test k ≡ false → Ends test n (k + 1)
ends_more test n k e q p =
    record {
      first = λ i h. elim (cases_lt i k) [ inl l ↦ e.first i l | inr l ↦ (let s : i ≡ k = omega arith in ap test s ∙ p) ];
      last = λ i h l. elim (cases_eq i (n - 1 - k)) [ inl s ↦ ap test s ∙ q | inr s ↦ e.last i h (omega arith) ];
    }

-- the two ends have met
pub ends_met : (test : ℕ → Bool) (n k : ℕ) → Ends test n k → n ≤ k + k → (i : ℕ) → i < n → test i ≡ false
ends_met test n k e m i h = elim (cases_lt i k) [ inl l ↦ e.first i l | inr l ↦ e.last i h (omega arith) ]
