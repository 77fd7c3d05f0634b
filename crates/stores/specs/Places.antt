-- Where slots lie: within the memory, and apart from one another.
use Rattle.std.specs.Prelude.{◌≡◌, ℕ, ◌+◌, ◌*◌, ◌/◌, ◌%◌, ◌<◌, ◌≤◌, ◌⊎◌, List, ℤ, pos, ◌≢◌, slice_index_or}
use Rattle.std.proofs.Common.{sym, ◌∙◌, ap, inl, inr, arith, add-mul, mul_comm, mul-le-mul_right, one-mul}
use Rattle.std.proofs.lemmas.Nat.{mul-add-lt, div-mul-add, mod-mul-add, div-add-mod'}
use Rattle.std.proofs.lemmas.Bool.{cases_order}
use Rattle.stores.specs.Slots.{slot_at, head_at, word_at, Around}

pub slot_in : (rows span r s : ℕ) → r < rows → s < span → slot_at span r s + 97 ≤ 97 * (rows * span)
slot_in rows span r s hr hs =
    let e : rows * span ≡ span * rows = mul_comm rows span in
    let p = mul-add-lt r span s rows hr hs in
    omega arith

place_same : (span r s r' s' : ℕ) → s < span → s' < span → r * span + s ≡ r' * span + s' → (r ≡ r') × (s ≡ s')
place_same span r s r' s' h h' e = (
  sym (div-mul-add r span s h) ∙ (ap (λ x. x / span) e ∙ div-mul-add r' span s' h'),
  sym (mod-mul-add r span s h) ∙ (ap (λ x. x % span) e ∙ mod-mul-add r' span s' h'),
)

abbrev pub Apart : ℕ → ℕ → Type 0
Apart a b = (a + 97 ≤ b) ⊎ (b + 97 ≤ a)

split : (a b : ℕ) → (a ≢ b) → Apart (97 * a) (97 * b)
split a b n = elim (cases_order a b) [
  | inl e ↦ absurd (n e)
  | inr o ↦ elim o [ inl l ↦ inl (omega arith) | inr l ↦ inr (omega arith) ]
]

pub apart : (span r s r' s' : ℕ) → s < span → s' < span → ((r ≡ r') × (s ≡ s') → ⊥) → Apart (slot_at span r s) (slot_at span r' s')
apart span r s r' s' h h' n = split (r * span + s) (r' * span + s') (λ e. n (place_same span r s r' s' h h' e))

-- a word of a slot apart from the one that changed
pub stays : (ws vs : List ℤ) (base a k : ℕ) → Around ws vs base → Apart a base → k < 97 → slice_index_or vs (a + k) (pos 0) ≡ slice_index_or ws (a + k) (pos 0)
stays ws vs base a k w p h = elim p [ inl l ↦ w.low (a + k) (omega arith) | inr l ↦ w.high (a + k) (omega arith) ]

pub stays_head : (ws vs : List ℤ) (base a : ℕ) → Around ws vs base → Apart a base → head_at vs a ≡ head_at ws a
stays_head ws vs base a w p = elim p [ inl l ↦ w.low a (omega arith) | inr l ↦ w.high a (omega arith) ]

pub stays_word : (ws vs : List ℤ) (base a q : ℕ) → Around ws vs base → Apart a base → q < 96 → word_at vs a q ≡ word_at ws a q
stays_word ws vs base a q w p h = elim p [ inl l ↦ w.low (a + 1 + q) (omega arith) | inr l ↦ w.high (a + 1 + q) (omega arith) ]

-- two days of one remainder lie at least a span apart
pub one_day : (span d e : ℕ) → d % span ≡ e % span → e ≤ d → d < e + span → d ≡ e
one_day span d e m le lt =
    let a = div-add-mod' d span in
    let b = div-add-mod' e span in
    elim (cases_order (d / span) (e / span)) [
      | inl q ↦ (let p : d / span * span ≡ e / span * span = ap (λ x. x * span) q in omega arith)
      | inr o ↦ elim o [
        | inl l ↦ absurd (let p : (d / span + 1) * span ≤ e / span * span = mul-le-mul_right span (omega arith) in
            let q = add-mul (d / span) 1 span in let o = one-mul span in omega arith)
        | inr l ↦ absurd (let p : (e / span + 1) * span ≤ d / span * span = mul-le-mul_right span (omega arith) in
            let q = add-mul (e / span) 1 span in let o = one-mul span in omega arith)
      ]
    ]

-- in whichever order
pub same_day : (span lo hi d e : ℕ) → hi ≤ lo + span → d % span ≡ e % span → lo ≤ d → d < hi → lo ≤ e → e < hi → d ≡ e
same_day span lo hi d e w m a b a' b' = elim (cases_order d e) [
  | inl q ↦ q
  | inr o ↦ elim o [ inl l ↦ sym (one_day span e d (sym m) (omega arith) (omega arith)) | inr l ↦ one_day span d e m (omega arith) (omega arith) ]
]
