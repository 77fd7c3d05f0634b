-- A test of all numbers below one, and what it tells of each.
use Rattle.std.specs.Prelude.{◌≡◌, ℕ, zero, suc, ◌+◌, ◌*◌, ◌<◌, ◌≤◌, Bool, true, List, ℤ, refl}
use Rattle.std.proofs.Common.{◌∙◌, ap, inl, inr, zero-mul, suc-mul, arith}
use Rattle.std.proofs.lemmas.Bool.{cases_lt, and_parts, and_from}
use Rattle.stores.specs.Slots.{HeadsFit, WordsFit, all_below, heads_fit, words_fit}

pub each_below : (p : ℕ → Bool) (n k : ℕ) → all_below p n ≡ true → k < n → p k ≡ true
unfolding all_below
each_below p zero k h l = absurd (omega arith)
each_below p (suc n) k h l =
    let a = and_parts (p n) (all_below p n) h in
    elim (cases_lt k n) [
      | inl q ↦ each_below p n k a.1 q
      | inr q ↦ ap p (let e : k ≡ n = omega arith in e) ∙ a.0
    ]

pub below_each : (p : ℕ → Bool) (n : ℕ) → ((k : ℕ) → k < n → p k ≡ true) → all_below p n ≡ true
unfolding all_below
below_each p zero h = refl
below_each p (suc n) h = and_from (p n) (all_below p n) (h n (omega arith)) (below_each p n (λ k l. h k (omega arith)))

pub heads_each : (rows span lo hi : ℕ) (ws : List ℤ) → heads_fit rows span lo hi ws ≡ true → HeadsFit rows span lo hi ws
heads_each rows span lo hi ws h r s l m = each_below _ span s (each_below _ rows r h l) m

pub each_heads : (rows span lo hi : ℕ) (ws : List ℤ) → HeadsFit rows span lo hi ws → heads_fit rows span lo hi ws ≡ true
each_heads rows span lo hi ws h = below_each _ rows (λ r l. below_each _ span (λ s m. h r s l m))

-- the same of a ring whose numbers are equal
pub each_heads_as : (rows span lo rows' span' lo' : ℕ) (ws : List ℤ) → rows' ≡ rows → span' ≡ span → lo' ≡ lo → HeadsFit rows span lo (lo + span) ws
    → heads_fit rows' span' lo' (lo' + span') ws ≡ true
each_heads_as rows span lo rows' span' lo' ws er es el h = (λ i. heads_fit (er i) (es i) (el i) (el i + es i) ws) ∙ each_heads rows span lo (lo + span) ws h

pub words_each : (rows span : ℕ) (ws : List ℤ) → words_fit rows span ws ≡ true → WordsFit rows span ws
words_each rows span ws h r s q l m k = each_below _ 96 q (each_below _ span s (each_below _ rows r h l) m) k

pub each_words : (rows span : ℕ) (ws : List ℤ) → WordsFit rows span ws → words_fit rows span ws ≡ true
each_words rows span ws h = below_each _ rows (λ r l. below_each _ span (λ s m. below_each _ 96 (λ q k. h r s q l m k)))

pub some_rows : (rows span : ℕ) → 0 < rows * span → 0 < rows
some_rows zero span h = absurd (let e = zero-mul span in omega arith)
some_rows (suc n) span h = omega arith

pub no_rows : (rows span : ℕ) → 1 ≤ span → rows * span ≡ 0 → rows ≡ 0
no_rows zero span h e = refl
no_rows (suc n) span h e = absurd (let m = suc-mul n span in omega arith)
