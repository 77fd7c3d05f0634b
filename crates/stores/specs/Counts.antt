-- Sums of a function below a number, and how many curves a store holds.
use Rattle.std.specs.Prelude.{◌≡◌, ℕ, zero, suc, ◌+◌, ◌-◌, ◌*◌, ◌<◌, ◌≤◌, refl}
use Rattle.std.proofs.Common.{ap, sym, ◌∙◌, inl, inr, add-one, suc-mul, arith}
use Rattle.std.proofs.lemmas.Bool.{cases_lt, cases_order}
use Rattle.stores.specs.Model.{sum_below}

pub sum_none : (f : ℕ → ℕ) → sum_below f 0 ≡ 0
unfolding sum_below
sum_none f = refl

pub sum_suc : (f : ℕ → ℕ) (n : ℕ) → sum_below f (suc n) ≡ sum_below f n + f n
unfolding sum_below
sum_suc f n = refl

pub sum_more : (f : ℕ → ℕ) (n : ℕ) → sum_below f (n + 1) ≡ sum_below f n + f n
sum_more f n = rw add-one (sum_suc f n)

pub sum_same : (f g : ℕ → ℕ) (n : ℕ) → ((k : ℕ) → k < n → f k ≡ g k) → sum_below f n ≡ sum_below g n
sum_same f g zero h = sum_none f ∙ sym (sum_none g)
sum_same f g (suc n) h =
    let e = sum_same f g n (λ k l. h k (omega arith)) in
    let x = h n (omega arith) in
    let a = sum_suc f n in
    let b = sum_suc g n in
    omega arith

pub sum_zero : (f : ℕ → ℕ) (n : ℕ) → ((k : ℕ) → k < n → f k ≡ 0) → sum_below f n ≡ 0
sum_zero f zero h = sum_none f
sum_zero f (suc n) h =
    let e = sum_zero f n (λ k l. h k (omega arith)) in
    let x = h n (omega arith) in
    let a = sum_suc f n in
    omega arith

-- what is 0 from m on adds nothing
pub sum_past : (f : ℕ → ℕ) (m n : ℕ) → m ≤ n → ((k : ℕ) → m ≤ k → k < n → f k ≡ 0) → sum_below f n ≡ sum_below f m
sum_past f m zero l h = ap (sum_below f) (omega arith)
sum_past f m (suc n) l h = elim (cases_lt m (suc n)) [
  | inl p ↦ (let e = sum_past f m n (omega arith) (λ k a b. h k a (omega arith)) in
      let x = h n (omega arith) (omega arith) in
      let a = sum_suc f n in
      omega arith)
  | inr p ↦ ap (sum_below f) (omega arith)
]

pub sum_le : (f g : ℕ → ℕ) (n : ℕ) → ((k : ℕ) → k < n → f k ≤ g k) → sum_below f n ≤ sum_below g n
sum_le f g zero h = let a = sum_none f in let b = sum_none g in omega arith
sum_le f g (suc n) h =
    let e = sum_le f g n (λ k l. h k (omega arith)) in
    let x = h n (omega arith) in
    let a = sum_suc f n in
    let b = sum_suc g n in
    omega arith

pub sum_at_most : (f : ℕ → ℕ) (b n : ℕ) → ((k : ℕ) → k < n → f k ≤ b) → sum_below f n ≤ n * b
sum_at_most f b zero h = let a = sum_none f in omega arith
sum_at_most f b (suc n) h =
    let e = sum_at_most f b n (λ k l. h k (omega arith)) in
    let x = h n (omega arith) in
    let a = sum_suc f n in
    let m = suc-mul n b in
    omega arith

-- one that is smaller makes the sum smaller
pub sum_under : (f : ℕ → ℕ) (b n r : ℕ) → ((k : ℕ) → k < n → f k ≤ b) → r < n → f r < b → sum_below f n < n * b
sum_under f b zero r h l x = absurd (omega arith)
sum_under f b (suc n) r h l x =
    let a = sum_suc f n in
    let m = suc-mul n b in
    let y = h n (omega arith) in
    elim (cases_lt r n) [
      | inl p ↦ (let e = sum_under f b n r (λ k q. h k (omega arith)) p x in omega arith)
      | inr p ↦ (let q : f n ≡ f r = ap f (omega arith) in
          let e = sum_at_most f b n (λ k q. h k (omega arith)) in
          omega arith)
    ]

-- at most 1 each within a window and 0 outside
pub sum_window : (f : ℕ → ℕ) (a w n : ℕ) → ((k : ℕ) → f k ≤ 1) → ((k : ℕ) → k < a → f k ≡ 0) → ((k : ℕ) → a + w ≤ k → f k ≡ 0)
    → (sum_below f n ≤ n - a) × (sum_below f n ≤ w)
sum_window f a w zero u lo hi = let e = sum_none f in (omega arith, omega arith)
sum_window f a w (suc n) u lo hi =
    let i = sum_window f a w n u lo hi in
    let e = sum_suc f n in
    let x = u n in
    elim (cases_lt n a) [
      | inl p ↦ (let z = lo n p in (omega arith, omega arith))
      | inr p ↦ elim (cases_lt n (a + w)) [
        | inl q ↦ (omega arith, omega arith)
        | inr q ↦ (let z = hi n q in (omega arith, omega arith))
      ]
    ]

-- and 0 somewhere in the window too
pub sum_gap : (f : ℕ → ℕ) (a w j n : ℕ) → ((k : ℕ) → f k ≤ 1) → ((k : ℕ) → k < a → f k ≡ 0) → ((k : ℕ) → a + w ≤ k → f k ≡ 0)
    → a ≤ j → j < a + w → f j ≡ 0 → sum_below f n < w
sum_gap f a w j n u lo hi p q z = after n
  where
    upto : (n : ℕ) → j < n → (sum_below f n + 1 ≤ n - a) × (sum_below f n + 1 ≤ w)
    upto zero l = absurd (omega arith)
    upto (suc n) l =
        let e = sum_suc f n in
        let x = u n in
        elim (cases_order j n) [
          | inl s ↦ (let y : f n ≡ f j = ap f (sym s) in
              let i = sum_window f a w n u lo hi in
              (omega arith, omega arith))
          | inr o ↦ elim o [
            | inl s ↦ (let i = upto n s in
                elim (cases_lt n (a + w)) [
                  | inl t ↦ (omega arith, omega arith)
                  | inr t ↦ (let y = hi n t in (omega arith, omega arith))
                ])
            | inr s ↦ absurd (omega arith)
          ]
        ]

    after : (n : ℕ) → sum_below f n < w
    after n = elim (cases_lt j n) [
      | inl l ↦ (let i = upto n l in omega arith)
      | inr l ↦ (let i = sum_window f a w n u lo hi in omega arith)
    ]
