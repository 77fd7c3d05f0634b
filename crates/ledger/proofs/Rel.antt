-- Two computations that may be refused, side by side; and sums over lists.
use Rattle.std.proofs.Common.{◌≡◌, ℕ, zero, suc, ◌+◌, ◌<◌, ◌≤◌, Bool, true, false, cond, ltb, List, [], ◌∷◌, length, take, ℤ, ◌+ℤ◌, Ok, Err, filter, refl, ap₂, true≢false, arith}
use mathlib.Core.Bool.{false≢true}
use Rattle.std.specs.List.{AllByRecursion}
use Rattle.std.proofs.ByRecursion.{All-take, All-weaker}
use Rattle.ledger.specs.declared.fault.BookFault.TheVariants.{ShortHistory}
use Rattle.ledger.specs.Words.{Granted, ◌>>=◌, total, each, counting, days_before}
use Rattle.ledger.specs.Settling.{latest}
use Rattle.ledger.specs.Lives.{Both, neither, both}

pub bind_both : {A A' B B' : Type 0} {R : A → A' → Type 0} {S : B → B' → Type 0} {m : Granted A} {m' : Granted A'} (f : A → Granted B) (f' : A' → Granted B') → Both R m m' → ((a : A) (a' : A') → R a a' → Both S (f a) (f' a')) → Both S (m >>= f) (m' >>= f')
bind_both f f' neither k = neither
bind_both f f' (both {a = a} {b = b} r) k = k a b r

-- what holds of a value that is there
abbrev pub Sure : {A : Type 0} → (A → Type 0) → Granted A → Type 0
Sure Q (Err e) = Unit {0}
Sure Q (Ok a) = Q a

pub bind_self : {A B B' : Type 0} (Q : A → Type 0) {S : B → B' → Type 0} (m : Granted A) (f : A → Granted B) (f' : A → Granted B') → Sure Q m → ((a : A) → Q a → Both S (f a) (f' a)) → Both S (m >>= f) (m >>= f')
bind_self Q (Err e) f f' h k = neither
bind_self Q (Ok a) f f' h k = k a h

pub cond_both : {A B : Type 0} {S : A → B → Type 0} (b b' : Bool) {x y : Granted A} {x' y' : Granted B} → b ≡ b' → Both S x x' → Both S y y' → Both S (cond b x y) (cond b' x' y')
cond_both true true e p q = p
cond_both true false e p q = absurd (true≢false e)
cond_both false true e p q = absurd (false≢true e)
cond_both false false e p q = q

-- related, element by element, by a relation that may speak of what each was made from
abbrev pub EachFor : {A B C : Type 0} → (A → B → C → Type 0) → List A → List B → List C → Type 0
EachFor S [] [] [] = Unit {0}
EachFor S [] [] (z ∷ zs) = ⊥
EachFor S [] (y ∷ ys) zs = ⊥
EachFor S (x ∷ xs) [] zs = ⊥
EachFor S (x ∷ xs) (y ∷ ys) [] = ⊥
EachFor S (x ∷ xs) (y ∷ ys) (z ∷ zs) = S x y z × EachFor S xs ys zs

pub each_both : {A B C : Type 0} (S : A → B → C → Type 0) (f : A → Granted B) (f' : A → Granted C) → ((a : A) → Both (S a) (f a) (f' a)) → (xs : List A) → Both (EachFor S xs) (each f xs) (each f' xs)
each_both S f f' h [] = both tt
each_both S f f' h (x ∷ xs) =
    bind_both (λ a. each f xs >>= (λ b. Ok (a ∷ b))) (λ a. each f' xs >>= (λ b. Ok (a ∷ b))) (h x) (λ a a' r.
    bind_both (λ b. Ok (a ∷ b)) (λ b. Ok (a' ∷ b)) (each_both S f f' h xs) (λ b b' rs. both (r, rs)))

pub total_cong : {A : Type 0} (f g : A → ℤ) (xs : List A) → AllByRecursion (λ x. f x ≡ g x) xs → total f xs ≡ total g xs
total_cong f g [] h = refl
total_cong f g (x ∷ xs) h = ap₂ ◌+ℤ◌ h.0 (total_cong f g xs h.1)

pub all_counting : (a n : ℕ) → AllByRecursion (λ q. (a ≤ q) × (q < a + n)) (counting a n)
all_counting a zero = tt
all_counting a (suc n) = ((omega arith, omega arith), All-weaker (λ q. (suc a ≤ q) × (q < suc a + n)) (λ q. (a ≤ q) × (q < a + suc n)) (λ q h. (omega arith, omega arith)) (counting (suc a) n) (all_counting (suc a) n))

pub all_days_before : (d n : ℕ) → AllByRecursion (λ e. e < d) (days_before d n)
all_days_before d zero = tt
all_days_before zero (suc n) = tt
all_days_before (suc d) (suc n) = (omega arith, All-weaker (λ e. e < d) (λ e. e < suc d) (λ e h. omega arith) (days_before d n) (all_days_before d n))

pub all_kept : {A : Type 0} (P : A → Type 0) (test : A → Bool) (xs : List A) → AllByRecursion P xs → AllByRecursion (λ x. P x × (test x ≡ true)) (filter test xs)
all_kept P test [] h = tt
all_kept {A} P test (x ∷ xs) h = go (all_kept P test xs h.1) (test x) refl
  where
    go : AllByRecursion (λ y. P y × (test y ≡ true)) (filter test xs) → (b : Bool) → test x ≡ b → AllByRecursion (λ y. P y × (test y ≡ true)) (cond b (x ∷ filter test xs) (filter test xs))
    go rest true e = ((h.0, e), rest)
    go rest false e = rest

abbrev pub Fit : ℕ → (ℕ → Bool) → ℕ → Type 0
Fit d test e = (e < d) × (test e ≡ true)

pub latest_sure : (r n : ℕ) (test : ℕ → Bool) (d : ℕ) → Sure (AllByRecursion (Fit d test)) (latest r n test d)
latest_sure r n test d =
    let days : List ℕ = take n (filter test (days_before d 400)) in
    let fit : AllByRecursion (Fit d test) days = All-take (Fit d test) n (filter test (days_before d 400)) (all_kept (λ e. e < d) test (days_before d 400) (all_days_before d 400)) in
    pick (ltb (length days) n) days fit
  where
    pick : (b : Bool) (days : List ℕ) → AllByRecursion (Fit d test) days → Sure (AllByRecursion (Fit d test)) (cond b (Err (ShortHistory r (length days))) (Ok days))
    pick true days fit = tt
    pick false days fit = fit
