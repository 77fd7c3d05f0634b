-- The history days found are exactly the latest that can stand there.
use Rattle.std.proofs.Common.{◌≡◌, ℕ, zero, suc, ◌+◌, ◌<◌, ◌≤◌, Bool, true, false, ◌⊎◌, List, [], ◌∷◌, length, take, filter, sym, ap, ◌∙◌, subst, inl, inr, arith, length-take}
use mathlib.Core.List.Memᴰ
use mathlib.Core.List.{Memᴰ}
use Rattle.std.proofs.lemmas.List.{take_all}
use Rattle.std.proofs.lemmas.Bool.{cases_Bool, both_ways, cond-true, cond-false, cases_lt}
use Rattle.ledger.specs.Words.{days_before}
use Rattle.ledger.specs.Evident.{Falling, Standing, Latest, TooFew}

-- the days before one day
before_in : (d n x : ℕ) → Memᴰ x (days_before d n) → (x < d) × (d ≤ x + n)
before_in d zero x m = absurd (Memᴰ.not-nil m)
before_in zero (suc n) x m = absurd (Memᴰ.not-nil m)
before_in (suc d) (suc n) x m = go (before_in d n x) (Memᴰ.cases_cons m)
  where
    go : (Memᴰ x (days_before d n) → (x < d) × (d ≤ x + n)) → (x ≡ d) ⊎ Memᴰ x (days_before d n) → (x < suc d) × (suc d ≤ x + suc n)
    go more (inl e) = (omega arith, omega arith)
    go more (inr k) = let h = more k in (omega (arith, h.0), omega (arith, h.1))

in_before : (d n x : ℕ) → x < d → d ≤ x + n → Memᴰ x (days_before d n)
in_before d zero x h k = absurd (omega arith)
in_before zero (suc n) x h k = absurd (omega arith)
in_before (suc d) (suc n) x h k = go (λ l. in_before d n x l (omega arith)) (cases_lt x d)
  where
    go : (x < d → Memᴰ x (days_before d n)) → (x < d) ⊎ (d ≤ x) → Memᴰ x (d ∷ days_before d n)
    go more (inl l) = Memᴰ.tail (more l)
    go more (inr l) = Memᴰ.head (omega arith)

before_falls : (d n : ℕ) → Falling (days_before d n)
before_falls d zero = tt
before_falls zero (suc n) = tt
before_falls (suc d) (suc n) = (λ e m. (before_in d n e m).0, before_falls d n)

-- those that pass a test
module _ (test : ℕ → Bool) where
  kept_in : (xs : List ℕ) (x : ℕ) → Memᴰ x (filter test xs) → Memᴰ x xs × (test x ≡ true)
  kept_in [] x m = absurd (Memᴰ.not-nil m)
  kept_in (y ∷ ys) x m = go (kept_in ys x) (cases_Bool (test y))
    where
      here : (Memᴰ x (filter test ys) → Memᴰ x ys × (test x ≡ true)) → test y ≡ true → (x ≡ y) ⊎ Memᴰ x (filter test ys) → Memᴰ x (y ∷ ys) × (test x ≡ true)
      here more t (inl e) = (Memᴰ.head e, ap test e ∙ t)
      here more t (inr k) = let h = more k in (Memᴰ.tail h.0, h.1)

      go : (Memᴰ x (filter test ys) → Memᴰ x ys × (test x ≡ true)) → (test y ≡ true) ⊎ (test y ≡ false) → Memᴰ x (y ∷ ys) × (test x ≡ true)
      go more (inl t) = here more t (Memᴰ.cases_cons (subst (λ (l : List ℕ). Memᴰ x l) (cond-true (test y) (y ∷ filter test ys) (filter test ys) t) m))
      go more (inr f) = let h = more (subst (λ (l : List ℕ). Memᴰ x l) (cond-false (test y) (y ∷ filter test ys) (filter test ys) f) m) in (Memᴰ.tail h.0, h.1)

  in_kept : (xs : List ℕ) (x : ℕ) → Memᴰ x xs → test x ≡ true → Memᴰ x (filter test xs)
  in_kept [] x m t = absurd (Memᴰ.not-nil m)
  in_kept (y ∷ ys) x m t = go (λ k. in_kept ys x k t) (cases_Bool (test y)) (Memᴰ.cases_cons m)
    where
      go : (Memᴰ x ys → Memᴰ x (filter test ys)) → (test y ≡ true) ⊎ (test y ≡ false) → (x ≡ y) ⊎ Memᴰ x ys → Memᴰ x (filter test (y ∷ ys))
      go more (inl u) (inl e) = subst (λ (l : List ℕ). Memᴰ x l) (sym (cond-true (test y) (y ∷ filter test ys) (filter test ys) u)) (Memᴰ.head e)
      go more (inl u) (inr k) = subst (λ (l : List ℕ). Memᴰ x l) (sym (cond-true (test y) (y ∷ filter test ys) (filter test ys) u)) (Memᴰ.tail (more k))
      go more (inr f) (inl e) = absurd (both_ways (test y) f (sym (ap test e) ∙ t))
      go more (inr f) (inr k) = subst (λ (l : List ℕ). Memᴰ x l) (sym (cond-false (test y) (y ∷ filter test ys) (filter test ys) f)) (more k)

  kept_falls : (xs : List ℕ) → Falling xs → Falling (filter test xs)
  kept_falls [] f = tt
  kept_falls (y ∷ ys) f = go (kept_falls ys f.1) (cases_Bool (test y))
    where
      go : Falling (filter test ys) → (test y ≡ true) ⊎ (test y ≡ false) → Falling (filter test (y ∷ ys))
      go more (inl u) = subst Falling (sym (cond-true (test y) (y ∷ filter test ys) (filter test ys) u)) (λ e m. f.0 e (kept_in ys e m).0, more)
      go more (inr v) = subst Falling (sym (cond-false (test y) (y ∷ filter test ys) (filter test ys) v)) more

-- the first n of them
take_in : (n : ℕ) (xs : List ℕ) (x : ℕ) → Memᴰ x (take n xs) → Memᴰ x xs
take_in zero xs x m = absurd (Memᴰ.not-nil m)
take_in (suc n) [] x m = absurd (Memᴰ.not-nil m)
take_in (suc n) (y ∷ ys) x m = go (take_in n ys x) (Memᴰ.cases_cons m)
  where
    go : (Memᴰ x (take n ys) → Memᴰ x ys) → (x ≡ y) ⊎ Memᴰ x (take n ys) → Memᴰ x (y ∷ ys)
    go more (inl e) = Memᴰ.head e
    go more (inr k) = Memᴰ.tail (more k)

take_falls : (n : ℕ) (xs : List ℕ) → Falling xs → Falling (take n xs)
take_falls zero xs f = tt
take_falls (suc n) [] f = tt
take_falls (suc n) (y ∷ ys) f = (λ e m. f.0 e (take_in n ys e m), take_falls n ys f.1)

left_out : (n : ℕ) (xs : List ℕ) → Falling xs → (x : ℕ) → Memᴰ x xs → (Memᴰ x (take n xs) → ⊥) → (e : ℕ) → Memᴰ e (take n xs) → x < e
left_out zero xs f x m out e k = absurd (Memᴰ.not-nil k)
left_out (suc n) [] f x m out e k = absurd (Memᴰ.not-nil k)
left_out (suc n) (y ∷ ys) f x m out e k = go (λ p q. left_out n ys f.1 x p (λ i. out (Memᴰ.tail i)) e q) (Memᴰ.cases_cons m) (Memᴰ.cases_cons k)
  where
    go : (Memᴰ x ys → Memᴰ e (take n ys) → x < e) → (x ≡ y) ⊎ Memᴰ x ys → (e ≡ y) ⊎ Memᴰ e (take n ys) → x < e
    go more (inl p) q = absurd (out (Memᴰ.head p))
    go more (inr p) (inl q) = let h = f.0 x p in omega (arith, h)
    go more (inr p) (inr q) = more p q

module _ (test : ℕ → Bool) (before : ℕ) where
  abbrev pub passing : List ℕ
  passing = filter test (days_before before 400)

  standing : (d : ℕ) → Memᴰ d passing → Standing test before d
  standing d m =
      let k = kept_in test (days_before before 400) d m in
      let h = before_in before 400 d k.0 in
      record { passes = k.1; earlier = h.0; near = h.1 }

  in_passing : (d : ℕ) → Standing test before d → Memᴰ d passing
  in_passing d s = in_kept test (days_before before 400) d (in_before before 400 d s.earlier s.near) s.passes

  falls : Falling passing
  falls = kept_falls test (days_before before 400) (before_falls before 400)

  pub are_latest : (n : ℕ) → length (take n passing) ≡ n → Latest n test before (take n passing)
  are_latest n e = record {
    number = e;
    falling = take_falls n passing falls;
    each = λ d m. standing d (take_in n passing d m);
    none_later = λ d s out k m. left_out n passing falls d (in_passing d s) out k m;
  }

  pub are_all : (n : ℕ) → length (take n passing) < n → TooFew n test before (length (take n passing))
  are_all n h =
      let l = length-take n passing in
      let short : length passing ≤ n = omega (arith, l, h) in
      let t : take n passing ≡ passing = take_all n passing short in
      record {
        days = passing;
        number = sym (ap length t);
        few = h;
        falling = falls;
        each = standing;
        all = in_passing;
      }
