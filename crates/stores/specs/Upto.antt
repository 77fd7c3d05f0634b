-- Lists that are given by index, and what their rows hold.
use Rattle.std.specs.Prelude.{◌≡◌, ℕ, zero, suc, ◌+◌, ◌-◌, ◌<◌, Bool, true, false, cond, List, [], ◌∷◌, ◌++◌, length, Some, None, filter, slice_index_or, refl}
use Rattle.std.proofs.Common.{sym, ap, subst, ◌∙◌, add-one, add-zero, add-suc, arith}
use Rattle.std.proofs.lemmas.List.{append-nil}
use Rattle.std.proofs.lemmas.List.FromFn.{length-map-range_with_len, get_or-map-range_with_len, map-range_with_len_more, fill_by_all}
use Rattle.std.proofs.lemmas.List.Elements.{filter-append}
use Rattle.metering.specs.declared.curve.Curve.{Curve}
use Rattle.metering.specs.Curves.{curve_of}
use Rattle.stores.specs.Words.{upto}
use Rattle.stores.specs.Rows.{Row, is_of, held_in}

pub upto_none : {X : Type 0} (f : ℕ → X) → upto f 0 ≡ []
unfolding upto
upto_none f = refl

pub upto_more : {X : Type 0} (f : ℕ → X) (n : ℕ) → upto f (n + 1) ≡ upto f n ++ (f n ∷ [])
unfolding upto
upto_more f n = map-range_with_len_more f 0 n n (omega arith)

upto_suc : {X : Type 0} (f : ℕ → X) (n : ℕ) → upto f (suc n) ≡ upto f n ++ (f n ∷ [])
upto_suc f n = rw (← add-one n) (upto_more f n)

pub length_upto : {X : Type 0} (f : ℕ → X) (n : ℕ) → length (upto f n) ≡ n
unfolding upto
length_upto f n = length-map-range_with_len f 0 n

pub get_or_upto : {X : Type 0} (f : ℕ → X) (n k : ℕ) (d : X) → k < n → slice_index_or (upto f n) k d ≡ f k
unfolding upto
get_or_upto f n k d h = get_or-map-range_with_len f 0 n k k d h (omega arith)

pub upto_is : {X : Type 0} (f : ℕ → X) (n : ℕ) (xs : List X) (d : X) → length xs ≡ n → ((k : ℕ) → k < n → f k ≡ slice_index_or xs k d) → upto f n ≡ xs
unfolding upto
upto_is f n xs d e h = sym (fill_by_all f xs n d e (λ k l. sym (h k l)))

pub upto_same : {X : Type 0} (f g : ℕ → X) (n : ℕ) → ((k : ℕ) → k < n → f k ≡ g k) → upto f n ≡ upto g n
upto_same f g zero h = upto_none f ∙ sym (upto_none g)
upto_same f g (suc n) h = upto_is f (suc n) (upto g (suc n)) (g 0) (length_upto g (suc n)) (λ k l. h k l ∙ sym (get_or_upto g (suc n) k (g 0) l))

-- one more row, that passes or does not
pub kept_yes : {X : Type 0} (p : X → Bool) (f : ℕ → X) (n : ℕ) → p (f n) ≡ true → filter p (upto f (n + 1)) ≡ filter p (upto f n) ++ (f n ∷ [])
kept_yes {X} p f n t = ap (filter p) (upto_more f n) ∙ (filter-append p (upto f n) (f n ∷ []) ∙ (simp t))

pub kept_no : {X : Type 0} (p : X → Bool) (f : ℕ → X) (n : ℕ) → p (f n) ≡ false → filter p (upto f (n + 1)) ≡ filter p (upto f n)
kept_no {X} p f n t = ap (filter p) (upto_more f n) ∙ (filter-append p (upto f n) (f n ∷ []) ∙ (simp (t, append-nil)))

-- the search for a row
pub held_after_none : (r d : ℕ) (xs ys : List Row) → held_in xs r d ≡ None → held_in (xs ++ ys) r d ≡ held_in ys r d
held_after_none r d [] ys h = refl
held_after_none r d (x ∷ xs) ys h =
    elim (is_of r d x) as (λ b. cond b (Some (curve_of x.readings)) (held_in xs r d) ≡ None → cond b (Some (curve_of x.readings)) (held_in (xs ++ ys) r d) ≡ held_in ys r d)
    [ true ↦ (λ e. let z : ◌≡◌ {A = ℕ} 0 1 = cc in absurd (omega arith)) | false ↦ (λ e. held_after_none r d xs ys e) ] h

held_after_some : (r d : ℕ) (xs ys : List Row) (c : Curve) → held_in xs r d ≡ Some c → held_in (xs ++ ys) r d ≡ Some c
held_after_some r d [] ys c h = let z : ◌≡◌ {A = ℕ} 0 1 = cc in absurd (omega arith)
held_after_some r d (x ∷ xs) ys c h =
    elim (is_of r d x) as (λ b. cond b (Some (curve_of x.readings)) (held_in xs r d) ≡ Some c → cond b (Some (curve_of x.readings)) (held_in (xs ++ ys) r d) ≡ Some c)
    [ true ↦ (λ p. p) | false ↦ (λ p. held_after_some r d xs ys c p) ] h

pub held_more : (r d : ℕ) (f : ℕ → Row) (n : ℕ) → held_in (upto f n) r d ≡ None → is_of r d (f n) ≡ false → held_in (upto f (n + 1)) r d ≡ None
held_more r d f n h t = ap (λ xs. held_in xs r d) (upto_more f n) ∙ (held_after_none r d (upto f n) (f n ∷ []) h ∙ simp t)

held_stays : (r d : ℕ) (f : ℕ → Row) (n k : ℕ) (c : Curve) → held_in (upto f n) r d ≡ Some c → held_in (upto f (n + k)) r d ≡ Some c
held_stays r d f n zero c h = rw add-zero h
held_stays r d f n (suc k) c h = rw add-suc (ap (λ xs. held_in xs r d) (upto_suc f (n + k)) ∙ held_after_some r d (upto f (n + k)) (f (n + k) ∷ []) c (held_stays r d f n k c h))

pub held_here : (r d : ℕ) (f : ℕ → Row) (i n : ℕ) → held_in (upto f i) r d ≡ None → is_of r d (f i) ≡ true → i < n → held_in (upto f n) r d ≡ Some (curve_of (f i).readings)
held_here r d f i n h t l =
    let s : held_in (upto f (i + 1)) r d ≡ Some (curve_of (f i).readings) = ap (λ xs. held_in xs r d) (upto_more f i) ∙ (held_after_none r d (upto f i) (f i ∷ []) h ∙ simp t) in
    let m : (i + 1) + (n - (i + 1)) ≡ n = omega arith in
    subst (λ (k : ℕ). held_in (upto f k) r d ≡ Some (curve_of (f i).readings)) m (held_stays r d f (i + 1) (n - (i + 1)) (curve_of (f i).readings) s)
