-- What rows hold after one is put and after some are dropped, and what stays true of them.
use Rattle.std.specs.Prelude.{◌≡◌, ℕ, ◌<◌, ◌≤◌, max, Bool, true, false, cond, not, ◌&&◌, List, [], ◌∷◌, ◌++◌, length, is_some, Some, None, filter, Option, ◌==◌, nat_lt, slice_index_or, refl}
use Rattle.std.proofs.Common.{sym, ap, subst, ◌∙◌, inl, inr, arith}
use Rattle.std.proofs.lemmas.List.{get_or_default}
use Rattle.std.proofs.lemmas.List.Sums.{AllPass-from_list_all, list_all-from_AllPass}
use Rattle.std.proofs.lemmas.List.Folds.{list_all-append}
use Rattle.std.proofs.lemmas.Bool.{and_parts, and_from, and_right, cases_Bool, eq-eqb, ne_eqb, eqb-true, eqb-false, ltb-true, lt-ltb, le-ltb, le-leb, leb-true, leb-false, cond-true, cond-false, not_from_false}
use Rattle.metering.specs.declared.curve.Curve.{Curve}
use Rattle.metering.specs.Curves.{curve_of}
use Rattle.std.specs.List.{list_all}
use Rattle.stores.specs.Model.{cut_under, gained}
use Rattle.stores.specs.Rows.{Row, is_of, held_in, since, apart, fine}
use Rattle.stores.specs.Upto.{held_after_none}
use Rattle.stores.specs.Reread.{Fine, fine_parts}

pub all_by_push : {X : Type 0} (p : X → Bool) (xs : List X) (x : X) → list_all p xs ≡ true → p x ≡ true → list_all p (xs ++ (x ∷ [])) ≡ true
all_by_push p xs x a t = list_all-append p xs (x ∷ []) ∙ and_from _ _ a (and_from _ true t refl)

pub all_by_get_or : {X : Type 0} (p : X → Bool) (xs : List X) (i : ℕ) (d : X) → i < length xs → list_all p xs ≡ true → p (slice_index_or xs i d) ≡ true
all_by_get_or p xs i d h a = AllPass-from_list_all p xs a i d h

pub all_by_from : {X : Type 0} (p : X → Bool) (xs : List X) (d : X) → ((i : ℕ) → i < length xs → p (slice_index_or xs i d) ≡ true) → list_all p xs ≡ true
all_by_from p xs d h = list_all-from_AllPass p xs (λ i e l. ap p (get_or_default xs i e d l) ∙ h i l)

all_by_kept : {X : Type 0} (p p' q : X → Bool) → ((x : X) → p x ≡ true → q x ≡ true → p' x ≡ true) → (xs : List X) → list_all p xs ≡ true → list_all p' (filter q xs) ≡ true
all_by_kept p p' q h [] a = refl
all_by_kept p p' q h (x ∷ xs) a =
    let b = and_parts (p x) (list_all p xs) a in
    let r = all_by_kept p p' q h xs b.1 in
    elim (cases_Bool (q x)) [ inl t ↦ simp t (and_from _ _ (h x b.0 t) r) | inr t ↦ simp t r ]

-- rows that stay apart

pub apart_kept : (q : Row → Bool) (xs : List Row) → apart xs ≡ true → apart (filter q xs) ≡ true
apart_kept q [] a = refl
apart_kept q (x ∷ xs) a =
    let p : Row → Bool = λ y. not (is_of x.resource x.day y) in
    let b = and_parts (list_all p xs) (apart xs) a in
    let r = apart_kept q xs b.1 in
    elim (cases_Bool (q x)) [ inl t ↦ simp t (and_from _ _ (all_by_kept p p q (λ y s _. s) xs b.0) r) | inr t ↦ simp t r ]

eqb_swap : (a b : ℕ) → (a == b) ≡ (b == a)
eqb_swap a b = elim (cases_Bool (a == b)) [ inl t ↦ t ∙ sym (eq-eqb b a (sym (eqb-true a b t))) | inr t ↦ t ∙ sym (ne_eqb b a (λ e. eqb-false a b t (sym e))) ]

is_of_swap : (x y : Row) → is_of y.resource y.day x ≡ is_of x.resource x.day y
is_of_swap x y = let p = eqb_swap x.resource y.resource in let q = eqb_swap x.day y.day in simp (p, q)

none_split : (r d : ℕ) (e : Row) (es : List Row) → held_in (e ∷ es) r d ≡ None → (is_of r d e ≡ false) × (held_in es r d ≡ None)
none_split r d e es h =
    elim (cases_Bool (is_of r d e)) [
      | inl t ↦ (let s : Some (curve_of e.readings) ≡ None = sym (cond-true (is_of r d e) _ _ t) ∙ h in let z : ◌≡◌ {A = ℕ} 0 1 = cc in absurd (omega arith))
      | inr t ↦ (t, sym (cond-false (is_of r d e) (Some (curve_of e.readings)) (held_in es r d) t) ∙ h)
    ]

pub apart_push : (xs : List Row) (x : Row) → apart xs ≡ true → held_in xs x.resource x.day ≡ None → apart (xs ++ (x ∷ [])) ≡ true
apart_push [] x a f = refl
apart_push (y ∷ xs) x a f =
    let p : Row → Bool = λ z. not (is_of y.resource y.day z) in
    let b = and_parts (list_all p xs) (apart xs) a in
    let n = none_split x.resource x.day y xs f in
    and_from _ _ (all_by_push p xs x b.0 (not_from_false _ (sym (is_of_swap y x) ∙ n.0))) (apart_push xs x b.1 n.1)

-- rows that stay in their limits

pub fine_from : (width floor : ℕ) (e : Row) → Fine width floor e → fine width floor e ≡ true
fine_from width floor e f =
    and_from _ _ (lt-ltb _ _ f.below) (and_from _ _ (le-leb _ _ f.from) (and_from _ _ (le-leb _ _ f.to) (and_from _ _ (eq-eqb _ _ f.full) f.limits)))

pub fine_raised : (width floor day : ℕ) (xs : List Row) → list_all (fine width floor) xs ≡ true → list_all (fine width (max floor day)) (filter (since day) xs) ≡ true
fine_raised width floor day xs h =
    all_by_kept (fine width floor) (fine width (max floor day)) (since day)
    (λ e s t. let f = fine_parts width floor e s in
    let a = f.from in
    let b = leb-true day e.day t in
    fine_from width (max floor day) e (record { below = f.below; from = omega arith; to = f.to; full = f.full; limits = f.limits }))
    xs h

-- all rows are from the floor on
pub kept_all : (width floor day : ℕ) (xs : List Row) → day ≤ floor → list_all (fine width floor) xs ≡ true → filter (since day) xs ≡ xs
kept_all width floor day [] le h = refl
kept_all width floor day (x ∷ xs) le h =
    let b = and_parts (fine width floor x) (list_all (fine width floor) xs) h in
    let f = (fine_parts width floor x b.0).from in
    cond-true (since day x) _ _ (le-leb day x.day (omega arith)) ∙ ap (λ ys. x ∷ ys) (kept_all width floor day xs le b.1)

-- what is held

pub held_within : (width floor : ℕ) (xs : List Row) (r d : ℕ) → list_all (fine width floor) xs ≡ true → is_some (held_in xs r d) ≡ true → (r < width) × (floor ≤ d) × (d ≤ 36524)
held_within width floor [] r d a s = let z : ◌≡◌ {A = ℕ} 0 1 = cc in absurd (omega arith)
held_within width floor (x ∷ xs) r d a s =
    let b = and_parts (fine width floor x) (list_all (fine width floor) xs) a in
    elim (cases_Bool (is_of r d x)) [
      | inl t ↦ (let f = fine_parts width floor x b.0 in
          let p = and_parts (x.resource == r) (x.day == d) t in
          let u = eqb-true _ _ p.0 in
          let v = eqb-true _ _ p.1 in
          let f1 = f.below in
          let f2 = f.from in
          let f3 = f.to in
          (omega arith, omega arith, omega arith))
      | inr t ↦ held_within width floor xs r d b.1 (sym (ap is_some (cond-false (is_of r d x) (Some (curve_of x.readings)) (held_in xs r d) t)) ∙ s)
    ]

none_under : (width floor : ℕ) (xs : List Row) (r d : ℕ) → list_all (fine width floor) xs ≡ true → d < floor → held_in xs r d ≡ None
none_under width floor [] r d a l = refl
none_under width floor (x ∷ xs) r d a l =
    let b = and_parts (fine width floor x) (list_all (fine width floor) xs) a in
    let f = (fine_parts width floor x b.0).from in
    cond-false (is_of r d x) _ _ (and_right _ _ (ne_eqb x.day d (λ e. omega arith))) ∙ none_under width floor xs r d b.1 l

held_push_other : (xs : List Row) (x : Row) (r d : ℕ) → is_of r d x ≡ false → held_in (xs ++ (x ∷ [])) r d ≡ held_in xs r d
held_push_other [] x r d h = cond-false (is_of r d x) _ _ h
held_push_other (y ∷ xs) x r d h = ap (λ o. cond (is_of r d y) (Some (curve_of y.readings)) o) (held_push_other xs x r d h)

pub look_put : (width floor : ℕ) (rs : List Row) (e : Row) (c : Curve) → list_all (fine width floor) rs ≡ true → fine width floor e ≡ true → held_in rs e.resource e.day ≡ None → curve_of e.readings ≡ c
    → (r d : ℕ) → held_in (rs ++ (e ∷ [])) r d ≡ cut_under floor (gained e.resource e.day c (held_in rs)) r d
look_put width floor rs e c a fe free ec r d =
    elim (cases_Bool (nat_lt d floor)) [
      | inl t ↦ none_under width floor (rs ++ (e ∷ [])) r d (all_by_push (fine width floor) rs e a fe) (ltb-true d floor t) ∙ sym (cond-true (nat_lt d floor) _ _ t)
      | inr t ↦ elim (cases_Bool (is_of r d e)) [
        | inl u ↦ (let p = and_parts (e.resource == r) (e.day == d) u in
            let x = eqb-true _ _ p.0 in
            let y = eqb-true _ _ p.1 in
            let n : held_in rs r d ≡ None = subst (λ x. held_in rs x d ≡ None) x (subst (λ y. held_in rs e.resource y ≡ None) y free) in
            held_after_none r d rs (e ∷ []) n ∙ cond-true (is_of r d e) _ _ u ∙ ap Some ec
            ∙ sym (cond-false (nat_lt d floor) _ _ t ∙ cond-true (r == e.resource && d == e.day) _ _ (and_from _ _ (eq-eqb _ _ (sym x)) (eq-eqb _ _ (sym y)))))
        | inr u ↦ (let s : (r == e.resource && d == e.day) ≡ false = (let p = eqb_swap r e.resource in let q = eqb_swap d e.day in simp (p, q, u)) in
            held_push_other rs e r d u ∙ sym (cond-false (nat_lt d floor) _ _ t ∙ cond-false (r == e.resource && d == e.day) _ _ s))
      ]
    ]

pub look_drop : (day : ℕ) (rs : List Row) (r d : ℕ) → held_in (filter (since day) rs) r d ≡ cut_under day (held_in rs) r d
look_drop day [] r d = sym (both (nat_lt d day))
  where
    both : (b : Bool) → ◌≡◌ {A = Option Curve} (cond b None None) None
    both true = refl
    both false = refl
look_drop day (e ∷ es) r d =
    let i = look_drop day es r d in
    elim (cases_Bool (since day e)) [
      | inl t ↦ ap (λ xs. held_in xs r d) (cond-true (since day e) (e ∷ filter (since day) es) (filter (since day) es) t)
          ∙ elim (cases_Bool (is_of r d e)) [
            | inl u ↦ (let y = eqb-true _ _ (and_parts (e.resource == r) (e.day == d) u).1 in
                let l = leb-true day e.day t in
                cond-true (is_of r d e) _ _ u ∙ sym (cond-false (nat_lt d day) _ _ (le-ltb d day (omega arith)) ∙ cond-true (is_of r d e) _ _ u))
            | inr u ↦ cond-false (is_of r d e) _ _ u ∙ i ∙ ap (λ o. cond (nat_lt d day) None o) (sym (cond-false (is_of r d e) (Some (curve_of e.readings)) (held_in es r d) u))
          ]
      | inr t ↦ ap (λ xs. held_in xs r d) (cond-false (since day e) (e ∷ filter (since day) es) (filter (since day) es) t) ∙ i
          ∙ elim (cases_Bool (is_of r d e)) [
            | inl u ↦ (let y = eqb-true _ _ (and_parts (e.resource == r) (e.day == d) u).1 in
                let l = leb-false day e.day t in
                let s = lt-ltb d day (omega arith) in
                cond-true (nat_lt d day) _ _ s ∙ sym (cond-true (nat_lt d day) _ _ s))
            | inr u ↦ ap (λ o. cond (nat_lt d day) None o) (sym (cond-false (is_of r d e) (Some (curve_of e.readings)) (held_in es r d) u))
          ]
    ]
