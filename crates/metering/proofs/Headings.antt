-- The first line: each of the four names stands in one column.
use Rattle.std.proofs.Common.{◌≡◌, ℕ, zero, suc, ◌+◌, ◌-◌, ◌<◌, ◌≤◌, cond, ◌⊎◌, List, [], ◌∷◌, length, get_or, is_none, Some, None, Option, codes, sym, refl, ap, ◌∙◌, subst, inl, inr, ⊎_elim, arith}
use Rattle.std.specs.Str.{bytes_eq}
use Rattle.std.proofs.lemmas.Slice.Eq.{bytes_eq-Decides}
use Rattle.std.proofs.lemmas.Bool.{cond_both}
use Rattle.metering.specs.declared.columns.Column.{Column}
use Rattle.metering.specs.declared.columns.Column.TheVariants.{Quarter, A1, A2, State, Other}
use Rattle.metering.specs.declared.columns.Columns.{Columns}
use Rattle.metering.specs.declared.columns.Sought.{Sought}
use Rattle.metering.specs.Places.{named, all_four, found}
use Rattle.metering.specs.Cells.{column_of}
use Rattle.metering.specs.Export.{field_of, Stands, Heading}
use Rattle.metering.proofs.Rows.{Fits}

-- THE FOUR NAMES

abbrev Wanted : Column → Type 0
Wanted Other = ⊥
Wanted n = Unit {0}

abbrev name_of : Column → List ℕ
name_of Quarter = codes "QUARTER"
name_of A1 = codes "A1"
name_of A2 = codes "A2"
name_of State = codes "STATE"
name_of Other = []

-- where a name stands, in what the first line has said so far and in what it says as a whole
abbrev sought_for : Column → Sought → Option ℕ
sought_for Quarter c = c.quarter
sought_for A1 c = c.a1
sought_for A2 c = c.a2
sought_for State c = c.state
sought_for Other c = None

abbrev column_for : Column → Columns → ℕ
column_for Quarter c = c.quarter
column_for A1 c = c.a1
column_for A2 c = c.a2
column_for State c = c.state
column_for Other c = 0

abbrev pub all_of : Columns → Sought
all_of c = record { quarter = Some c.quarter; a1 = Some c.a1; a2 = Some c.a2; state = Some c.state }

abbrev put : Column → ℕ → Sought → Sought
put Quarter k c = record { quarter = Some k; a1 = c.a1; a2 = c.a2; state = c.state }
put A1 k c = record { quarter = c.quarter; a1 = Some k; a2 = c.a2; state = c.state }
put A2 k c = record { quarter = c.quarter; a1 = c.a1; a2 = Some k; state = c.state }
put State k c = record { quarter = c.quarter; a1 = c.a1; a2 = c.a2; state = Some k }
put Other k c = c

named_is : (c : Sought) (n : Column) (k : ℕ) → named c n k ≡ cond (is_none (sought_for n c)) (Some (put n k c)) None
named_is c Quarter k = refl
named_is c A1 k = refl
named_is c A2 k = refl
named_is c State k = refl
named_is c Other k = refl

put_same : (n : Column) (k : ℕ) (c : Sought) → Wanted n → sought_for n (put n k c) ≡ Some k
put_same Quarter k c w = refl
put_same A1 k c w = refl
put_same A2 k c w = refl
put_same State k c w = refl
put_same Other k c w = absurd w

put_other : (n i : Column) (k : ℕ) (c : Sought) → (n ≡ i → ⊥) → sought_for i (put n k c) ≡ sought_for i c
put_other Quarter Quarter k c h = absurd (h refl)
put_other A1 A1 k c h = absurd (h refl)
put_other A2 A2 k c h = absurd (h refl)
put_other State State k c h = absurd (h refl)
put_other n i k c h = refl

none_or : (o : Option ℕ) (x y : Option Sought) (m : Sought) → cond (is_none o) x None ≡ Some m → (o ≡ None) × (x ≡ Some m)
none_or None x y m e = (refl, e)
none_or (Some k) x y m e = cc

named_forth : (c m : Sought) (n : Column) (k : ℕ) → named c n k ≡ Some m → (sought_for n c ≡ None) × (m ≡ put n k c)
named_forth c m n k e =
    let o = none_or (sought_for n c) (Some (put n k c)) None m (sym (named_is c n k) ∙ e) in
    let x = o.1 in
    (o.0, cc)

named_back : (c : Sought) (n : Column) (k : ℕ) → sought_for n c ≡ None → named c n k ≡ Some (put n k c)
named_back c n k z = named_is c n k ∙ ap (λ o. cond (is_none o) (Some (put n k c)) None) z

same_or_not : (n i : Column) → (n ≡ i) ⊎ (n ≡ i → ⊥)
same_or_not Quarter Quarter = inl refl
same_or_not A1 A1 = inl refl
same_or_not A2 A2 = inl refl
same_or_not State State = inl refl
same_or_not Other Other = inl refl
same_or_not n i = inr (λ e. cc)

spelled_so : (f : List ℕ) → Wanted (column_of f) → f ≡ name_of (column_of f)
spelled_so f =
    cond_both (bytes_eq f (codes "QUARTER")) _ _ (λ n. Wanted n → f ≡ name_of n) (λ e _. (bytes_eq-Decides f (codes "QUARTER")).0 e) (λ _.
    cond_both (bytes_eq f (codes "A1")) _ _ (λ n. Wanted n → f ≡ name_of n) (λ e _. (bytes_eq-Decides f (codes "A1")).0 e) (λ _.
    cond_both (bytes_eq f (codes "A2")) _ _ (λ n. Wanted n → f ≡ name_of n) (λ e _. (bytes_eq-Decides f (codes "A2")).0 e) (λ _.
    cond_both (bytes_eq f (codes "STATE")) State Other (λ n. Wanted n → f ≡ name_of n) (λ e _. (bytes_eq-Decides f (codes "STATE")).0 e) (λ _ w. absurd w))))

column_named : (i : Column) → Wanted i → column_of (name_of i) ≡ i
column_named Quarter w = refl
column_named A1 w = refl
column_named A2 w = refl
column_named State w = refl
column_named Other w = absurd w

-- THE NAMES FROM COLUMN j ON, where c are the columns before them and d those after

abbrev pub Names : Sought → ℕ → List (List ℕ) → Sought → Type 0
Names c j [] d = d ≡ c
Names c j (f ∷ fs) d = (m : Sought) × (named c (column_of f) j ≡ Some m) × Names m (j + 1) fs d

abbrev Nowhere : List (List ℕ) → List ℕ → Type 0
Nowhere fs name = (p : ℕ) → p < length fs → get_or fs p [] ≡ name → ⊥

nowhere_more : (f : List ℕ) (fs : List (List ℕ)) (name : List ℕ) → (f ≡ name → ⊥) → Nowhere fs name → Nowhere (f ∷ fs) name
nowhere_more f fs name n h zero o e = n e
nowhere_more f fs name n h (suc p) o e = h p (omega arith) e

-- a name that has stood before stands no more
absent : (i : Column) (c d : Sought) (j : ℕ) (fs : List (List ℕ)) → Wanted i → (sought_for i c ≡ None → ⊥) → Names c j fs d → (sought_for i d ≡ sought_for i c) × Nowhere fs (name_of i)
absent i c d j [] w nz s = (ap (sought_for i) s, λ p h. absurd (omega arith))
absent i c d j (f ∷ fs) w nz s =
    let u = named_forth c s.0 (column_of f) j s.1 in
    let n : column_of f ≡ i → ⊥ = λ e. nz (ap (λ x. sought_for x c) (sym e) ∙ u.0) in
    let k : sought_for i s.0 ≡ sought_for i c = ap (sought_for i) u.1 ∙ put_other (column_of f) i j c n in
    let a = absent i s.0 d (j + 1) fs w (λ z. nz (sym k ∙ z)) s.2 in
    (a.0 ∙ k, nowhere_more f fs (name_of i) (λ e. n (ap column_of e ∙ column_named i w)) a.1)

-- it stands at place p of the names, and nowhere else
pub record Once (j : ℕ) (fs : List (List ℕ)) (name : List ℕ) (o : Option ℕ) (p : ℕ) : Type 0 where
  pub within : p < length fs
  pub column : o ≡ Some (j + p)
  pub here : get_or fs p [] ≡ name
  pub only : (o : ℕ) → o < length fs → get_or fs o [] ≡ name → o ≡ p

only_first : (f : List ℕ) (fs : List (List ℕ)) (name : List ℕ) → Nowhere fs name → (o : ℕ) → o < length (f ∷ fs) → get_or (f ∷ fs) o [] ≡ name → o ≡ 0
only_first f fs name h zero l e = refl
only_first f fs name h (suc o) l e = absurd (h o (omega arith) e)

only_more : (f : List ℕ) (fs : List (List ℕ)) (name : List ℕ) (p : ℕ) → (f ≡ name → ⊥) → ((o : ℕ) → o < length fs → get_or fs o [] ≡ name → o ≡ p) → (o : ℕ) → o < length (f ∷ fs) → get_or (f ∷ fs) o [] ≡ name → o ≡ suc p
only_more f fs name p n h zero l e = absurd (n e)
only_more f fs name p n h (suc o) l e = ap suc (h o (omega arith) e)

some_not_none : (k : ℕ) (o : Option ℕ) → o ≡ Some k → o ≡ None → ⊥
some_not_none k o e n = cc

standing : (i : Column) (c d : Sought) (j : ℕ) (fs : List (List ℕ)) → Wanted i → sought_for i c ≡ None → Names c j fs d
    → ((sought_for i d ≡ None) × Nowhere fs (name_of i)) ⊎ ((p : ℕ) × Once j fs (name_of i) (sought_for i d) p)
standing i c d j [] w z s = inl (ap (sought_for i) s ∙ z, λ p h. absurd (omega arith))
standing i c d j (f ∷ fs) w z s =
    let u = named_forth c s.0 (column_of f) j s.1 in
    ⊎_elim
    (λ e.
    let k : sought_for i s.0 ≡ Some j = ap (sought_for i) u.1 ∙ ap (λ x. sought_for i (put x j c)) e ∙ put_same i j c w in
    let a = absent i s.0 d (j + 1) fs w (some_not_none j (sought_for i s.0) k) s.2 in
    let y : j ≡ j + 0 = omega arith in
    inr (
      0,
      record {
        within = omega arith;
        column = a.0 ∙ k ∙ ap Some y;
        here = spelled_so f (subst Wanted (sym e) w) ∙ ap name_of e;
        only = only_first f fs (name_of i) a.1;
      },
    ))
    (λ n.
    let k : sought_for i s.0 ≡ None = ap (sought_for i) u.1 ∙ put_other (column_of f) i j c n ∙ z in
    let ne : f ≡ name_of i → ⊥ = λ e. n (ap column_of e ∙ column_named i w) in
    ⊎_elim (λ a. inl (a.0, nowhere_more f fs (name_of i) ne a.1))
    (λ a. let y : j + 1 + a.0 ≡ j + suc a.0 = omega arith in inr (
      suc a.0,
      record {
        within = omega (arith, a.1.within);
        column = a.1.column ∙ ap Some y;
        here = a.1.here;
        only = only_more f fs (name_of i) a.0 ne a.1.only;
      },
    ))
    (standing i s.0 d (j + 1) fs w k s.2))
    (same_or_not (column_of f) i)

-- no name has stood yet
abbrev pub none : Sought
none = record { quarter = None; a1 = None; a2 = None; state = None }

none_at : (i : Column) → sought_for i none ≡ None
none_at Quarter = refl
none_at A1 = refl
none_at A2 = refl
none_at State = refl
none_at Other = refl

-- FROM THE NAMES TO A HEADING

once_stands : (fs : List (List ℕ)) (name : List ℕ) (k p : ℕ) → Once 1 fs name (Some k) p → Stands fs name k
once_stands fs name k p o =
    let w = o.column in
    let x : k ≡ 1 + p = cc in
    let y = o.within in
    let z : k - 1 ≡ p = omega arith in
    record {
      from = omega arith;
      to = omega arith;
      here = ap (λ n. get_or fs n []) z ∙ o.here;
      only = λ j lo hi e. let g = o.only (j - 1) (omega arith) e in omega arith;
    }

stands : (i : Column) (fs : List (List ℕ)) (d : Sought) (k : ℕ) → Wanted i → Names none 1 fs d → sought_for i d ≡ Some k → Stands fs (name_of i) k
stands i fs d k w s e =
    ⊎_elim (λ a. absurd (some_not_none k (sought_for i d) e a.0))
    (λ a. once_stands fs (name_of i) k a.0 (subst (λ o. Once 1 fs (name_of i) o a.0) e a.1))
    (standing i none d 1 fs w (none_at i) s)

-- the four columns that were found
found_is : (q a b s : Option ℕ) (c : Columns) → all_four q a b s ≡ Some c → (q ≡ Some c.quarter) × (a ≡ Some c.a1) × (b ≡ Some c.a2) × (s ≡ Some c.state)
found_is (Some q) (Some a) (Some b) (Some s) c e =
    let u : record { quarter = q; a1 = a; a2 = b; state = s } ≡ c = cc in
    (ap (λ (x : Columns). Some x.quarter) u, ap (λ (x : Columns). Some x.a1) u, ap (λ (x : Columns). Some x.a2) u, ap (λ (x : Columns). Some x.state) u)
found_is q a b s c e = cc

pub heading_of : (fs : List (List ℕ)) (d : Sought) (c : Columns) → 1 ≤ length fs → length fs ≤ 16 → Names none 1 fs d → found d ≡ Some c → Heading fs c
heading_of fs d c some few s h =
    let e = found_is d.quarter d.a1 d.a2 d.state c h in
    record {
      some = some;
      few = few;
      quarter = stands Quarter fs d c.quarter tt s e.0;
      a1 = stands A1 fs d c.a1 tt s e.1;
      a2 = stands A2 fs d c.a2 tt s e.2;
      state = stands State fs d c.state tt s e.3;
    }

-- AND BACK

stood : (fs : List (List ℕ)) (c : Columns) → Heading fs c → (i : Column) → Wanted i → Stands fs (name_of i) (column_for i c)
stood fs c h Quarter w = h.quarter
stood fs c h A1 w = h.a1
stood fs c h A2 w = h.a2
stood fs c h State w = h.state
stood fs c h Other w = absurd w

abbrev Free : Sought → List (List ℕ) → Type 0
Free c fs = (i : Column) → Wanted i → (p : ℕ) → p < length fs → get_or fs p [] ≡ name_of i
    → (sought_for i c ≡ None) × ((o : ℕ) → o < length fs → get_or fs o [] ≡ name_of i → o ≡ p)

other_free : (n : Column) (c : Sought) → (Wanted n → sought_for n c ≡ None) → sought_for n c ≡ None
other_free Quarter c h = h tt
other_free A1 c h = h tt
other_free A2 c h = h tt
other_free State c h = h tt
other_free Other c h = refl

names_any : (c : Sought) (j : ℕ) (fs : List (List ℕ)) → Free c fs → (d : Sought) × Names c j fs d
names_any c j [] h = (c, refl)
names_any c j (f ∷ fs) h =
    let z = other_free (column_of f) c (λ w. (h (column_of f) w 0 (omega arith) (spelled_so f w)).0) in
    let i = names_any (put (column_of f) j c) (j + 1) fs (λ i w p l e.
    let u = h i w (suc p) (omega arith) e in
    let n : column_of f ≡ i → ⊥ = λ y. let g = u.1 0 (omega arith) (spelled_so f (subst Wanted (sym y) w) ∙ ap name_of y) in omega arith in
    (put_other (column_of f) i j c n ∙ u.0, λ o k g. let v = u.1 (suc o) (omega arith) g in omega arith)) in
    (i.0, (put (column_of f) j c, named_back c (column_of f) j z, i.1))

heading_free : (fs : List (List ℕ)) (c : Columns) → Heading fs c → Free none fs
heading_free fs c h i w p l e =
    let s = stood fs c h i w in
    let x : p + 1 ≡ column_for i c = s.only (p + 1) (omega arith) (omega arith) (let z : p + 1 - 1 ≡ p = omega arith in ap (λ n. get_or fs n []) z ∙ e) in
    (none_at i, λ o k g. let y : o + 1 ≡ column_for i c = s.only (o + 1) (omega arith) (omega arith) (let z : o + 1 - 1 ≡ o = omega arith in ap (λ n. get_or fs n []) z ∙ g) in omega arith)

stands_there : (fs : List (List ℕ)) (c : Columns) (d : Sought) → Heading fs c → Names none 1 fs d → (i : Column) → Wanted i → sought_for i d ≡ Some (column_for i c)
stands_there fs c d h s i w =
    let t = stood fs c h i w in
    let lo = t.from in
    let hi = t.to in
    ⊎_elim (λ a. absurd (a.1 (column_for i c - 1) (omega arith) t.here))
    (λ a. let g = a.1.only (column_for i c - 1) (omega arith) t.here in let k : 1 + a.0 ≡ column_for i c = omega arith in a.1.column ∙ ap Some k)
    (standing i none d 1 fs w (none_at i) s)

same_sought : (c : Columns) (d : Sought) → ((i : Column) → Wanted i → sought_for i d ≡ Some (column_for i c)) → d ≡ all_of c
same_sought c d h = λ x. record { quarter = h Quarter tt x; a1 = h A1 tt x; a2 = h A2 tt x; state = h State tt x }

pub names_of : (fs : List (List ℕ)) (c : Columns) → Heading fs c → Names none 1 fs (all_of c)
names_of fs c h =
    let n = names_any none 1 fs (heading_free fs c h) in
    subst (Names none 1 fs) (same_sought c n.0 (stands_there fs c n.0 h n.1)) n.1

-- two names do not stand in one column
columns_apart : (fs : List (List ℕ)) (c : Columns) → Heading fs c → (i k : Column) → Wanted i → Wanted k → (i ≡ k → ⊥) → column_for i c ≡ column_for k c → ⊥
columns_apart fs c h i k w v n e =
    let same : name_of i ≡ name_of k = sym (stood fs c h i w).here ∙ ap (λ j. field_of j fs) e ∙ (stood fs c h k v).here in
    n (sym (column_named i w) ∙ ap column_of same ∙ column_named k v)

pub heading_fits : (fs : List (List ℕ)) (c : Columns) → Heading fs c → Fits (length fs) c
heading_fits fs c h = record {
  quarter_from = h.quarter.from;
  quarter_to = h.quarter.to;
  a1_from = h.a1.from;
  a1_to = h.a1.to;
  a2_from = h.a2.from;
  a2_to = h.a2.to;
  state_from = h.state.from;
  state_to = h.state.to;
  quarter_a1 = columns_apart fs c h Quarter A1 tt tt (λ e. cc);
  quarter_a2 = columns_apart fs c h Quarter A2 tt tt (λ e. cc);
  quarter_state = columns_apart fs c h Quarter State tt tt (λ e. cc);
  a1_a2 = columns_apart fs c h A1 A2 tt tt (λ e. cc);
  a1_state = columns_apart fs c h A1 State tt tt (λ e. cc);
  a2_state = columns_apart fs c h A2 State tt tt (λ e. cc);
}
