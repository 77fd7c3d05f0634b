-- What terms that fit keep to.
use Rattle.std.proofs.Common.{◌≡◌, ℕ, zero, suc, ◌+◌, ◌<◌, ◌≤◌, true, false, ◌&&◌, leb, List, [], ◌∷◌, length, get_or, take, drop, sym, refl, ap, ◌∙◌, add-one, arith}
use Rattle.std.proofs.lemmas.List.{get_or-take, at_drop_more, at_drop_all}
use Rattle.std.proofs.lemmas.Bool.{and_parts, and_from, and_left, leb-true, le-leb}
use Rattle.ledger.specs.Filling.{rise_from, terms_fit}

pub from_first : (first : ℕ) (ds : List ℕ) → rise_from first ds ≡ true → (k : ℕ) → k < length ds → first ≤ get_or ds k 0
from_first first [] e k h = omega arith
from_first first (d ∷ ds) e zero h =
    let p = and_parts (leb first d && leb d 36524) (rise_from (d + 1) ds) e in
    leb-true first d (and_parts (leb first d) (leb d 36524) p.0).0
from_first first (d ∷ ds) e (suc k) h =
    let p = and_parts (leb first d && leb d 36524) (rise_from (d + 1) ds) e in
    let q : first ≤ d = leb-true first d (and_parts (leb first d) (leb d 36524) p.0).0 in
    let r : d + 1 ≤ get_or ds k 0 = from_first (d + 1) ds p.1 k (omega arith) in
    omega arith

pub to_last : (first : ℕ) (ds : List ℕ) → rise_from first ds ≡ true → (k : ℕ) → k < length ds → get_or ds k 0 ≤ 36524
to_last first [] e k h = omega arith
to_last first (d ∷ ds) e zero h =
    let p = and_parts (leb first d && leb d 36524) (rise_from (d + 1) ds) e in
    leb-true d 36524 (and_parts (leb first d) (leb d 36524) p.0).1
to_last first (d ∷ ds) e (suc k) h =
    let p = and_parts (leb first d && leb d 36524) (rise_from (d + 1) ds) e in
    to_last (d + 1) ds p.1 k (omega arith)

pub each_later : (first : ℕ) (ds : List ℕ) → rise_from first ds ≡ true → (k : ℕ) → k + 1 < length ds → get_or ds k 0 < get_or ds (suc k) 0
each_later first [] e k h = omega arith
each_later first (d ∷ ds) e zero h =
    let p = and_parts (leb first d && leb d 36524) (rise_from (d + 1) ds) e in
    let r : d + 1 ≤ get_or ds 0 0 = from_first (d + 1) ds p.1 0 (omega arith) in
    omega arith
each_later first (d ∷ ds) e (suc k) h =
    let p = and_parts (leb first d && leb d 36524) (rise_from (d + 1) ds) e in
    each_later (d + 1) ds p.1 k (omega arith)

-- the same of a table whose front they are
front : (table ds : List ℕ) → take (length ds) table ≡ ds → (k : ℕ) → k < length ds → get_or table k 0 ≡ get_or ds k 0
front table ds e k h = sym (get_or-take (length ds) table k 0 h) ∙ ap (λ l. get_or l k 0) e

pub table_days : (table ds : List ℕ) → take (length ds) table ≡ ds → rise_from 0 ds ≡ true → (k : ℕ) → k < length ds → get_or table k 0 ≤ 36524
table_days table ds e r k h =
    let f = front table ds e k h in
    let l = to_last 0 ds r k h in
    omega (arith, f, l)

pub table_rises : (table ds : List ℕ) → take (length ds) table ≡ ds → rise_from 0 ds ≡ true → (k : ℕ) → k + 1 < length ds → get_or table k 0 < get_or table (k + 1) 0
table_rises table ds e r k h =
    let f : get_or table k 0 ≡ get_or ds k 0 = front table ds e k (omega arith) in
    let g : get_or table (k + 1) 0 ≡ get_or ds (k + 1) 0 = front table ds e (k + 1) h in
    let l : get_or ds k 0 < get_or ds (k + 1) 0 = rw add-one (each_later 0 ds r k h) in
    omega (arith, f, g, l)

-- day by day
rise_more : (first : ℕ) (ds : List ℕ) (i : ℕ) → i < length ds → rise_from first (drop i ds) ≡ ((leb first (get_or ds i 0) && leb (get_or ds i 0) 36524) && rise_from (get_or ds i 0 + 1) (drop (i + 1) ds))
rise_more first ds i h = at_drop_more (rise_from first) ds i 0 h

pub rise_step : (first : ℕ) (ds : List ℕ) (i : ℕ) → i < length ds → first ≤ get_or ds i 0 → get_or ds i 0 ≤ 36524 → rise_from first (drop i ds) ≡ rise_from 0 ds → rise_from (get_or ds i 0 + 1) (drop (i + 1) ds) ≡ rise_from 0 ds
rise_step first ds i h a b e =
    sym (rise_more first ds i h ∙ ap (λ t. t && rise_from (get_or ds i 0 + 1) (drop (i + 1) ds)) (and_from (leb first (get_or ds i 0)) (leb (get_or ds i 0) 36524) (le-leb first (get_or ds i 0) a) (le-leb (get_or ds i 0) 36524 b))) ∙ e

pub rise_all : (first : ℕ) (ds : List ℕ) (i : ℕ) → length ds ≤ i → rise_from first (drop i ds) ≡ rise_from 0 ds → true ≡ rise_from 0 ds
rise_all first ds i h e = sym (sym e ∙ at_drop_all (rise_from first) ds i h)

pub rise_ends : (first : ℕ) (ds : List ℕ) (i : ℕ) → i < length ds → (leb first (get_or ds i 0) && leb (get_or ds i 0) 36524) ≡ false → rise_from first (drop i ds) ≡ rise_from 0 ds → false ≡ rise_from 0 ds
rise_ends first ds i h b e =
    sym (sym e ∙ rise_more first ds i h ∙ and_left (leb first (get_or ds i 0) && leb (get_or ds i 0) 36524) (rise_from (get_or ds i 0 + 1) (drop (i + 1) ds)) b)

-- the limits, tried
tried_least : terms_fit 1 8 9 1 0 0 [] ≡ true
tried_least = refl

tried_most : terms_fit 7 8 96 128000 100000 100000 (0 ∷ (36524 ∷ [])) ≡ true
tried_most = refl

tried_window : terms_fit 1 8 8 1 0 0 [] ≡ false
tried_window = refl

tried_lead : terms_fit 1 7 96 1 0 0 [] ≡ false
tried_lead = refl

tried_twice : terms_fit 1 8 96 1 0 0 (5 ∷ (5 ∷ [])) ≡ false
tried_twice = refl

tried_late : terms_fit 1 8 96 1 0 0 (36525 ∷ []) ≡ false
tried_late = refl
