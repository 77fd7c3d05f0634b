-- The state inside a field tells what the whole field says.
use Rattle.std.proofs.Common.{◌≡◌, ℕ, zero, suc, ◌+◌, ◌-◌, ◌*◌, ◌/◌, ◌%◌, ◌^◌, ◌<◌, ◌≤◌, true, false, eqb, ltb, leb, List, [], ◌∷◌, ◌++◌, length, take, is_some, Some, None, codes, decimal, Option, sym, refl, ap, ◌∙◌, inl, inr, ⊎_elim, append_assoc, add-one, arith, length-append, length-set, length-take-le, take-suc-set}
use Rattle.std.specs.Str.{bytes_eq}
use Rattle.std.proofs.lemmas.List.{append-nil}
use Rattle.std.proofs.lemmas.Bool.Decides.{nat_tests}
use Rattle.std.proofs.lemmas.Slice.Eq.{bytes_eq-Decides}
use Rattle.std.proofs.lemmas.Fmt.{decimal_step, decimal_digit, decimal_by_steps}
use Rattle.std.proofs.lemmas.Bool.{cases_Bool, cond_both, leb-true, leb-false, ltb-true, ltb-false, eqb-true, eq-eqb, le-leb, lt-ltb, cond-true}
use Rattle.metering.specs.declared.columns.Column.TheVariants.{Other}
use Rattle.metering.specs.declared.place.Kind.{Kind}
use Rattle.metering.specs.declared.place.Kind.TheVariants.{Name, Count, Energy, Letter, Skipped, Beyond}
use Rattle.metering.specs.declared.place.Value.{Value}
use Rattle.metering.specs.declared.place.Value.TheVariants.{Named, Passed, Amount}
use Rattle.metering.specs.declared.place.Place.{Place}
use Rattle.metering.specs.declared.place.Place.TheVariants.{Header as AtHeader, Row as AtRow}
use Rattle.metering.specs.declared.cell.Cell.{Cell}
use Rattle.metering.specs.declared.cell.Cell.TheVariants.{Spelled, Long, Number, Whole, Fraction, Letter as AtLetter, Measured, Estimated, Skipped as Skipping, Beyond as Shut}
use Rattle.metering.specs.Cells.{column_of, energy, Shows, Read, start, digit, stepped, finished, as_name}
use Rattle.metering.specs.Places.{kind_at}

abbrev pub onward : {S T : Type 0} → Option S → (S → Option T) → Option T
onward None f = None
onward (Some s) f = f s

-- a field's bytes, one after the other
abbrev pub ran : Cell → List ℕ → Option Cell
ran c [] = Some c
ran c (b ∷ bs) = onward (stepped c b) (λ d. ran d bs)

abbrev pub read_from : Kind → Cell → List ℕ → Option Value
read_from k c f = onward (ran c f) (finished k)

-- WHAT A STATE KNOWS of the bytes so far

-- the last k digits of v, and what stands before them
abbrev places : ℕ → ℕ → List ℕ
places v zero = []
places v (suc k) = places (v / 10) k ++ ((48 + v % 10) ∷ [])

abbrev front : ℕ → ℕ → ℕ
front v zero = v
front v (suc k) = front (v / 10) k

abbrev Says : Cell → List ℕ → Type 0
Says (Spelled n) p = (p ≡ take n.len n.bytes) × (n.len ≤ 8) × (length n.bytes ≡ 8)
Says Long p = 8 < length p
Says Number p = p ≡ []
Says (Whole w) p = (p ≡ decimal w) × (w < 2000)
Says (Fraction v k) p = p ≡ decimal (front v k) ++ (44 ∷ places v k)
Says AtLetter p = p ≡ []
Says Measured p = p ≡ codes "M"
Says Estimated p = p ≡ codes "E"
Says Skipping p = Unit {0}
Says Shut p = Unit {0}

abbrev SaysO : Option Cell → List ℕ → Type 0
SaysO None p = Unit {0}
SaysO (Some s) p = Says s p

says_digit : (b : ℕ) → digit b ≡ true → (b - 48 < 10) × (48 + (b - 48) ≡ b)
says_digit b h = grind (arith, nat_tests)

-- one digit more, after the first
more_whole : (v d : ℕ) → 0 < v → v ≤ 100 → d < 10 → decimal (v * 10 + d) ≡ decimal v ++ ((48 + d) ∷ [])
more_whole v d pos le small =
    let q : (v * 10 + d) / 10 ≡ v = omega arith in
    let m : (v * 10 + d) % 10 ≡ d = omega arith in
    let e = decimal_step (v * 10 + d) (omega arith) (omega arith) in
    cc

more_places : (v d k : ℕ) → d < 10 → decimal (front (v * 10 + d) (k + 1)) ++ (44 ∷ places (v * 10 + d) (k + 1)) ≡ (decimal (front v k) ++ (44 ∷ places v k)) ++ ((48 + d) ∷ [])
more_places v d k small =
    let q : (v * 10 + d) / 10 ≡ v = omega arith in
    let m : (v * 10 + d) % 10 ≡ d = omega arith in
    let x : front (v * 10 + d) (k + 1) ≡ front v k = rw add-one (ap (λ n. front n k) q) in
    let y : places (v * 10 + d) (k + 1) ≡ places v k ++ ((48 + d) ∷ []) = rw add-one (ap (λ n. places n k ++ ((48 + (v * 10 + d) % 10) ∷ [])) q ∙ ap (λ n. places v k ++ ((48 + n) ∷ [])) m) in
    rw (x, y) (sym (append_assoc (decimal (front v k)) (44 ∷ places v k) ((48 + d) ∷ [])))

says_step : (s : Cell) (b : ℕ) (p : List ℕ) → Says s p → SaysO (stepped s b) (p ++ (b ∷ []))
says_step (Spelled n) b p h =
    cond_both (ltb n.len 8) _ _ (λ o. SaysO o (p ++ (b ∷ []))) (λ e.
    let lt = ltb-true n.len 8 e in
    let l : n.len < length n.bytes = omega (arith, h.2) in
    let t = take-suc-set n.bytes n.len b l in
    let a = add-one n.len in
    let x = h.0 in
    let y = length-set n.bytes n.len b in
    let z = h.2 in
    (cc, omega arith, cc)) (λ e.
    let ge = ltb-false n.len 8 e in
    let x = ap length h.0 in
    let y = length-take-le n.len n.bytes (omega (arith, h.1, h.2)) in
    let z = length-append p (b ∷ []) in
    omega arith)
says_step Long b p h = let z = length-append p (b ∷ []) in omega arith
says_step Number b p h =
    cond_both (digit b) _ _ (λ o. SaysO o (p ++ (b ∷ []))) (λ e.
    let g = says_digit b e in
    let x = decimal_digit (b - 48) g.0 in
    let y : p ++ (b ∷ []) ≡ decimal (b - 48) = ap (λ z. z ++ (b ∷ [])) h ∙ ap (λ z. z ∷ []) (sym g.1) ∙ sym x in
    (y, omega arith)) (λ e. tt)
says_step (Whole v) b p h =
    cond_both (digit b) _ _ (λ o. SaysO o (p ++ (b ∷ []))) (λ e.
    cond_both (ltb 0 v) _ _ (λ o. SaysO o (p ++ (b ∷ []))) (λ e2.
    cond_both (leb v 100) _ _ (λ o. SaysO o (p ++ (b ∷ []))) (λ e3.
    let g = says_digit b e in
    let l = leb-true v 100 e3 in
    let x = more_whole v (b - 48) (ltb-true 0 v e2) l g.0 in
    let y = h.0 in
    let z = g.1 in
    (cc, omega arith)) (λ _. tt)) (λ _. tt)) (λ e.
    cond_both (eqb b 44) _ _ (λ o. SaysO o (p ++ (b ∷ []))) (λ e2. let x = eqb-true b 44 e2 in let y = h.0 in cc) (λ _. tt))
says_step (Fraction v k) b p h =
    cond_both (digit b) _ _ (λ o. SaysO o (p ++ (b ∷ []))) (λ e.
    cond_both (ltb k 3) _ _ (λ o. SaysO o (p ++ (b ∷ []))) (λ e2.
    cond_both (leb v 100000) _ _ (λ o. SaysO o (p ++ (b ∷ []))) (λ e3.
    let g = says_digit b e in
    let z = g.1 in
    let x = more_places v (b - 48) k g.0 in
    cc) (λ _. tt)) (λ _. tt)) (λ _. tt)
says_step AtLetter b p h =
    cond_both (eqb b 77) _ _ (λ o. SaysO o (p ++ (b ∷ []))) (λ e. ap (λ z. z ++ (b ∷ [])) h ∙ ap (λ n. n ∷ []) (eqb-true b 77 e)) (λ _.
    cond_both (eqb b 69) _ _ (λ o. SaysO o (p ++ (b ∷ []))) (λ e. ap (λ z. z ++ (b ∷ [])) h ∙ ap (λ n. n ∷ []) (eqb-true b 69 e)) (λ _. tt))
says_step c b p h = tt

says_ran : (s : Cell) (f p : List ℕ) → Says s p → SaysO (ran s f) (p ++ f)
says_ran s [] p h = rw append-nil h
says_ran s (b ∷ bs) p h =
    elim (stepped s b) as (λ o. SaysO o (p ++ (b ∷ [])) → SaysO (onward o (λ t. ran t bs)) (p ++ (b ∷ bs)))
    [ None ↦ λ _. tt | Some t ↦ λ g. rw append_assoc at (says_ran t bs (p ++ (b ∷ [])) g) ] (says_step s b p h)

-- WHAT IS READ IS SAID

abbrev Sound : Kind → List ℕ → Option Value → Type 0
Sound k f None = Unit {0}
Sound k f (Some v) = Shows k f v

not_long : (f w : List ℕ) → 8 < length f → length w < 8 → bytes_eq f w ≡ false
not_long f w h g = ⊎_elim (λ e. let x = (bytes_eq-Decides f w).0 e in let y = ap length x in absurd (omega arith)) (λ e. e) (cases_Bool (bytes_eq f w))

long_other : (f : List ℕ) → 8 < length f → Other ≡ column_of f
long_other f h =
    let a = not_long f (codes "QUARTER") h (omega arith) in
    let b = not_long f (codes "A1") h (omega arith) in
    let c = not_long f (codes "A2") h (omega arith) in
    let d = not_long f (codes "STATE") h (omega arith) in
    rw (a, b, c, d)

sound_name : (s : Cell) (f : List ℕ) → Says s f → Sound Name f (finished Name s)
sound_name (Spelled n) f h = cond_both (leb n.len 8) _ _ (Sound Name f) (λ _. ap (λ x. Named (column_of x)) (sym h.0)) (λ _. tt)
sound_name Long f h = ap Named (long_other f h)
sound_name s f h = tt

sound_count : (q : ℕ) (s : Cell) (f : List ℕ) → Says s f → Sound (Count q) f (finished (Count q) s)
sound_count q (Whole w) f h = cond_both (eqb w q) _ _ (Sound (Count q) f) (λ e. (h.0 ∙ ap decimal (eqb-true w q e), refl)) (λ _. tt)
sound_count q s f h = tt

sound_energy : (s : Cell) (f : List ℕ) → Says s f → Sound Energy f (finished Energy s)
sound_energy (Fraction v k) f h =
    cond_both (eqb k 3) _ _ (Sound Energy f) (λ e.
    cond_both (leb v 1000000) _ _ (Sound Energy f) (λ e2.
    let a : v / 10 / 10 / 10 ≡ v / 1000 = omega arith in
    let b : v / 10 / 10 ≡ v / 100 = omega arith in
    let g = rw (eqb-true k 3 e) at h in
    (v, leb-true v 1000000 e2, rw (← a, ← b) g, refl)) (λ _. tt)) (λ _. tt)
sound_energy s f h = tt

sound_letter : (s : Cell) (f : List ℕ) → Says s f → Sound Letter f (finished Letter s)
sound_letter Measured f h = inl (h, refl)
sound_letter Estimated f h = inr (h, refl)
sound_letter s f h = tt

sound_skipped : (s : Cell) (f : List ℕ) → Sound Skipped f (finished Skipped s)
sound_skipped Skipping f = refl
sound_skipped s f = tt

sound_end : (k : Kind) (s : Cell) (f : List ℕ) → Says s f → Sound k f (finished k s)
sound_end Name s f h = sound_name s f h
sound_end (Count q) s f h = sound_count q s f h
sound_end Energy s f h = sound_energy s f h
sound_end Letter s f h = sound_letter s f h
sound_end Skipped s f h = sound_skipped s f
sound_end Beyond s f h = tt

says_start : (k : Kind) → Says (start k) []
says_start Name = (refl, omega arith, refl)
says_start (Count q) = refl
says_start Energy = refl
says_start Letter = refl
says_start Skipped = tt
says_start Beyond = tt

sound : (k : Kind) (f : List ℕ) → Sound k f (read_from k (start k) f)
sound k f =
    elim (ran (start k) f) as (λ o. SaysO o f → Sound k f (onward o (finished k)))
    [ None ↦ λ _. tt | Some s ↦ λ h. sound_end k s f h ] (says_ran (start k) f [] (says_start k))

-- WHAT IS SAID IS READ

ran_append : (s : Cell) (f g : List ℕ) → ran s (f ++ g) ≡ onward (ran s f) (λ t. ran t g)
ran_append s [] g = refl
ran_append s (b ∷ bs) g =
    elim (stepped s b) as (λ o. onward o (λ t. ran t (bs ++ g)) ≡ onward (onward o (λ t. ran t bs)) (λ t. ran t g))
    [ None ↦ refl | Some t ↦ ran_append t bs g ]

digit_of : (d : ℕ) → d < 10 → (digit (48 + d) ≡ true) × (48 + d - 48 ≡ d)
digit_of d h = (grind (arith, nat_tests), omega arith)

step_whole : (w d : ℕ) → d < 10 → 0 < w → w ≤ 100 → stepped (Whole w) (48 + d) ≡ Some (Whole (w * 10 + d))
step_whole w d small pos le =
    let g = digit_of d small in
    rw (g.0, lt-ltb 0 w pos, le-leb w 100 le, g.1)

step_places : (v k d : ℕ) → d < 10 → k < 3 → v ≤ 100000 → stepped (Fraction v k) (48 + d) ≡ Some (Fraction (v * 10 + d) (k + 1))
step_places v k d small lt le = let g = digit_of d small in rw (g.0, lt-ltb k 3 lt, le-leb v 100000 le, g.1)

ran_whole : (w : ℕ) → w < 2 ^ 64 → w ≤ 1009 → ran Number (decimal w) ≡ Some (Whole w)
ran_whole =
    decimal_by_steps (λ n ds. n ≤ 1009 → ran Number ds ≡ Some (Whole n))
    (λ n small _. let g = digit_of n small in rw (g.0, g.1))
    (λ n ds big ih le.
    let i = ih (omega arith) in
    let s = step_whole (n / 10) (n % 10) (omega arith) (omega arith) (omega arith) in
    let e : n / 10 * 10 + n % 10 ≡ n = omega arith in
    ran_append Number ds ((48 + n % 10) ∷ []) ∙ rw (i, s, e))

read_energy : (v : ℕ) → v ≤ 1000000 → read_from Energy Number (energy v) ≡ Some (Amount v)
read_energy v le =
    let w = ran_whole (v / 1000) (omega arith) (omega arith) in
    let a = step_places (v / 1000) 0 (v / 100 % 10) (omega arith) (omega arith) (omega arith) in
    let ea : v / 1000 * 10 + v / 100 % 10 ≡ v / 100 = omega arith in
    let b = step_places (v / 100) 1 (v / 10 % 10) (omega arith) (omega arith) (omega arith) in
    let eb : v / 100 * 10 + v / 10 % 10 ≡ v / 10 = omega arith in
    let c = step_places (v / 10) 2 (v % 10) (omega arith) (omega arith) (omega arith) in
    let ec : v / 10 * 10 + v % 10 ≡ v = omega arith in
    ap (λ o. onward o (finished Energy)) (ran_append Number (decimal (v / 1000)) _) ∙ rw (w, a, ea, b, eb, c, ec, le-leb v 1000000 le)

read_count : (q : ℕ) → q < 100 → read_from (Count q) Number (decimal q) ≡ Some Passed
read_count q h = ap (λ o. onward o (finished (Count q))) (ran_whole q (omega arith) (omega arith)) ∙ cond-true (eqb q q) _ _ (eq-eqb q q refl)

ran_skipped : (f : List ℕ) → ran Skipping f ≡ Some Skipping
ran_skipped [] = refl
ran_skipped (b ∷ bs) = ran_skipped bs

-- a name never fails on its way
abbrev Spelling : Cell → Type 0
Spelling (Spelled n) = n.len ≤ 8
Spelling Long = Unit {0}
Spelling c = ⊥

abbrev SpellingO : Option Cell → Type 0
SpellingO None = ⊥
SpellingO (Some c) = Spelling c

spelling_step : (c : Cell) (b : ℕ) → Spelling c → SpellingO (stepped c b)
spelling_step (Spelled n) b h = cond_both (ltb n.len 8) _ _ SpellingO (λ e. let l = ltb-true n.len 8 e in omega arith) (λ _. tt)
spelling_step Long b h = tt
spelling_step c b h = absurd h

spelling_ran : (c : Cell) (f : List ℕ) → Spelling c → SpellingO (ran c f)
spelling_ran c [] h = h
spelling_ran c (b ∷ bs) h =
    elim (stepped c b) as (λ o. SpellingO o → SpellingO (onward o (λ d. ran d bs)))
    [ None ↦ λ g. g | Some d ↦ λ g. spelling_ran d bs g ] (spelling_step c b h)

spelled_end : (c : Cell) → Spelling c → is_some (as_name c) ≡ true
spelled_end (Spelled n) h = ap is_some (cond-true (leb n.len 8) _ _ (le-leb n.len 8 h))
spelled_end Long h = refl
spelled_end c h = absurd h

name_read : (f : List ℕ) → is_some (read_from Name (start Name) f) ≡ true
name_read f =
    elim (ran (start Name) f) as (λ o. SpellingO o → is_some (onward o (finished Name)) ≡ true)
    [ None ↦ λ g. absurd g | Some c ↦ λ g. spelled_end c g ] (spelling_ran (start Name) f (omega arith))

abbrev Reached : Option Cell → Type 0
Reached o = (c : Cell) × (o ≡ Some c)

reached : (o : Option Cell) → SpellingO o → Reached o
reached None h = absurd h
reached (Some c) h = (c, refl)

pub name_ran : (f : List ℕ) → (c : Cell) × (ran (start Name) f ≡ Some c)
name_ran f = reached (ran (start Name) f) (spelling_ran (start Name) f (omega arith))

some_sound : (k : Kind) (f : List ℕ) (v : Value) (o : Option Value) → is_some o ≡ true → Sound k f o → ((w : Value) → Shows k f w → w ≡ v) → o ≡ Some v
some_sound k f v None e s u = cc
some_sound k f v (Some w) e s u = ap Some (u w s)

abbrev Fair : Kind → Type 0
Fair (Count q) = q < 100
Fair k = Unit {0}

complete : (k : Kind) (f : List ℕ) (v : Value) → Fair k → Shows k f v → read_from k (start k) f ≡ Some v
complete Name f v h s = some_sound Name f v (read_from Name (start Name) f) (name_read f) (sound Name f) (λ w x. x ∙ sym s)
complete (Count q) f v h s = ap (read_from (Count q) Number) s.0 ∙ read_count q h ∙ ap Some (sym s.1)
complete Energy f v h s = ap (read_from Energy Number) s.2 ∙ read_energy s.0 s.1 ∙ ap Some (sym s.3)
complete Letter f v h s = elim s [ inl x ↦ ap (read_from Letter AtLetter) x.0 ∙ ap Some (sym x.1) | inr x ↦ ap (read_from Letter AtLetter) x.0 ∙ ap Some (sym x.1) ]
complete Skipped f v h s = ap (λ o. onward o (finished Skipped)) (ran_skipped f) ∙ ap Some (sym s)
complete Beyond f v h s = absurd s

read_by : (k : Kind) (f : List ℕ) (o : Option Value) → Fair k → read_from k (start k) f ≡ o → Sound k f o → Read k f o
read_by k f None h e s = λ v x. let c = complete k f v h x in cc
read_by k f (Some v) h e s = s

fair : (p : Place) → Fair (kind_at p)
fair (AtHeader p) = tt
fair (AtRow p) =
    cond_both (leb 96 p.quarter) _ _ Fair (λ _. tt) (λ e.
    cond_both (eqb p.column p.columns.quarter) _ _ Fair (λ _. let h = leb-false 96 p.quarter e in omega arith) (λ _.
    cond_both (eqb p.column p.columns.a1) _ _ Fair (λ _. tt) (λ _.
    cond_both (eqb p.column p.columns.a2) _ _ Fair (λ _. tt) (λ _.
    cond_both (eqb p.column p.columns.state) _ _ Fair (λ _. tt) (λ _. tt)))))

-- the automaton reads what a field says, at every place
pub reads_at : (p : Place) (f : List ℕ) → Read (kind_at p) f (read_from (kind_at p) (start (kind_at p)) f)
reads_at p f = read_by (kind_at p) f (read_from (kind_at p) (start (kind_at p)) f) (fair p) refl (sound (kind_at p) f)

-- what a field says is one value
pub says_one : (p : Place) (f : List ℕ) (v w : Value) → Shows (kind_at p) f v → Shows (kind_at p) f w → v ≡ w
says_one p f v w x y =
    let a = complete (kind_at p) f v (fair p) x in
    let b = complete (kind_at p) f w (fair p) y in
    cc
