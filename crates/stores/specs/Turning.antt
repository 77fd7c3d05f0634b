-- What a ring holds after a day's slots were emptied, and after a curve was written.
use Rattle.std.specs.Prelude.{◌≡◌, ℕ, zero, suc, ◌+◌, ◌%◌, ◌<◌, ◌≤◌, Bool, true, false, cond, ◌&&◌, ◌⊎◌, List, ℤ, pos, negsuc, is_some, Some, None, Option, ◌==◌, ◌≢◌, nat_le, nat_lt, slice_index_or, refl}
use Rattle.std.proofs.Common.{sym, ◌∙◌, ap, subst, inl, inr, add-one, add-zero, add_assoc, arith}
use Rattle.std.proofs.lemmas.Nat.{mod_below}
use Rattle.std.proofs.lemmas.Bool.{cases_eq, cases_Bool, cases_lt, and_parts, and_from, and_left, and_right, leb-true, ltb-true, eqb-true, le-leb, lt-ltb, le-ltb, eq-eqb, ne_eqb, cond-true, cond-false, both_ways}
use Rattle.metering.specs.declared.curve.Curve.{Curve}
use Rattle.metering.specs.Readings.{within, reading_in}
use Rattle.stores.specs.Model.{cut_under, gained}
use Rattle.stores.specs.Words.{reading_from, curve_from}
use Rattle.stores.specs.Slots.{slot_at, head_at, word_at, is_day, is_zero, ring_look, head_fits, word_fits, HeadsFit, WordsFit, Around, SlotWritten, SlotCleared, DayCleared, Means}
use Rattle.stores.specs.Places.{Apart, apart, stays, stays_head, stays_word, same_day}
use Rattle.stores.specs.Encoding.{reading_word, curve_is, curve_same}

-- what a first word says

pub day_word : (z : ℤ) (d : ℕ) → is_day z d ≡ true → z ≡ pos (suc d)
day_word (pos n) d h = ap pos (let e = eqb-true n (d + 1) h in omega arith)
day_word (negsuc n) d h = absurd (both_ways false refl h)

pub record DayIn (span lo hi s d : ℕ) : Type 0 where
  pub above : lo ≤ d
  pub before : d < hi
  pub last : d ≤ 36524
  pub rest : d % span ≡ s

pub told : (span lo hi s d : ℕ) → head_fits span lo hi s (pos (suc d)) ≡ true → DayIn span lo hi s d
told span lo hi s d h =
    let a = and_parts (nat_le lo d) (nat_lt d hi && (nat_le d 36524 && d % span == s)) h in
    let b = and_parts (nat_lt d hi) (nat_le d 36524 && d % span == s) a.1 in
    let c = and_parts (nat_le d 36524) (d % span == s) b.1 in
    record { above = leb-true lo d a.0; before = ltb-true d hi b.0; last = leb-true d 36524 c.0; rest = eqb-true (d % span) s c.1 }

pub tells : (span lo hi s d : ℕ) → DayIn span lo hi s d → head_fits span lo hi s (pos (suc d)) ≡ true
tells span lo hi s d h =
    and_from (nat_le lo d) _ (le-leb lo d h.above)
    (and_from (nat_lt d hi) _ (lt-ltb d hi h.before)
    (and_from (nat_le d 36524) _ (le-leb d 36524 h.last) (eq-eqb (d % span) s h.rest)))

-- other bounds that the same day keeps
pub refit : (span lo hi lo' hi' s : ℕ) (z : ℤ) → head_fits span lo hi s z ≡ true
    → ((d : ℕ) → DayIn span lo hi s d → (lo' ≤ d) × (d < hi')) → head_fits span lo' hi' s z ≡ true
refit span lo hi lo' hi' s (pos zero) h f = refl
refit span lo hi lo' hi' s (pos (suc d)) h f =
    let a = told span lo hi s d h in
    let b = f d a in
    tells span lo' hi' s d (record { above = b.0; before = b.1; last = a.last; rest = a.rest })
refit span lo hi lo' hi' s (negsuc n) h f = h

pub said : (span lo hi s d : ℕ) (z : ℤ) → head_fits span lo hi s z ≡ true → is_day z d ≡ true → DayIn span lo hi s d
said span lo hi s d z h e = told span lo hi s d (subst (λ (x : ℤ). head_fits span lo hi s x ≡ true) (day_word z d e) h)

-- what is looked up

pub look_here : (rows span : ℕ) (ws : List ℤ) (r d : ℕ) → r < rows → is_day (head_at ws (slot_at span r (d % span))) d ≡ true
    → ring_look rows span ws r d ≡ Some (curve_from (word_at ws (slot_at span r (d % span))))
unfolding ring_look
look_here rows span ws r d h e = cond-true (nat_lt r rows && is_day (head_at ws (slot_at span r (d % span))) d) _ _ (and_from _ _ (lt-ltb r rows h) e)

pub look_other : (rows span : ℕ) (ws : List ℤ) (r d : ℕ) → is_day (head_at ws (slot_at span r (d % span))) d ≡ false → ring_look rows span ws r d ≡ None
unfolding ring_look
look_other rows span ws r d e = cond-false (nat_lt r rows && is_day (head_at ws (slot_at span r (d % span))) d) _ _ (and_right (nat_lt r rows) _ e)

pub look_no_row : (rows span : ℕ) (ws : List ℤ) (r d : ℕ) → rows ≤ r → ring_look rows span ws r d ≡ None
unfolding ring_look
look_no_row rows span ws r d h = cond-false (nat_lt r rows && is_day (head_at ws (slot_at span r (d % span))) d) _ _ (and_left (nat_lt r rows) _ (le-ltb r rows h))

some_when : (b : Bool) (c : Curve) → is_some (cond b (Some c) None) ≡ true → b ≡ true
some_when true c h = refl
some_when false c h = absurd (both_ways false refl h)

pub look_held : (rows span : ℕ) (ws : List ℤ) (r d : ℕ) → is_some (ring_look rows span ws r d) ≡ true
    → (r < rows) × (is_day (head_at ws (slot_at span r (d % span))) d ≡ true)
unfolding ring_look
look_held rows span ws r d h =
    let p = and_parts (nat_lt r rows) (is_day (head_at ws (slot_at span r (d % span))) d) (some_when _ (curve_from (word_at ws (slot_at span r (d % span)))) h) in
    (ltb-true r rows p.0, p.1)

pub look_same : (rows span : ℕ) (ws vs : List ℤ) (r d : ℕ) → head_at vs (slot_at span r (d % span)) ≡ head_at ws (slot_at span r (d % span))
    → ((q : ℕ) → q < 96 → word_at vs (slot_at span r (d % span)) q ≡ word_at ws (slot_at span r (d % span)) q)
    → ring_look rows span vs r d ≡ ring_look rows span ws r d
unfolding ring_look
look_same rows span ws vs r d h w =
    let a = slot_at span r (d % span) in
    ap (λ z. cond (nat_lt r rows && is_day z d) (Some (curve_from (word_at vs a))) None) h
    ∙ ap (λ (c : Curve). cond (nat_lt r rows && is_day (head_at ws a) d) (Some c) None) (curve_same (word_at vs a) (word_at ws a) w)

-- no day outside the bounds is held
pub look_outside : (rows span lo hi : ℕ) (ws : List ℤ) (r k : ℕ) → 0 < span → HeadsFit rows span lo hi ws → (k < lo) ⊎ (hi ≤ k) → ring_look rows span ws r k ≡ None
look_outside rows span lo hi ws r k hs heads o = elim (cases_lt r rows) [
  | inl hr ↦ elim (cases_Bool (is_day (head_at ws (slot_at span r (k % span))) k)) [
    | inl t ↦ absurd (let d = said span lo hi (k % span) k _ (heads r (k % span) hr (mod_below k span hs)) t in elim o [ inl p ↦ (let q = d.above in omega arith) | inr p ↦ (let q = d.before in omega arith) ])
    | inr t ↦ look_other rows span ws r k t
  ]
  | inr hr ↦ look_no_row rows span ws r k hr
]

pub cut_none : (f : ℕ) (look : ℕ → ℕ → Option Curve) (r k : ℕ) → look r k ≡ None → cut_under f look r k ≡ None
cut_none f look r k h = elim (cases_Bool (nat_lt k f)) [ inl t ↦ cond-true (nat_lt k f) _ _ t | inr t ↦ cond-false (nat_lt k f) _ _ t ∙ h ]

pub cut_under_lem : (f : ℕ) (look : ℕ → ℕ → Option Curve) (r k : ℕ) → k < f → cut_under f look r k ≡ None
cut_under_lem f look r k h = cond-true (nat_lt k f) _ _ (lt-ltb k f h)

pub cut_above : (f : ℕ) (look : ℕ → ℕ → Option Curve) (r k : ℕ) → f ≤ k → cut_under f look r k ≡ look r k
cut_above f look r k h = cond-false (nat_lt k f) _ _ (le-ltb k f h)

-- one day's slots emptied

module _ (rows span e hi : ℕ) (ws vs : List ℤ) (hs : 0 < span) (heads : HeadsFit rows span e hi ws) (words : WordsFit rows span ws) (w : hi ≤ e + span) (c : DayCleared rows rows span e ws vs) where
  gone_head : (r : ℕ) → r < rows → head_at vs (slot_at span r (e % span)) ≡ pos 0
  gone_head r h = ap (head_at vs) (sym (add-zero (slot_at span r (e % span)))) ∙ c.gone r 0 h (omega arith)

  gone_word : (r q : ℕ) → r < rows → q < 96 → word_at vs (slot_at span r (e % span)) q ≡ pos 0
  gone_word r q h l = ap (head_at vs) (add_assoc (slot_at span r (e % span)) 1 q) ∙ c.gone r (1 + q) h (omega arith)

  kept_head : (r s : ℕ) → r < rows → s < span → (s ≢ e % span) → head_at vs (slot_at span r s) ≡ head_at ws (slot_at span r s)
  kept_head r s h l n = let z = sym (add-zero (slot_at span r s)) in ap (head_at vs) z ∙ (c.kept r s 0 h l n (omega arith) ∙ sym (ap (head_at ws) z))

  kept_word : (r s q : ℕ) → r < rows → s < span → (s ≢ e % span) → q < 96 → word_at vs (slot_at span r s) q ≡ word_at ws (slot_at span r s) q
  kept_word r s q h l n p = let z = add_assoc (slot_at span r s) 1 q in ap (head_at vs) z ∙ (c.kept r s (1 + q) h l n (omega arith) ∙ sym (ap (head_at ws) z))

  cleared_heads : HeadsFit rows span (e + 1) hi vs
  cleared_heads r s h l = elim (cases_eq s (e % span)) [
    | inl p ↦ ap (λ t. head_fits span (e + 1) hi s (head_at vs (slot_at span r t))) p ∙ ap (head_fits span (e + 1) hi s) (gone_head r h)
    | inr n ↦ ap (head_fits span (e + 1) hi s) (kept_head r s h l n)
        ∙ refit span e hi (e + 1) hi s (head_at ws (slot_at span r s)) (heads r s h l)
        (λ d i. (elim (cases_eq d e) [ inl q ↦ absurd (n (sym i.rest ∙ ap (λ x. x % span) q)) | inr q ↦ (let a = i.above in omega arith) ], i.before))
  ]

  cleared_words : WordsFit rows span vs
  cleared_words r s q h l k = elim (cases_eq s (e % span)) [
    | inl p ↦ ap (λ t. word_fits (head_at vs (slot_at span r t)) (word_at vs (slot_at span r t) q)) p
        ∙ (ap (λ z. word_fits z (word_at vs (slot_at span r (e % span)) q)) (gone_head r h) ∙ ap is_zero (gone_word r q h k))
    | inr n ↦ ap (λ z. word_fits z (word_at vs (slot_at span r s) q)) (kept_head r s h l n)
        ∙ (ap (word_fits (head_at ws (slot_at span r s))) (kept_word r s q h l n k) ∙ words r s q h l k)
  ]

  cleared_looks : (r k : ℕ) → ring_look rows span vs r k ≡ cut_under (e + 1) (ring_look rows span ws) r k
  cleared_looks r k =
      let before = cut_none (e + 1) (ring_look rows span ws) r k in
      elim (cases_lt r rows) [
        | inr h ↦ look_no_row rows span vs r k h ∙ sym (before (look_no_row rows span ws r k h))
        | inl h ↦ elim (cases_eq (k % span) (e % span)) [
          | inl p ↦
              look_other rows span vs r k (ap (λ t. is_day (head_at vs (slot_at span r t)) k) p ∙ (ap (λ z. is_day z k) (gone_head r h) ∙ ne_eqb 0 (k + 1) (λ y. omega arith)))
              ∙ sym (elim (cases_lt k (e + 1)) [
                | inl l ↦ cut_under_lem (e + 1) (ring_look rows span ws) r k l
                | inr l ↦ before (elim (cases_lt k hi) [
                  | inl u ↦ absurd (let x : k ≡ e = same_day span e hi k e w p (omega arith) u (omega arith) (omega arith) in omega arith)
                  | inr u ↦ look_outside rows span e hi ws r k hs heads (inr u)
                ])
              ])
          | inr n ↦
              look_same rows span ws vs r k (kept_head r (k % span) h (mod_below k span hs) n) (λ q l. kept_word r (k % span) q h (mod_below k span hs) n l)
              ∙ sym (elim (cases_lt k (e + 1)) [
                | inl l ↦ cut_under_lem (e + 1) (ring_look rows span ws) r k l
                    ∙ sym (look_outside rows span e hi ws r k hs heads (inl (elim (cases_eq k e) [ inl x ↦ absurd (n (ap (λ y. y % span) x)) | inr x ↦ omega arith ])))
                | inr l ↦ cut_above (e + 1) (ring_look rows span ws) r k l
              ])
        ]
      ]

  pub cleared_day : Means rows span (e + 1) hi vs (cut_under (e + 1) (ring_look rows span ws))
  cleared_day = record { heads = cleared_heads; words = cleared_words; looks = cleared_looks }

pub cut_cut : (e f : ℕ) (look : ℕ → ℕ → Option Curve) (r k : ℕ) → e ≤ f → cut_under f (cut_under e look) r k ≡ cut_under f look r k
cut_cut e f look r k h = elim (cases_lt k f) [
  | inl l ↦ cut_under_lem f (cut_under e look) r k l ∙ sym (cut_under_lem f look r k l)
  | inr l ↦ cut_above f (cut_under e look) r k l ∙ (cut_above e look r k (omega arith) ∙ sym (cut_above f look r k l))
]

pub cut_same : (f : ℕ) (look look' : ℕ → ℕ → Option Curve) (r k : ℕ) → look r k ≡ look' r k → cut_under f look r k ≡ cut_under f look' r k
cut_same f look look' r k h = ap (λ (o : Option Curve). cond (nat_lt k f) None o) h

-- one day more
pub cleared_more : (rows span e hi : ℕ) (ws vs : List ℤ) (look : ℕ → ℕ → Option Curve) → 0 < span → hi ≤ e + span
    → Means rows span e hi ws (cut_under e look) → DayCleared rows rows span e ws vs → Means rows span (e + 1) hi vs (cut_under (e + 1) look)
cleared_more rows span e hi ws vs look hs w m c =
    let n = cleared_day rows span e hi ws vs hs m.heads m.words w c in
    record {
      heads = n.heads;
      words = n.words;
      looks = λ r k. n.looks r k ∙ (cut_same (e + 1) (ring_look rows span ws) (cut_under e look) r k (m.looks r k) ∙ cut_cut e (e + 1) look r k (omega arith));
    }

-- no day yet
pub cleared_none : (rows span lo hi : ℕ) (ws : List ℤ) → 0 < span → HeadsFit rows span lo hi ws → WordsFit rows span ws
    → Means rows span lo hi ws (cut_under lo (ring_look rows span ws))
cleared_none rows span lo hi ws hs heads words = record {
  heads = heads;
  words = words;
  looks = λ r k. sym (elim (cases_lt k lo) [
    | inl l ↦ cut_under_lem lo (ring_look rows span ws) r k l ∙ sym (look_outside rows span lo hi ws r k hs heads (inl l))
    | inr l ↦ cut_above lo (ring_look rows span ws) r k l
  ]);
}

-- all days before `to`, of which at most a span's were held
pub cleared_all : (rows span lo hi e to : ℕ) (ws vs : List ℤ) → 0 < span → HeadsFit rows span lo hi ws → lo ≤ to → hi ≤ lo + span → e ≤ to → (e ≡ to) ⊎ (hi ≤ e)
    → Means rows span e hi vs (cut_under e (ring_look rows span ws)) → Means rows span to (to + span) vs (cut_under to (ring_look rows span ws))
cleared_all rows span lo hi e to ws vs hs heads le w le' o m = record {
  heads = λ r s h l. refit span e hi to (to + span) s (head_at vs (slot_at span r s)) (m.heads r s h l)
      (λ d i. let a = i.above in let b = i.before in elim o [ inl p ↦ (omega arith, omega arith) | inr p ↦ absurd (omega arith) ]);
  words = m.words;
  looks = λ r k. m.looks r k ∙ elim o [
    | inl p ↦ ap (λ f. cut_under f (ring_look rows span ws) r k) p
    | inr p ↦ elim (cases_lt k e) [
      | inl l ↦ cut_under_lem e (ring_look rows span ws) r k l ∙ sym (cut_under_lem to (ring_look rows span ws) r k (omega arith))
      | inr l ↦ (let n = look_outside rows span lo hi ws r k hs heads (inr (omega arith)) in cut_none e (ring_look rows span ws) r k n ∙ sym (cut_none to (ring_look rows span ws) r k n))
    ]
  ];
}

-- the words of all slots keep their limits where one slot changed and its words do
slot_fits : (rows span r t : ℕ) (ws vs : List ℤ) → t < span → WordsFit rows span ws → Around ws vs (slot_at span r t)
    → ((q : ℕ) → q < 96 → word_fits (head_at vs (slot_at span r t)) (word_at vs (slot_at span r t) q) ≡ true) → WordsFit rows span vs
slot_fits rows span r t ws vs l words w here r' s q h m k = elim (cases_eq r' r) [
  | inl p ↦ elim (cases_eq s t) [
    | inl e ↦ (let P : ℕ → Type 0 = λ a. word_fits (head_at vs a) (word_at vs a q) ≡ true in
        subst P (sym (ap (λ x. slot_at span x s) p ∙ ap (slot_at span r) e)) (here q k))
    | inr n ↦ other (λ b. n b.1)
  ]
  | inr n ↦ other (λ b. n b.0)
]
  where
    other : ((r' ≡ r) × (s ≡ t) → ⊥) → word_fits (head_at vs (slot_at span r' s)) (word_at vs (slot_at span r' s) q) ≡ true
    other n =
        let p = apart span r' s r t m l n in
        ap (λ z. word_fits z (word_at vs (slot_at span r' s) q)) (stays_head ws vs _ (slot_at span r' s) w p)
        ∙ (ap (word_fits (head_at ws (slot_at span r' s))) (stays_word ws vs _ (slot_at span r' s) q w p k) ∙ words r' s q h m k)

pub cleared_fits : (rows span r t : ℕ) (ws vs : List ℤ) → t < span → WordsFit rows span ws → SlotCleared ws vs (slot_at span r t) → WordsFit rows span vs
cleared_fits rows span r t ws vs l words c = slot_fits rows span r t ws vs l words c.around (λ q h.
    ap (λ z. word_fits z (word_at vs (slot_at span r t) q)) (ap (head_at vs) (sym (add-zero (slot_at span r t))) ∙ c.blank 0 (omega arith))
    ∙ ap is_zero (ap (head_at vs) (add_assoc (slot_at span r t) 1 q) ∙ c.blank (1 + q) (omega arith)))

pub written_fits : (rows span r t d : ℕ) (ws vs : List ℤ) (c : Curve) → t < span → WordsFit rows span ws → SlotWritten ws vs (slot_at span r t) d c → WordsFit rows span vs
written_fits rows span r t d ws vs c l words w = slot_fits rows span r t ws vs l words w.around (λ q h.
    ap (λ z. word_fits z (word_at vs (slot_at span r t) q)) (w.first ∙ ap pos (add-one d))
    ∙ (ap within (ap reading_from (w.rest q h) ∙ reading_word (reading_in c.readings q) (c.limited q h)) ∙ c.limited q h))

-- one curve written

fits_day : (span lo hi d : ℕ) → lo ≤ d → d < hi → d ≤ 36524 → head_fits span lo hi (d % span) (pos (d + 1)) ≡ true
fits_day span lo hi d a b l =
    ap (λ n. head_fits span lo hi (d % span) (pos n)) (add-one d) ∙ tells span lo hi (d % span) d (record { above = a; before = b; last = l; rest = refl })

module _ (rows span lo hi r d : ℕ) (ws vs : List ℤ) (c : Curve) (hs : 0 < span) (heads : HeadsFit rows span lo hi ws) (words : WordsFit rows span ws) (w : hi ≤ lo + span) (hr : r < rows) (above : lo ≤ d) (before : d < hi) (last : d ≤ 36524) (wr : SlotWritten ws vs (slot_at span r (d % span)) d c) where
  there : (r' s : ℕ) → s < span → ((r' ≡ r) × (s ≡ d % span) → ⊥) → Apart (slot_at span r' s) (slot_at span r (d % span))
  there r' s l n = apart span r' s r (d % span) l (mod_below d span hs) n

  slot_same : (r' s : ℕ) → r' ≡ r → s ≡ d % span → slot_at span r' s ≡ slot_at span r (d % span)
  slot_same r' s p q = ap (λ x. slot_at span x s) p ∙ ap (slot_at span r) q

  here_word : (q : ℕ) → q < 96 → reading_from (word_at vs (slot_at span r (d % span)) q) ≡ reading_in c.readings q
  here_word q h = ap reading_from (wr.rest q h) ∙ reading_word (reading_in c.readings q) (c.limited q h)

  written_heads : HeadsFit rows span lo hi vs
  written_heads r' s h l = elim (cases_eq r' r) [
    | inl p ↦ elim (cases_eq s (d % span)) [
      | inl q ↦ ap (λ (t : ℕ). head_fits span lo hi t (head_at vs (slot_at span r' s))) q
          ∙ (ap (λ (a : ℕ). head_fits span lo hi (d % span) (head_at vs a)) (slot_same r' s p q)
          ∙ (ap (head_fits span lo hi (d % span)) wr.first ∙ fits_day span lo hi d above before last))
      | inr q ↦ ap (head_fits span lo hi s) (stays_head ws vs _ (slot_at span r' s) wr.around (there r' s l (λ b. q b.1))) ∙ heads r' s h l
    ]
    | inr p ↦ ap (head_fits span lo hi s) (stays_head ws vs _ (slot_at span r' s) wr.around (there r' s l (λ b. p b.0))) ∙ heads r' s h l
  ]

  written_words : WordsFit rows span vs
  written_words = written_fits rows span r (d % span) d ws vs c (mod_below d span hs) words wr

  -- elsewhere nothing changed
  look_elsewhere : (r' k : ℕ) → ((r' ≡ r) × (k % span ≡ d % span) → ⊥) → ring_look rows span vs r' k ≡ gained r d c (ring_look rows span ws) r' k
  look_elsewhere r' k n =
      let p = there r' (k % span) (mod_below k span hs) n in
      look_same rows span ws vs r' k (stays_head ws vs _ _ wr.around p) (λ q l. stays_word ws vs _ _ q wr.around p l)
      ∙ sym (cond-false (r' == r && k == d) _ _ (elim (cases_eq r' r) [
        | inl a ↦ and_right (r' == r) _ (ne_eqb k d (λ b. n (a, ap (λ x. x % span) b)))
        | inr a ↦ and_left _ (k == d) (ne_eqb r' r a)
      ]))

  written_looks : (r' k : ℕ) → ring_look rows span vs r' k ≡ gained r d c (ring_look rows span ws) r' k
  written_looks r' k = elim (cases_eq r' r) [
    | inr p ↦ look_elsewhere r' k (λ b. p b.0)
    | inl p ↦ elim (cases_eq (k % span) (d % span)) [
      | inr q ↦ look_elsewhere r' k (λ b. q b.1)
      | inl q ↦ elim (cases_eq k d) [
        | inl x ↦
            ap (λ y. ring_look rows span vs y k) p ∙ (ap (ring_look rows span vs r) x
            ∙ (look_here rows span vs r d hr (ap (λ z. is_day z d) wr.first ∙ eq-eqb (d + 1) (d + 1) refl)
            ∙ (ap Some (curve_is (word_at vs (slot_at span r (d % span))) c here_word)
            ∙ sym (cond-true (r' == r && k == d) _ _ (and_from _ _ (eq-eqb r' r p) (eq-eqb k d x))))))
        | inr x ↦
            look_other rows span vs r' k (ap (λ a. is_day (head_at vs a) k) (slot_same r' (k % span) p q)
            ∙ (ap (λ z. is_day z k) wr.first ∙ ne_eqb (d + 1) (k + 1) (λ y. x (omega arith))))
            ∙ sym (cond-false (r' == r && k == d) _ _ (and_right (r' == r) _ (ne_eqb k d x))
            ∙ elim (cases_lt k lo) [
              | inl y ↦ look_outside rows span lo hi ws r' k hs heads (inl y)
              | inr y ↦ elim (cases_lt k hi) [
                | inl z ↦ absurd (x (same_day span lo hi k d w q y z above before))
                | inr z ↦ look_outside rows span lo hi ws r' k hs heads (inr z)
              ]
            ])
      ]
    ]
  ]

  pub written : Means rows span lo hi vs (gained r d c (ring_look rows span ws))
  written = record { heads = written_heads; words = written_words; looks = written_looks }

-- a curve from the floor on is kept by a cut at the floor
pub cut_gained : (f r d : ℕ) (c : Curve) (look : ℕ → ℕ → Option Curve) (r' k : ℕ) → f ≤ d → gained r d c (cut_under f look) r' k ≡ cut_under f (gained r d c look) r' k
cut_gained f r d c look r' k h = elim (cases_Bool (r' == r && k == d)) [
  | inl t ↦ (let x : k ≡ d = eqb-true k d (and_parts (r' == r) (k == d) t).1 in
      cond-true (r' == r && k == d) _ _ t ∙ sym (cut_above f (gained r d c look) r' k (omega arith) ∙ cond-true (r' == r && k == d) _ _ t))
  | inr t ↦ cond-false (r' == r && k == d) _ _ t ∙ sym (cut_same f (gained r d c look) look r' k (cond-false (r' == r && k == d) _ _ t))
]

pub gained_same : (r d : ℕ) (c : Curve) (look look' : ℕ → ℕ → Option Curve) (r' k : ℕ) → look r' k ≡ look' r' k → gained r d c look r' k ≡ gained r d c look' r' k
gained_same r d c look look' r' k h = ap (λ (o : Option Curve). cond (r' == r && k == d) (Some c) o) h

-- the slots of a day, one row more
pub day_none : (rows span d : ℕ) (ws : List ℤ) → DayCleared 0 rows span d ws ws
day_none rows span d ws = record { gone = λ r k h l. absurd (omega arith); kept = λ r s k h l n p. refl; len = refl }

pub day_more : (n rows span d a : ℕ) (ws vs us : List ℤ) → 0 < span → a ≡ slot_at span n (d % span) → DayCleared n rows span d ws vs → SlotCleared vs us a
    → DayCleared (n + 1) rows span d ws us
day_more n rows span d a ws vs us hs e c s =
    let t : SlotCleared vs us (slot_at span n (d % span)) = subst (λ (x : ℕ). SlotCleared vs us x) e s in
    let m = mod_below d span hs in
    record {
      gone = λ r k h l. elim (cases_eq r n) [
        | inl p ↦ ap (λ x. slice_index_or us (slot_at span x (d % span) + k) (pos 0)) p ∙ t.blank k l
        | inr p ↦ stays vs us _ _ k t.around (apart span r (d % span) n (d % span) m m (λ b. p b.0)) l ∙ c.gone r k (omega arith) l
      ];
      kept = λ r s k h l q p. stays vs us _ _ k t.around (apart span r s n (d % span) l m (λ b. q b.1)) p ∙ c.kept r s k h l q p;
      len = t.around.len ∙ c.len;
    }

-- a curve put, after the days before the new floor are gone
pub put_means : (rows span to r d a : ℕ) (ws vs us : List ℤ) (c : Curve) → 0 < span → r < rows → to ≤ d → d < to + span → d ≤ 36524
    → Means rows span to (to + span) vs (cut_under to (ring_look rows span ws)) → a ≡ slot_at span r (d % span) → SlotWritten vs us a d c
    → Means rows span to (to + span) us (cut_under to (gained r d c (ring_look rows span ws)))
put_means rows span to r d a ws vs us c hs hr above before last m e w =
    let t : SlotWritten vs us (slot_at span r (d % span)) d c = subst (λ (x : ℕ). SlotWritten vs us x d c) e w in
    let n = written rows span to (to + span) r d vs us c hs m.heads m.words (omega arith) hr above before last t in
    record {
      heads = n.heads;
      words = n.words;
      looks = λ r' k. n.looks r' k
          ∙ (gained_same r d c (ring_look rows span vs) (cut_under to (ring_look rows span ws)) r' k (m.looks r' k)
          ∙ cut_gained to r d c (ring_look rows span ws) r' k above);
    }
