-- A meaning has one memory only.
use Rattle.std.proofs.Common.{◌≡◌, ℕ, zero, suc, ◌+◌, ◌*◌, ◌/◌, ◌%◌, ◌<◌, ◌≤◌, ◌⊎◌, List, length, get_or, ℤ, pos, is_some, Some, None, Option, sym, refl, ap, ◌∙◌, subst, inl, inr, add-zero, mul_comm, arith}
use Rattle.std.proofs.lemmas.Nat.{div-add-mod', div_below, mod_below}
use Rattle.std.proofs.lemmas.List.{same_lists, get_or_default}
use Rattle.std.proofs.lemmas.Bool.{cases_eq, cases_lt}
use Rattle.metering.specs.declared.curve.Curve.{Curve}
use Rattle.stores.specs.Model.{StoreModel, Bounded}
use Rattle.stores.specs.Slots.{slot_at}
use Rattle.stores.specs.Ring.{LaidOut, LayoutOne}

abbrev Falls : (ℕ → Option Curve) → ℕ → ℕ → ℕ → Type 0
Falls look span s n = (d : ℕ) × (c : Curve) × (d % span ≡ s) × (look d ≡ Some c)

abbrev Free : (ℕ → Option Curve) → ℕ → ℕ → ℕ → Type 0
Free look span s n = (d : ℕ) → d < n → d % span ≡ s → look d ≡ None

held_or : (o : Option Curve) → ((c : Curve) × (o ≡ Some c)) ⊎ (o ≡ None)
held_or None = inr refl
held_or (Some c) = inl (c, refl)

-- a held day falls into a slot, or none does
falls : (look : ℕ → Option Curve) (span s n : ℕ) → Falls look span s n ⊎ Free look span s n
falls look span s zero = inr (λ d l e. absurd (omega arith))
falls look span s (suc n) = elim (falls look span s n) [
  | inl f ↦ inl f
  | inr f ↦ elim (cases_eq (n % span) s) [
    | inl e ↦ elim (held_or (look n)) [
      | inl h ↦ inl (n, h.0, e, h.1)
      | inr h ↦ inr (λ d l m. elim (cases_eq d n) [ inl p ↦ ap look p ∙ h | inr p ↦ f d (omega arith) m ])
    ]
    | inr e ↦ inr (λ d l m. elim (cases_eq d n) [ inl p ↦ absurd (e (ap (λ x. x % span) (sym p) ∙ m)) | inr p ↦ f d (omega arith) m ])
  ]
]

module _ (m : StoreModel) (ws vs : List ℤ) (b : Bounded m) (a : LaidOut m ws) (z : LaidOut m vs) where
  held_word : (r d k : ℕ) (c : Curve) → m.look r d ≡ Some c → k < 97
      → get_or ws (slot_at m.span r (d % m.span) + k) (pos 0) ≡ get_or vs (slot_at m.span r (d % m.span) + k) (pos 0)
  held_word r d zero c e h =
      let p = add-zero (slot_at m.span r (d % m.span)) in
      ap (λ x. get_or ws x (pos 0)) p ∙ (a.day r d c e ∙ (sym (z.day r d c e) ∙ sym (ap (λ x. get_or vs x (pos 0)) p)))
  held_word r d (suc q) c e h =
      let p : slot_at m.span r (d % m.span) + suc q ≡ slot_at m.span r (d % m.span) + 1 + q = omega arith in
      let l : q < 96 = omega arith in
      ap (λ x. get_or ws x (pos 0)) p ∙ (a.readings r d q c e l ∙ (sym (z.readings r d q c e l) ∙ sym (ap (λ x. get_or vs x (pos 0)) p)))

  beyond : (r d : ℕ) → 36525 ≤ d → m.look r d ≡ None
  beyond r d h = elim (held_or (m.look r d)) [
    | inl c ↦ absurd (let p = (b.held r d (ap is_some c.1)).2 in omega arith)
    | inr n ↦ n
  ]

  slot_word : (r s k : ℕ) → r < m.width → s < m.span → k < 97 → get_or ws (slot_at m.span r s + k) (pos 0) ≡ get_or vs (slot_at m.span r s + k) (pos 0)
  slot_word r s k hr hs hk = elim (falls (m.look r) m.span s 36525) [
    | inl f ↦ (let P : ℕ → Type 0 = λ t. get_or ws (slot_at m.span r t + k) (pos 0) ≡ get_or vs (slot_at m.span r t + k) (pos 0) in subst P f.2 (held_word r f.0 k f.1 f.3 hk))
    | inr f ↦ (let n : (d : ℕ) → d % m.span ≡ s → m.look r d ≡ None = λ d e. elim (cases_lt d 36525) [ inl l ↦ f d l e | inr l ↦ beyond r d l ] in
        a.empty r s k hr hs n hk ∙ sym (z.empty r s k hr hs n hk))
  ]

  -- word j is word j % 97 of the slot j / 97
  word : (j : ℕ) → j < length ws → get_or ws j (pos 0) ≡ get_or vs j (pos 0)
  word j h =
      let q = b.span_from in
      let e = a.long in
      let x = mul_comm 97 (m.width * m.span) in
      let i : j / 97 < m.width * m.span = div_below j 97 (m.width * m.span) (omega arith) (omega arith) in
      let r : j / 97 / m.span < m.width = div_below (j / 97) m.span m.width (omega arith) i in
      let s = mod_below (j / 97) m.span (omega arith) in
      let k = mod_below j 97 (omega arith) in
      let u = div-add-mod' (j / 97) m.span in
      let v = div-add-mod' j 97 in
      let P : ℕ → Type 0 = λ n. get_or ws n (pos 0) ≡ get_or vs n (pos 0) in
      let p : slot_at m.span (j / 97 / m.span) (j / 97 % m.span) + j % 97 ≡ j = omega arith in
      subst P p (slot_word (j / 97 / m.span) (j / 97 % m.span) (j % 97) r s k)

pub layout_one : LayoutOne
layout_one m ws vs b a z =
    let l : length ws ≡ length vs = a.long ∙ sym z.long in
    same_lists ws vs l (λ j d h. get_or_default ws j d (pos 0) h ∙ (word m ws vs b a z j h ∙ get_or_default vs j (pos 0) d (omega arith)))
