-- What an array holds that is made by a closure of each place, where the closure stays as it was.
use Rattle.std.proofs.Common.{◌≡◌, ℕ, zero, suc, ◌+◌, ◌<◌, ◌≤◌, List, get_or, sym, ◌∙◌, subst, inl, inr, arith}
use Rattle.std.proofs.lemmas.Bool.{cases_lt}
use Rattle.std.specs.Array.{IsFromFnResultFrom}
use denote.Param.Members.{Mut, Called}

pub from_fn_at : {F B : Type 0} (g : Mut F (ℕ × Unit {0}) B) (f : F) (ys : List B) (w : ℕ → B) (d : B)
    → ((k : ℕ) (y : B) (q : F) → Called g f (k, tt) y q → (q ≡ f) × (y ≡ w k))
    → (i n : ℕ) → IsFromFnResultFrom g f ys i n → (k : ℕ) → i ≤ k → k < i + n → get_or ys k d ≡ w k
from_fn_at g f ys w d c i zero e k a b = absurd (omega arith)
from_fn_at {F} g f ys w d c i (suc n) e k a b =
    let s = c i e.1 e.0 e.3 in
    let R : F → Type 0 = λ h. IsFromFnResultFrom g h ys (i + 1) n in
    let P : ℕ → Type 0 = λ j. get_or ys j d ≡ w j in
    elim (cases_lt i k) [
      | inl m ↦ from_fn_at g f ys w d c (i + 1) n (subst R s.0 e.4) k (omega arith) (omega arith)
      | inr m ↦ (let x : k ≡ i = omega arith in subst P (sym x) (e.2.1 d ∙ s.1))
    ]
