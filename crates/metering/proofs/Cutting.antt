-- A text is what its fields spell, and lines of plain fields are cut into just those fields.
use Rattle.std.proofs.Common.{◌≡◌, ℕ, true, false, List, [], ◌∷◌, ◌++◌, sym, refl, ap, ◌∙◌, append_assoc}
use Rattle.std.proofs.lemmas.Bool.{cond_both, cond-true, cond-false}
use Rattle.metering.specs.Text.{Text, field, rest, separator, grow, cut}
use Rattle.metering.specs.Export.{Plain, PlainAll, PlainLines, line, written}

abbrev pub spelled : Text → List ℕ
spelled (field f s t) = f ++ (s ∷ spelled t)
spelled (rest r) = r

-- fields without separators in them, each ended by one
abbrev pub Clean : Text → Type 0
Clean (field f s t) = Plain f × (separator s ≡ true) × Clean t
Clean (rest r) = Plain r

-- a line of fields, before a text
abbrev pub laid : List ℕ → List (List ℕ) → Text → Text
laid f [] t = field f 10 t
laid f (g ∷ gs) t = field f 59 (laid g gs t)

abbrev pub laid_of : List (List ℕ) → Text → Text
laid_of [] t = t
laid_of (f ∷ fs) t = laid f fs t

abbrev pub lines : List (List (List ℕ)) → Text
lines [] = rest []
lines (l ∷ ls) = laid_of l (lines ls)

grow_spelled : (b : ℕ) (t : Text) → spelled (grow b t) ≡ b ∷ spelled t
grow_spelled b (field f s t) = refl
grow_spelled b (rest r) = refl

grow_clean : (b : ℕ) (t : Text) → separator b ≡ false → Clean t → Clean (grow b t)
grow_clean b (field f s t) e h = ((e, h.0), h.1, h.2)
grow_clean b (rest r) e h = (e, h)

pub cut_good : (t : List ℕ) → (spelled (cut t) ≡ t) × Clean (cut t)
cut_good [] = (refl, tt)
cut_good (b ∷ bs) =
    let i = cut_good bs in
    cond_both (separator b) (field [] b (cut bs)) (grow b (cut bs)) (λ x. (spelled x ≡ b ∷ bs) × Clean x)
    (λ e. (ap (λ l. b ∷ l) i.0, (tt, e, i.1)))
    (λ e. (grow_spelled b (cut bs) ∙ ap (λ l. b ∷ l) i.0, grow_clean b (cut bs) e i.1))

cut_field : (f : List ℕ) (s : ℕ) (w : List ℕ) → Plain f → separator s ≡ true → cut (f ++ (s ∷ w)) ≡ field f s (cut w)
cut_field [] s w h e = cond-true (separator s) _ _ e
cut_field (b ∷ bs) s w h e = cond-false (separator b) _ _ h.0 ∙ ap (grow b) (cut_field bs s w h.1 e)

cut_line : (f : List ℕ) (fs : List (List ℕ)) (w : List ℕ) → Plain f → PlainAll fs → cut (line f fs ++ w) ≡ laid f fs (cut w)
cut_line f [] w p ps = ap cut (append_assoc f (10 ∷ []) w) ∙ cut_field f 10 w p refl
cut_line f (g ∷ gs) w p ps =
    ap cut (append_assoc f (59 ∷ line g gs) w) ∙ cut_field f 59 (line g gs ++ w) p refl ∙ ap (field f 59) (cut_line g gs w ps.0 ps.1)

pub cut_written : (ls : List (List (List ℕ))) → PlainLines ls → cut (written ls) ≡ lines ls
cut_written [] h = refl
cut_written ([] ∷ ls) h = cut_written ls h.1
cut_written ((f ∷ fs) ∷ ls) h = cut_line f fs (written ls) h.0.0 h.0.1 ∙ ap (laid f fs) (cut_written ls h.1)

spelled_laid : (f : List ℕ) (fs : List (List ℕ)) (t : Text) → spelled (laid f fs t) ≡ line f fs ++ spelled t
spelled_laid f [] t = sym (append_assoc f (10 ∷ []) (spelled t))
spelled_laid f (g ∷ gs) t = ap (λ x. f ++ (59 ∷ x)) (spelled_laid g gs t) ∙ sym (append_assoc f (59 ∷ line g gs) (spelled t))

pub spelled_lines : (ls : List (List (List ℕ))) → spelled (lines ls) ≡ written ls
spelled_lines [] = refl
spelled_lines ([] ∷ ls) = spelled_lines ls
spelled_lines ((f ∷ fs) ∷ ls) = spelled_laid f fs (lines ls) ∙ ap (λ x. line f fs ++ x) (spelled_lines ls)
