-- A text as its fields: a semicolon (59) ends a field, a line feed (10) a line.
use Rattle.std.specs.Prelude.{ℕ, Bool, true, cond, List, [], ◌∷◌, ◌==◌}

-- a field, the separator that ends it and the text after it; or what stands after the last separator
pub data Text : Type 0 where
  field : List ℕ → ℕ → Text → Text
  rest : List ℕ → Text

abbrev pub separator : ℕ → Bool
separator b = cond (b == 59) true (b == 10)

abbrev pub grow : ℕ → Text → Text
grow b (field f s t) = field (b ∷ f) s t
grow b (rest r) = rest (b ∷ r)

abbrev pub cut : List ℕ → Text
cut [] = rest []
cut (b ∷ bs) = cond (separator b) (field [] b (cut bs)) (grow b (cut bs))
