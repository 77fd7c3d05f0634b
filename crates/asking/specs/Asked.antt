-- What the words after a program's name ask for.
use Rattle.std.specs.Prelude.{◌≡◌, ◌≢◌, ◌⊎◌, List, [], ◌∷◌, codes, String, string_bytes}
use Rattle.std.specs.declared.alloc.Global.{Global}
use Rattle.asking.specs.declared.Asked.{Asked}
use Rattle.asking.specs.declared.Asked.TheVariants.{Help, Input, Files}

-- by the first word help, the standard input, or files by their names, which are all the words
abbrev pub Asks : List (String Global) → Asked → Type 0
Asks [] Help = ⊥
Asks [] Input = Unit {0}
Asks [] (Files files) = ⊥
Asks (first ∷ rest) Help = (string_bytes first ≡ codes "--help") ⊎ (string_bytes first ≡ codes "-h")
Asks (first ∷ rest) Input = string_bytes first ≡ codes "-"
Asks (first ∷ rest) (Files files) = (string_bytes first ≢ codes "--help") × (string_bytes first ≢ codes "-h") × (string_bytes first ≢ codes "-") × (files.now ≡ first ∷ rest)
