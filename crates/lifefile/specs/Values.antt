-- What a value of a curve means, by its bytes.
use Rattle.std.specs.Prelude.{ℕ, cond, ◌&&◌, List, length, drop, Some, Option, ◌==◌, slice_index}
use Rattle.std.specs.Option.{option_map}
use Rattle.lifefile.specs.declared.values.Value.{Value}
use Rattle.lifefile.specs.declared.values.Value.TheVariants.{Injected, Drawn, Estimated}
use Rattle.lifefile.specs.Words.{number_in}

-- the energies and the mark that a value stands for
abbrev pub injected_of : Value → ℕ
injected_of (Injected n) = n
injected_of (Drawn n) = 0
injected_of Estimated = 0

abbrev pub drawn_of : Value → ℕ
drawn_of (Injected n) = 0
drawn_of (Drawn n) = n
drawn_of Estimated = 0

abbrev pub mark_of : Value → ℕ
mark_of (Injected n) = 0
mark_of (Drawn n) = 0
mark_of Estimated = 1

-- the letter E, a minus sign before a number, or a number
abbrev pub value_in : List ℕ → Option Value
value_in t =
    cond (length t == 1 && slice_index t 0 == 69) (Some Estimated)
    (cond (slice_index t 0 == 45) (option_map (λ n. Drawn n) (number_in (drop 1 t))) (option_map (λ n. Injected n) (number_in t)))
