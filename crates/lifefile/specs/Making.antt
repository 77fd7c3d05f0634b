-- The memory that a store is asked to have.
use Rattle.std.specs.Prelude.{ℕ, ◌*◌, Some, None, Option}

-- the words that are named, or as many as a ring of this width and span needs
abbrev pub asked_words : ℕ → ℕ → Option ℕ → ℕ
asked_words width days None = 97 * (width * days)
asked_words width days (Some words) = words
