use Rattle.std.proofs.Common.{◌≡◌, ℕ, ◌+◌, ◌<◌, ◌≤◌, get_or, pos}
use Rattle.metering.specs.Readings.{reading_in}
use Rattle.stores.specs.Slots.{head_at, word_at}
use Rattle.stores.specs.Words.{word_of}
use Rattle.stores.proofs.ring.grid.write_slot.Given as goal

abbrev pub invariant-loop-q : goal.invariant-loop-q
invariant-loop-q l =
    (head_at l.words l.base ≡ pos (l.day + 1))
    × ((k : ℕ) → k < l.q → word_at l.words l.base k ≡ word_of (reading_in l.curve.readings k))
    × ((k : ℕ) → k < l.base → get_or l.words k (pos 0) ≡ get_or l.initial.words k (pos 0))
    × ((k : ℕ) → l.base + 97 ≤ k → get_or l.words k (pos 0) ≡ get_or l.initial.words k (pos 0))
