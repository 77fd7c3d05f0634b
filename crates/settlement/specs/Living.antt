-- What a life answers, and the book that it leaves.
use Rattle.std.specs.Prelude.{cond, List, ◌++◌, length, drop, Some, None, Option, nat_le}
use Rattle.ledger.specs.declared.fault.BookFault.{BookFault}
use Rattle.ledger.specs.declared.fault.BookFault.TheVariants.{ShortMemory}
use Rattle.ledger.specs.declared.life.Call.{Call}
use Rattle.ledger.specs.declared.life.Answer.{Answer}
use Rattle.ledger.specs.Book.{Book}
use Rattle.ledger.specs.Run.{run, final}

-- a life is run where its answers have room; else nothing is
abbrev pub room_for : List Call → List Answer → Option BookFault
room_for xs us = cond (nat_le (length xs) (length us)) None (Some ShortMemory)

abbrev pub answers_after : Book → List Call → List Answer → List Answer
answers_after b xs us = cond (nat_le (length xs) (length us)) (run b xs ++ drop (length xs) us) us

abbrev pub book_after : Book → List Call → List Answer → Book
book_after b xs us = cond (nat_le (length xs) (length us)) (final b xs) b
