use Rattle.std.proofs.Common.{lit<}
use Rattle.std.proofs.lemmas.Str.Pattern.{split_parts}
use Rattle.lifefile.proofs.Times.{time_read}
use Rattle.lifefile.proofs.words.time_in.Goals as goal

pub returns : goal.returns
returns c =
    let parts = rw c.in_ok-hour.was at (split_parts 58 c.args.word.now c.split_once.result c.split_once.ensures.cases (lit< tt)) in
    let read = time_read c.in_ok-hour.hour.now c.in_ok-hour.minute.now c.in_ok-hour-2.hour c.in_ok-minute.minute c.in_ok-hour-2.ensures.value c.in_ok-minute.ensures.value in
    cc (read, parts.0)
