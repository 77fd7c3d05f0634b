use Rattle.std.proofs.Common.{sym, ap, ◌∙◌, subst, arith}
use Rattle.metering.specs.Text.{cut}
use Rattle.metering.specs.Progress.{begun}
use Rattle.metering.specs.Meaning.{Means, Imports}
use Rattle.metering.specs.Machine.{runs, outcome}
use Rattle.metering.proofs.Runs.{runs_mean}
use Rattle.metering.proofs.Law.{exactly}
use Rattle.metering.proofs.import.import.Goals as goal

pub returns : goal.returns
returns c =
    let e = c.run.ensures ∙ ap (λ m. runs m c.args.text.now) c.new.ensures in
    let i : Imports c.args.text.now (outcome c.run.result)
    = (λ h. absurd (omega arith), λ _. subst (Means begun (cut c.args.text.now)) (sym e) (runs_mean c.args.text.now)) in
    record { judged = i; exactly = exactly c.args.text.now (outcome c.run.result) i }
