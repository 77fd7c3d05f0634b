use Rattle.std.proofs.Common.{◌≡◌, ◌≤◌, List, length, get_or, pos, ◌-◌, ◌∙◌, subst, arith, w32, SFits, rules}
use Rattle.std.proofs.lemmas.List.{length-map}
use Rattle.settling.specs.declared.history_day.HistoryDay.{HistoryDay}
use Rattle.settling.specs.Evidence.{history_row}
use Rattle.std.proofs.lemmas.Int.{to_z-of_z}
use Rattle.settling.specs.History.{days_of}
use Rattle.settling.proofs.Rows.{now_at, then_at, day_at, day_there, no_day}
use Rattle.settling.proofs.evidence.word.Goals as goal

pub returns-in-17 : goal.returns-in-17
returns-in-17 c = let f = c.ranges.lead_now in simp to_z-of_z (now_at _ c.args.lead_now _ _ c.in-17.is)

pub returns-in-18 : goal.returns-in-18
returns-in-18 c = let f = c.ranges.lead_then in simp to_z-of_z (then_at _ _ c.args.lead_then _ c.in-18.is)

pub returns-in_default : goal.returns-in_default
returns-in_default c =
    let xs = c.as_slice.result.now in
    let k = c.args.place in
    let few : length (days_of xs) ≤ 15 = simp length-map c.as_slice.ensures.fits in
    let x : c.map_or.result ≡ pos (get_or (days_of xs) (k - 2) 0) = search (rules, day_there, no_day) in
    let D : List HistoryDay → Type 0 = λ ys. pos (get_or (days_of xs) (k - 2) 0) ≡ get_or (history_row (days_of ys) c.args.lead_now c.args.lead_then) k (pos 0) in
    let w : D xs = day_at (days_of xs) c.args.lead_now c.args.lead_then k few (omega arith) (omega arith) (omega arith) in
    let f : SFits w32 c.map_or.result = search rules in
    simp to_z-of_z (x ∙ subst D c.as_slice.ensures.value w)
