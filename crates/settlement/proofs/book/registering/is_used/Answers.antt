use Rattle.std.proofs.Common.{◌∙◌, rules}
use Rattle.std.specs.Str.{bytes_eq}
use Rattle.std.proofs.lemmas.Iterator.{YieldsList-from_slice}
use Rattle.std.proofs.lemmas.Iterator.Search.{any_from_yields_List}
use Rattle.ledger.specs.declared.records.Resource.{Resource}
use Rattle.settlement.proofs.Walks.{is_used_lem}
use Rattle.settlement.proofs.book.registering.is_used.Goals as goal

pub returns : goal.returns
returns c =
    let xs = c.args.resources.now in
    let pod = c.args.pod.now in
    any_from_yields_List (λ (x : Resource). bytes_eq x.pod pod) _ _ _ c.any.ensures.ran (YieldsList-from_slice xs (search rules)) (λ x b f e. search rules) ∙ is_used_lem xs pod
