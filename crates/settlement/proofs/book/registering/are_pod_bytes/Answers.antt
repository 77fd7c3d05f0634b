use Rattle.std.proofs.Common.{◌∙◌, rules}
use Rattle.std.proofs.lemmas.Iterator.{YieldsList-from_slice}
use Rattle.std.proofs.lemmas.Iterator.Search.{all_from_yields_List}
use Rattle.ledger.specs.Book.{is_pod_byte}
use Rattle.settlement.proofs.Walks.{all_pod_bytes_lem}
use Rattle.settlement.proofs.book.registering.are_pod_bytes.Goals as goal

pub returns : goal.returns
returns c =
    let pod = c.args.pod.now in
    all_from_yields_List is_pod_byte _ _ _ c.all.ensures.ran (YieldsList-from_slice pod (search rules)) (λ x b f e. search rules) ∙ all_pod_bytes_lem pod
