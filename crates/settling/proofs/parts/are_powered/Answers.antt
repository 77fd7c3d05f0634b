use Rattle.std.proofs.Common.{◌∙◌, leb, rules}
use Rattle.std.proofs.lemmas.Iterator.{YieldsList-from_slice}
use Rattle.std.proofs.lemmas.Iterator.Search.{all_from_yields_List}
use Rattle.settling.proofs.Fitness.{powered_all}
use Rattle.settling.proofs.parts.are_powered.Goals as goal

pub returns : goal.returns
returns c =
    let xs = c.args.resources.now in
    all_from_yields_List (λ x. leb x.power 4000) _ _ _ c.all.ensures.ran (YieldsList-from_slice xs (search rules)) (λ x b f e. search rules) ∙ powered_all xs
