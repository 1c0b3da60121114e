use Rattle.std.proofs.Common.{◌∙◌, rules, tests}
use Rattle.std.proofs.lemmas.Iterator.{YieldsList-from_slice}
use Rattle.std.proofs.lemmas.Iterator.Search.{all_from_yields_List}
use Rattle.words.specs.Keys.{plain_one}
use Rattle.words.proofs.Walks.{every_all}
use Rattle.words.proofs.keys.is_plain.Goals as goal

pub returns : goal.returns
returns c =
    let text = c.args.characters.now in
    all_from_yields_List plain_one _ _ c.all.result c.all.ensures.ran (YieldsList-from_slice text cc) (λ x b q k. search (rules, tests)) ∙ every_all plain_one text
