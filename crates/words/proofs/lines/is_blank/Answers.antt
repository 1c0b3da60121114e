use Rattle.std.proofs.Common.{◌∙◌, rules, tests}
use Rattle.std.proofs.lemmas.Iterator.{YieldsList-from_slice}
use Rattle.std.proofs.lemmas.Iterator.Search.{all_from_yields_List}
use Rattle.std.specs.Char.{is_ascii_whitespace}
use Rattle.words.proofs.Walks.{blank_all}
use Rattle.words.proofs.lines.is_blank.Goals as goal

pub returns : goal.returns
returns c =
    let text = c.args.line.now in
    all_from_yields_List is_ascii_whitespace _ _ c.all.result c.all.ensures.ran (YieldsList-from_slice text cc) (λ x b q k. search (rules, tests)) ∙ blank_all text
