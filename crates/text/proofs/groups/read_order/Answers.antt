use Rattle.std.proofs.Common.{◌≡◌, codes, sym, ◌∙◌, arith, rules}
use Rattle.std.proofs.lemmas.Slice.Eq.{text_from_reads}
use Rattle.words.specs.Words.{word_of}
use Rattle.text.proofs.groups.read_order.Goals as goal

pub returns-in_err-key-in-disable : goal.returns-in_err-key-in-disable
returns-in_err-key-in-disable c =
    let is : word_of c.args.line.now ≡ codes "disable" = sym c.first_word.ensures.word ∙ text_from_reads _ _ (omega arith) (search rules) in
    rw is (search rules)

pub returns-in_ok-key-in-disable : goal.returns-in_ok-key-in-disable
returns-in_ok-key-in-disable c =
    let is : word_of c.args.line.now ≡ codes "disable" = sym c.first_word.ensures.word ∙ text_from_reads _ _ (omega arith) (search rules) in
    rw is (search rules)

pub returns-in-request : goal.returns-in-request
returns-in-request c =
    let is : word_of c.args.line.now ≡ codes "request" = sym c.first_word.ensures.word ∙ text_from_reads _ _ (omega arith) (search rules) in
    rw is (search rules)
