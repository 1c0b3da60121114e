use Rattle.std.proofs.Common.{◌≡◌, codes, sym, ap, arith, rules}
use Rattle.std.proofs.lemmas.Slice.Eq.{text_from_reads}
use Rattle.message.specs.declared.values.Kind.TheVariants.{Report, Answer, Command}
use Rattle.request.specs.Lines.{kind_of}
use Rattle.request.proofs.line.kind_of.Goals as goal

pub returns-in-answer : goal.returns-in-answer
returns-in-answer c =
    let is : c.args.word.now ≡ codes "answer" = text_from_reads _ _ (omega arith) (search rules) in
    sym (ap (kind_of Report Answer Command) is)

pub returns-in-command : goal.returns-in-command
returns-in-command c =
    let is : c.args.word.now ≡ codes "command" = text_from_reads _ _ (omega arith) (search rules) in
    sym (ap (kind_of Report Answer Command) is)
