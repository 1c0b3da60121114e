use Rattle.std.proofs.Common.{◌≡◌, codes, sym, ap, arith, rules}
use Rattle.std.proofs.lemmas.Slice.Eq.{text_from_reads}
use Rattle.words.specs.Names.{type_read}
use Rattle.words.proofs.names.read_type.Goals as goal

pub returns-in-termination : goal.returns-in-termination
returns-in-termination c =
    let is : c.args.word.now ≡ codes "termination" = text_from_reads _ _ (omega arith) (search rules) in
    sym (ap type_read is)
