use Rattle.std.proofs.Common.{ap, ◌∙◌}
use Rattle.avp.specs.Header.{span}
use Rattle.group.specs.Members.{read_group}
use Rattle.group.proofs.Meanings.{meaning_same}
use Rattle.information.specs.Answer.{read_answer_group, rules}
use Rattle.information.proofs.answer.read_answer_group.Goals as goal

pub returns : goal.returns
unfolding read_answer_group
returns c = meaning_same c.read.result ∙ c.read.ensures ∙ ap (λ m. read_group rules (m) (span c.args.part)) c.begin.ensures
