use Rattle.std.proofs.Common.{false, ap, ◌∙◌}
use Rattle.avp.specs.Header.{span}
use Rattle.group.specs.Members.{read_group}
use Rattle.group.proofs.Meanings.{meaning_same}
use Rattle.information.specs.Command.{read_command_group, rules}
use Rattle.information.proofs.command.read_command_group.Goals as goal

pub returns : goal.returns
unfolding read_command_group
returns c = meaning_same c.read.result ∙ c.read.ensures ∙ ap (λ m. read_group rules (record { members = m; report = false; support = false }) (span c.args.part)) c.begin.ensures
