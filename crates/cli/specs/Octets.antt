-- A message of any kind, from octets and to octets.
use Rattle.std.specs.Prelude.{ℕ, List, Result}
use Rattle.fault.specs.declared.Fault.{Fault}
use Rattle.group.specs.Members.{meaning}
use Rattle.message.specs.declared.values.Kind.{Kind}
use Rattle.message.specs.declared.values.Kind.TheVariants as kind
use Rattle.message.specs.Numbered.{read_report, read_answer}
use Rattle.message.specs.Commands.{read_command}
use Rattle.wire.specs.Octets.{report_octets, answer_octets, command_octets}
use Rattle.text.specs.Messages.{Told, Reports, Answers, Orders}

abbrev pub message_read : Kind → List ℕ → Result Told Fault
message_read kind.Report bs = meaning (λ m. Reports m) (read_report bs)
message_read kind.Answer bs = meaning (λ m. Answers m) (read_answer bs)
message_read kind.Command bs = meaning (λ vs. Orders vs) (read_command bs)

abbrev pub message_octets : Told → List ℕ
message_octets (Reports m) = report_octets m
message_octets (Answers m) = answer_octets m
message_octets (Orders vs) = command_octets vs
