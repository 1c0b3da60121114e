use Rattle.std.proofs.Common.{◌≡◌, ℕ, List, Ok}
use Rattle.message.specs.Commands.{orders, read_command}
use Rattle.wire.specs.Octets.{command_data, command_octets}
use Rattle.wire.specs.Sound.{command_fault}
use Rattle.trip.specs.Back.{command_at, placed}
use Rattle.trip.specs.Own.{Octets, OwnGroups, OwnOrdered}
use Rattle.trip.proofs.MessagesAgain.{commands_again}
use Rattle.trip.proofs.Messages.{commands_back}
use Rattle.trip.proofs.Wrote.{wrote, sixteen}
use Rattle.trip.proofs.writers.write_command.Goals as goal

pub returns : goal.returns
returns c = record {
  value = c.write_command.ensures.value;
  after = c.write_command.ensures.after;
  back =
      wrote (λ bs. read_command bs ≡ Ok (placed command_at command_data 0 (orders c.args.command.now))) (command_fault (orders c.args.command.now)) (command_octets (orders c.args.command.now)) _ _ _
      (commands_back (orders c.args.command.now) (sixteen c.args.command.now.groups)) c.write_command.ensures.value c.write_command.ensures.after;
  again =
      wrote (λ ws. (bs : List ℕ) → Octets bs → OwnGroups OwnOrdered bs → read_command bs ≡ Ok (orders c.args.command.now) → ws ≡ bs) (command_fault (orders c.args.command.now)) (command_octets (orders c.args.command.now)) _ _ _
      (λ sound bs ok own e. commands_again bs ok own (orders c.args.command.now) e) c.write_command.ensures.value c.write_command.ensures.after;
}
