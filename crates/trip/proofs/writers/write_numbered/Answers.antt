use Rattle.std.proofs.Common.{◌≡◌, ℕ, List, Ok}
use Rattle.message.specs.Numbered.{message, read_numbered}
use Rattle.wire.specs.Octets.{numbered_octets}
use Rattle.wire.specs.Sound.{numbered_fault}
use Rattle.trip.specs.Back.{located}
use Rattle.trip.specs.Own.{Octets, OwnNumbered}
use Rattle.trip.proofs.Messages.{numbered_back}
use Rattle.trip.proofs.MessagesAgain.{numbered_again}
use Rattle.trip.proofs.Wrote.{wrote, sixteen}
use Rattle.trip.proofs.writers.write_numbered.Goals as goal

pub returns : goal.returns
returns g c =
    record {
      value = c.write_numbered.ensures.value;
      after = c.write_numbered.ensures.after;
      back =
          wrote (λ bs. read_numbered g.V.Entry.reads g.V.Entry.keyed bs ≡ Ok (located g.V.Trip.moved g.V.Data.octets (message c.args.message.now))) (numbered_fault g.V.Written.sound g.V.Entry.keyed (message c.args.message.now)) (numbered_octets g.V.Data.octets (message c.args.message.now)) _ _ _
          (numbered_back g.V.Entry.reads g.V.Entry.keyed g.V.Trip.moved g.V.Data.octets g.V.Written.sound (message c.args.message.now) g.met.V.Trip.back g.met.V.Trip.key_stays g.met.V.Trip.short (sixteen c.args.message.now.groups)) c.write_numbered.ensures.value c.write_numbered.ensures.after;
      again =
          wrote (λ ws. (bs : List ℕ) → Octets bs → OwnNumbered g.V.Trip.Own bs → read_numbered g.V.Entry.reads g.V.Entry.keyed bs ≡ Ok (message c.args.message.now) → ws ≡ bs) (numbered_fault g.V.Written.sound g.V.Entry.keyed (message c.args.message.now)) (numbered_octets g.V.Data.octets (message c.args.message.now)) _ _ _
          (λ sound bs ok own e. numbered_again g.V.Entry.reads g.V.Entry.keyed g.V.Data.octets g.met.V.Trip.again ok own (message c.args.message.now) e) c.write_numbered.ensures.value c.write_numbered.ensures.after;
    }
