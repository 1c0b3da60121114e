use Rattle.text_trip.proofs.Whole.{message_back}
use Rattle.text_trip.proofs.printed.Goals as goal

pub returns-clause-reads_back : goal.returns-clause-reads_back
returns-clause-reads_back c = message_back c.args.message.now
