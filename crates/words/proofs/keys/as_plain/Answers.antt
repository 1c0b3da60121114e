use Rattle.std.proofs.Common.{sym}
use Rattle.words.proofs.Plain.{plain_text}
use Rattle.words.proofs.keys.as_plain.Goals as goal

pub returns : goal.returns
returns c = plain_text c.args.octets.now _ _ (sym c.if-not-is_plain.ensures) c.from_utf8.ensures.cases c.ok.ensures.value
