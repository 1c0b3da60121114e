use Rattle.std.proofs.Common.{rules}
use Rattle.draft.specs.Octets.{key_avp}
use Rattle.draft.proofs.draft.Draft.put_key.Goals as goal

pub returns : goal.returns
unfolding key_avp
returns c = search rules
