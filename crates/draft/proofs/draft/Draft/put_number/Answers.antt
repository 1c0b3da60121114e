use Rattle.std.proofs.Common.{rules}
use Rattle.draft.specs.Octets.{number_avp}
use Rattle.draft.proofs.draft.Draft.put_number.Goals as goal

pub returns : goal.returns
unfolding number_avp
returns c = search rules
