use Rattle.std.proofs.Common.{◌∙◌}
use Rattle.group.proofs.Meanings.{meaning_same}
use Rattle.units.specs.Units.{read_units}
use Rattle.units.proofs.gathering.read_units.Goals as goal

pub returns : goal.returns
unfolding read_units
returns c = meaning_same c.read.result ∙ c.read.ensures
