use Rattle.std.proofs.Common.{length}
use Rattle.avp.specs.Header.{span}
use Rattle.sentence.proofs.walk.find.Given as goal

abbrev pub decreases-loop-avp : goal.decreases-loop-avp
decreases-loop-avp l = length (span l.part).octets
