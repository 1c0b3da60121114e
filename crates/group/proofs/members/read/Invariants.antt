use Rattle.std.proofs.Common.{◌≡◌, length}
use Rattle.avp.specs.Header.{span}
use Rattle.group.specs.Members.{member}
use Rattle.group.specs.Walk.{avps, gather}
use Rattle.group.proofs.members.read.Given as goal

-- what is gathered from the rest is what is gathered from all
abbrev pub invariant-loop-rest : goal.invariant-loop-rest
invariant-loop-rest g l =
    gather (member g.G.Group.rules) (g.G.Group.sofar l.initial.group) (avps (span l.part)) ≡ gather (member g.G.Group.rules) (g.G.Group.sofar l.group) (avps (span l.rest))

abbrev pub decreases-loop-rest : goal.decreases-loop-rest
decreases-loop-rest g l = length (span l.rest).octets
