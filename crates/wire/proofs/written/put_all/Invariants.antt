use Rattle.std.proofs.Common.{take, Ok, flat_map}
use Rattle.draft.specs.Drafts.{Put}
use Rattle.wire.specs.Octets.{group_avp}
use Rattle.wire.proofs.written.put_all.Given as goal

abbrev pub invariant-loop-group : goal.invariant-loop-group
invariant-loop-group g l = Put l.initial.draft (flat_map (λ v. group_avp (g.V.Data.octets v)) (take l.group-index l.groups)) (Ok tt) l.draft
