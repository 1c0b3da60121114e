use Rattle.draft.proofs.Puts.{put_same, put_then, put_breaks}
use Rattle.wire.specs.Octets.{group_avp}
use Rattle.wire.proofs.Each.{each_more, each_split, each_all}
use Rattle.wire.proofs.written.put_all.Goals as goal

pub returns-in_err-put_avp : goal.returns-in_err-put_avp
unfolding group_avp
returns-in_err-put_avp g c =
    put_same (each_split (λ v. group_avp (g.V.Data.octets v)) c.args.groups.now c.loop-group.group-index c.group-item.result c.loop-group-test.true c.group-item.is)
    (put_then c.loop-group.invariant (put_breaks _ _ c.from_residual.ensures.1 c.in_err-put_avp.ensures))

pub loop-group-preserved : goal.loop-group-preserved
unfolding group_avp
loop-group-preserved g c =
    put_same (each_more (λ v. group_avp (g.V.Data.octets v)) c.args.groups.now c.loop-group.group-index c.group-item.result c.loop-group-test.true c.group-item.is)
    (put_then c.loop-group.invariant c.in_ok-put_avp.ensures)

pub returns : goal.returns
returns g c = put_same (each_all (λ v. group_avp (g.V.Data.octets v)) c.args.groups.now c.loop-group.group-index c.loop-group-test.false) c.loop-group.invariant
