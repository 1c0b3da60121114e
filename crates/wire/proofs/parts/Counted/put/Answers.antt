use Rattle.std.proofs.Common.{ap}
use Rattle.avp.specs.declared.name.Name.TheVariants.{UsageMonitoringLevel}
use Rattle.draft.specs.Octets.{number_avp}
use Rattle.draft.proofs.Puts.{put_same, put_then, put_breaks}
use Rattle.wire.specs.Octets.{units_avp}
use Rattle.wire.proofs.parts.Counted.put.Goals as goal

pub returns-in_err-put_avp : goal.returns-in_err-put_avp
unfolding units_avp
returns-in_err-put_avp c = put_then c.in_ok-put_key.ensures (put_breaks _ _ c.from_residual-in_err-put_avp.ensures.1 c.in_err-put_avp.ensures)

pub returns : goal.returns
unfolding units_avp
returns c = put_then c.in_ok-put_key.ensures (put_then c.in_ok-put_avp.ensures (put_same (ap (number_avp UsageMonitoringLevel) c.into.ensures) c.put_number.ensures))
