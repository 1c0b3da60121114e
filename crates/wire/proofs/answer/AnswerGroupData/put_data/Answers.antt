use Rattle.std.proofs.Common.{◌++◌, sym, ap}
use Rattle.avp.specs.declared.name.Name.TheVariants.{UsageMonitoringLevel}
use Rattle.draft.specs.Octets.{key_avp, number_avp}
use Rattle.draft.proofs.Puts.{put_same, put_then}
use Rattle.wire.specs.Octets.{level_avp, granted_data, units_avp}
use Rattle.wire.proofs.answer.AnswerGroupData.put_data.Goals as goal

pub returns-in-Some : goal.returns-in-Some
unfolding units_avp
returns-in-Some c =
    put_same (ap (λ o. key_avp c.args.self.now.key ++ (level_avp c.args.self.now.level ++ granted_data o)) (sym c.in-Some.is))
    (put_then c.in_ok-put_key.ensures (put_then (put_same (ap (number_avp UsageMonitoringLevel) c.into.ensures) c.in_ok-put_number.ensures) c.put_avp.ensures))
