-- No group has too many octets.
use Rattle.std.proofs.Common.{◌≡◌, ◌<◌, ◌≤◌, true, false, length, Some, None, Option, arith}
use Rattle.std.proofs.lemmas.Bool.{and_parts}
use Rattle.key.specs.declared.key.Key.{Key}
use Rattle.units.specs.declared.values.Units.{Units}
use Rattle.information.specs.declared.values.ReportGroup.{ReportGroup}
use Rattle.information.specs.declared.values.AnswerGroup.{AnswerGroup}
use Rattle.information.specs.declared.values.CommandGroup.{CommandGroup}
use Rattle.information.specs.declared.values.Order.{Order}
use Rattle.information.specs.declared.values.Order.TheVariants.{Grant, Disable, Request}
use Rattle.draft.specs.Octets.{key_avp}
use Rattle.wire.specs.Octets.{report_data, answer_data, order_data, granted_data, command_data}
use Rattle.wire.specs.Sound.{sound_key, sound_report, sound_answer, sound_order, sound_units, sound_granted, sound_command}
use Rattle.wire.specs.Lengths.{key_length, report_length, answer_length, granted_length, grant_length, disable_length, request_length}
use Rattle.trip.specs.Laws.Units.{units_bound}
use Rattle.trip.specs.Laws.Keys.{key_bound}

key_small : (k : Key) → sound_key k ≡ true → length (key_avp k) ≤ 28
key_small k h = omega (arith, key_length k, key_bound k h)

pub report_short : (g : ReportGroup) → sound_report g ≡ true → length (report_data g) < 65536
report_short g h = omega (arith, report_length g, key_small g.key (and_parts (sound_key g.key) (sound_units false g.used) h).0, units_bound g.used)

granted_small : (o : Option Units) → length (granted_data o) ≤ 40
granted_small None = omega arith
granted_small (Some u) = omega (arith, granted_length u, units_bound u)

pub answer_short : (g : AnswerGroup) → sound_answer g ≡ true → length (answer_data g) < 65536
answer_short g h = omega (arith, answer_length g, key_small g.key (and_parts (sound_key g.key) (sound_granted g.granted) h).0, granted_small g.granted)

order_short : (o : Order) → sound_order o ≡ true → length (order_data o) < 65536
order_short (Grant k l u) h = omega (arith, grant_length k l u, key_small k (and_parts (sound_key k) (sound_units true u) h).0, units_bound u)
order_short (Disable k) h = omega (arith, disable_length k, key_small k h)
order_short (Request None) h = omega (arith, request_length None)
order_short (Request (Some k)) h = omega (arith, request_length (Some k), key_small k h)

pub command_short : (g : CommandGroup) → sound_command g ≡ true → length (command_data g) < 65536
command_short g h = order_short g.order h
