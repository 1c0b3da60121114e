-- A group of an answer: Monitoring-Key, Usage-Monitoring-Level and perhaps Granted-Service-Unit.
use Rattle.std.specs.Prelude.{ℕ, true, false, List, [], ◌∷◌, Result}
use Rattle.std.specs.Option.{unwrap_or}
use Rattle.fault.specs.declared.Fault.{Fault}
use Rattle.avp.specs.declared.name.Name.{Name}
use Rattle.avp.specs.declared.name.Name.TheVariants.{MonitoringKey, GrantedServiceUnit, UsageMonitoringLevel}
use Rattle.avp.specs.Header.{Span}
use Rattle.group.specs.Members.{Rules, read_group}
use Rattle.key.specs.Keys.{blank_key}
use Rattle.units.specs.declared.values.Level.TheVariants.{Session}
use Rattle.units.specs.Limits.{limits_of}
use Rattle.information.specs.declared.members.Members.{Members}
use Rattle.information.specs.declared.values.AnswerGroup.{AnswerGroup}
use Rattle.information.specs.Members.{begun, stands, puts}

abbrev pub shapes : List (List Name)
shapes = (MonitoringKey ∷ UsageMonitoringLevel ∷ []) ∷ (MonitoringKey ∷ UsageMonitoringLevel ∷ GrantedServiceUnit ∷ []) ∷ []

abbrev pub rules : Rules Members AnswerGroup
rules = record {
  shapes = λ m. shapes;
  holds = stands true;
  limits = λ m. limits_of false;
  puts = λ m n v at. puts true m n v;
  whole = λ m. record { place = m.place; key = unwrap_or m.key blank_key; level = unwrap_or m.level Session; granted = m.units };
}

-- the data of the Usage-Monitoring-Information that starts at a place of an answer
unfoldable pub read_answer_group : ℕ → Span → Result AnswerGroup Fault
read_answer_group at s = read_group rules (begun at) s
