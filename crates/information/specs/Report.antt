-- A group of a report: Monitoring-Key, Used-Service-Unit and Usage-Monitoring-Level.
use Rattle.std.specs.Prelude.{ℕ, false, List, [], ◌∷◌, Result}
use Rattle.std.specs.Option.{unwrap_or}
use Rattle.fault.specs.declared.Fault.{Fault}
use Rattle.avp.specs.declared.name.Name.{Name}
use Rattle.avp.specs.declared.name.Name.TheVariants.{MonitoringKey, UsedServiceUnit, UsageMonitoringLevel}
use Rattle.avp.specs.Header.{Span}
use Rattle.group.specs.Members.{Rules, read_group}
use Rattle.key.specs.Keys.{blank_key}
use Rattle.units.specs.declared.values.Level.TheVariants.{Session}
use Rattle.units.specs.declared.values.Units.TheVariants.{Total}
use Rattle.units.specs.Limits.{limits_of}
use Rattle.information.specs.declared.members.Members.{Members}
use Rattle.information.specs.declared.values.ReportGroup.{ReportGroup}
use Rattle.information.specs.Members.{begun, stands, puts}

abbrev pub shapes : List (List Name)
shapes = (MonitoringKey ∷ UsedServiceUnit ∷ UsageMonitoringLevel ∷ []) ∷ []

abbrev pub rules : Rules Members ReportGroup
rules = record {
  shapes = λ m. shapes;
  holds = stands false;
  limits = λ m. limits_of false;
  puts = λ m n v at. puts false m n v;
  whole = λ m. record { place = m.place; key = unwrap_or m.key blank_key; level = unwrap_or m.level Session; used = unwrap_or m.units (Total 0) };
}

-- the data of the Usage-Monitoring-Information that starts at a place of a report
unfoldable pub read_report_group : ℕ → Span → Result ReportGroup Fault
read_report_group at s = read_group rules (begun at) s
