-- A group of a command: a grant (Monitoring-Key, Granted-Service-Unit and Usage-Monitoring-Level), a disable
-- (Monitoring-Key and Usage-Monitoring-Support) or a request (Usage-Monitoring-Report and perhaps Monitoring-Key).
use Rattle.std.specs.Prelude.{ℕ, Bool, true, false, cond, List, [], ◌∷◌, Ok, Result}
use Rattle.std.specs.Option.{unwrap_or}
use Rattle.fault.specs.declared.Fault.{Fault}
use Rattle.avp.specs.declared.name.Name.{Name}
use Rattle.avp.specs.declared.name.Name.TheVariants.{MonitoringKey, GrantedServiceUnit, UsageMonitoringLevel, UsageMonitoringReport, UsageMonitoringSupport}
use Rattle.avp.specs.Header.{Span}
use Rattle.avp.specs.Names.{is}
use Rattle.avp.specs.Fields as field
use Rattle.group.specs.Walk.{then}
use Rattle.group.specs.Members.{Rules, read_group}
use Rattle.key.specs.Keys.{blank_key}
use Rattle.units.specs.declared.values.Level.TheVariants.{Session}
use Rattle.units.specs.declared.values.Units.TheVariants.{Total}
use Rattle.units.specs.Limits.{limits_of}
use Rattle.information.specs.declared.members.Members.{Members}
use Rattle.information.specs.declared.values.CommandGroup.{CommandGroup}
use Rattle.information.specs.declared.values.Order.{Order}
use Rattle.information.specs.declared.values.Order.TheVariants.{Grant, Disable, Request}
use Rattle.information.specs.declared.values.CommandGroupSoFar.{CommandGroupSoFar}
use Rattle.information.specs.Members as members

abbrev pub shapes : List (List Name)
shapes =
    (MonitoringKey ∷ GrantedServiceUnit ∷ UsageMonitoringLevel ∷ [])
    ∷ (MonitoringKey ∷ UsageMonitoringSupport ∷ [])
    ∷ (UsageMonitoringReport ∷ [])
    ∷ (UsageMonitoringReport ∷ MonitoringKey ∷ [])
    ∷ []

-- a group that starts at a place, with no members so far
abbrev pub begun : ℕ → CommandGroupSoFar
begun at = record { members = members.begun at; report = false; support = false }

abbrev pub holds : CommandGroupSoFar → Name → Bool
holds g n =
    cond (is n UsageMonitoringReport) g.report
    (cond (is n UsageMonitoringSupport) g.support
    (members.stands true g.members n))

abbrev pub with_members : CommandGroupSoFar → Result Members Fault → Result CommandGroupSoFar Fault
with_members g ms = then ms (λ m. Ok (record { members = m; report = g.report; support = g.support }))

abbrev pub puts : CommandGroupSoFar → Name → field.Value → ℕ → Result CommandGroupSoFar Fault
puts g n (field.Number x) at =
    cond (is n UsageMonitoringReport) (Ok (record { members = g.members; report = true; support = g.support }))
    (cond (is n UsageMonitoringSupport) (Ok (record { members = g.members; report = g.report; support = true }))
    (with_members g (members.puts true g.members n (field.Number x))))
puts g n (field.Key ks) at = with_members g (members.puts true g.members n (field.Key ks))
puts g n (field.Group s) at = with_members g (members.puts true g.members n (field.Group s))

-- the kind of a whole group
abbrev pub order_of : CommandGroupSoFar → Order
order_of g =
    cond g.report (Request g.members.key)
    (cond g.support (Disable (unwrap_or g.members.key blank_key))
    (Grant (unwrap_or g.members.key blank_key) (unwrap_or g.members.level Session) (unwrap_or g.members.units (Total 0))))

abbrev pub rules : Rules CommandGroupSoFar CommandGroup
rules = record {
  shapes = λ g. shapes;
  holds = holds;
  limits = λ g. limits_of true;
  puts = puts;
  whole = λ g. record { place = g.members.place; order = order_of g };
}

-- the data of the Usage-Monitoring-Information that starts at a place of a command
unfoldable pub read_command_group : ℕ → Span → Result CommandGroup Fault
read_command_group at s = read_group rules (begun at) s
