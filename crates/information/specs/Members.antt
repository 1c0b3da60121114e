-- The members that a group of any message may have: Monitoring-Key, Usage-Monitoring-Level and a unit group, which is a
-- Granted-Service-Unit or, in a report, a Used-Service-Unit.
use Rattle.std.specs.Prelude.{ℕ, Bool, false, cond, not, ◌&&◌, ◌||◌, is_some, Some, None, Ok, Result}
use Rattle.fault.specs.declared.Fault.{Fault}
use Rattle.avp.specs.declared.name.Name.{Name}
use Rattle.avp.specs.declared.name.Name.TheVariants.{MonitoringKey, GrantedServiceUnit, UsedServiceUnit, UsageMonitoringLevel}
use Rattle.avp.specs.Names.{is}
use Rattle.avp.specs.Fields as field
use Rattle.group.specs.Walk.{then}
use Rattle.key.specs.Keys.{key_of}
use Rattle.units.specs.Limits.{level_of}
use Rattle.units.specs.Units.{read_units}
use Rattle.information.specs.declared.members.Members.{Members}

abbrev pub unit_group : Bool → Name
unit_group granted = cond granted GrantedServiceUnit UsedServiceUnit

-- a group that starts at a place, with no members so far
abbrev pub begun : ℕ → Members
begun at = record { place = at; key = None; level = None; units = None }

-- whether a member stands there already
abbrev pub stands : Bool → Members → Name → Bool
stands granted m n =
    cond (is n MonitoringKey) (is_some m.key)
    (cond (is n (unit_group granted)) (is_some m.units)
    (cond (is n UsageMonitoringLevel) (is_some m.level)
    false))

-- whether an AVP is one of these members
abbrev pub belongs : Bool → Name → Bool
belongs granted n = is n MonitoringKey || (is n UsageMonitoringLevel || is n (unit_group granted))

-- whether one of these members is not there yet
abbrev pub lacks : Bool → Members → Name → Bool
lacks granted m n = belongs granted n && not (stands granted m n)

-- one member more
abbrev pub puts : Bool → Members → Name → field.Value → Result Members Fault
puts granted m n (field.Number x) = cond (is n UsageMonitoringLevel) (Ok (record { place = m.place; key = m.key; level = Some (level_of x); units = m.units })) (Ok m)
puts granted m n (field.Key ks) = cond (is n MonitoringKey) (Ok (record { place = m.place; key = key_of ks; level = m.level; units = m.units })) (Ok m)
puts granted m n (field.Group s) = cond (is n (unit_group granted)) (then (read_units granted s) (λ u. Ok (record { place = m.place; key = m.key; level = m.level; units = Some u }))) (Ok m)
