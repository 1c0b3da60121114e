-- The numbers that each AVP may hold.
use Rattle.std.specs.Prelude.{ℕ, Bool, cond, ◌==◌}
use Rattle.avp.specs.declared.name.Name.{Name}
use Rattle.avp.specs.declared.name.Name.TheVariants.{CcRequestNumber, CcRequestType, CcInputOctets, CcOutputOctets, CcTotalOctets, GrantedServiceUnit, UsedServiceUnit, MonitoringKey, UsageMonitoringInformation, UsageMonitoringLevel, UsageMonitoringReport, UsageMonitoringSupport}
use Rattle.avp.specs.declared.field.Limits.{Limits}
use Rattle.units.specs.declared.values.Level.{Level}
use Rattle.units.specs.declared.values.Level.TheVariants as level
use Rattle.units.specs.declared.values.RequestType.{RequestType}
use Rattle.units.specs.declared.values.RequestType.TheVariants as type

abbrev pub within : ℕ → ℕ → Limits
within a b = record { least = a; most = b }

-- octets in one direction: 40 bits, and at least 1 where they are granted
abbrev pub direction : Bool → Limits
direction granted = within (cond granted 1 0) 1099511627775

-- a used total is the sum of two directions
abbrev pub total : Bool → Limits
total granted = cond granted (within 1 1099511627775) (within 0 2199023255550)

-- what is no number has no limits of its own
abbrev pub limits_of : Bool → Name → Limits
limits_of granted CcInputOctets = direction granted
limits_of granted CcOutputOctets = direction granted
limits_of granted CcRequestNumber = within 1 1048575
limits_of granted CcRequestType = within 2 3
limits_of granted CcTotalOctets = total granted
limits_of granted GrantedServiceUnit = within 0 0
limits_of granted UsedServiceUnit = within 0 0
limits_of granted MonitoringKey = within 0 0
limits_of granted UsageMonitoringInformation = within 0 0
limits_of granted UsageMonitoringLevel = within 0 1
limits_of granted UsageMonitoringReport = within 0 0
limits_of granted UsageMonitoringSupport = within 0 0

-- 0 is the session, 1 a PCC rule
abbrev pub level_of : ℕ → Level
level_of n = cond (n == 0) level.Session level.Rule

-- 2 is an update, 3 the termination
abbrev pub type_of : ℕ → RequestType
type_of n = cond (n == 2) type.Update type.Termination

-- and back
abbrev pub level_number : Level → ℕ
level_number level.Session = 0
level_number level.Rule = 1

abbrev pub type_number : RequestType → ℕ
type_number type.Update = 2
type_number type.Termination = 3
