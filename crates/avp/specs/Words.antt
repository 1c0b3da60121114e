-- The name of each AVP that is known, as its documents write it.
use Rattle.std.specs.Prelude.{ℕ, List, codes}
use Rattle.avp.specs.declared.name.Name.{Name}
use Rattle.avp.specs.declared.name.Name.TheVariants.{CcRequestNumber, CcRequestType, CcInputOctets, CcOutputOctets, CcTotalOctets, GrantedServiceUnit, UsedServiceUnit, MonitoringKey, UsageMonitoringInformation, UsageMonitoringLevel, UsageMonitoringReport, UsageMonitoringSupport}

abbrev pub name_word : Name → List ℕ
name_word CcInputOctets = codes "CC-Input-Octets"
name_word CcOutputOctets = codes "CC-Output-Octets"
name_word CcRequestNumber = codes "CC-Request-Number"
name_word CcRequestType = codes "CC-Request-Type"
name_word CcTotalOctets = codes "CC-Total-Octets"
name_word GrantedServiceUnit = codes "Granted-Service-Unit"
name_word UsedServiceUnit = codes "Used-Service-Unit"
name_word MonitoringKey = codes "Monitoring-Key"
name_word UsageMonitoringInformation = codes "Usage-Monitoring-Information"
name_word UsageMonitoringLevel = codes "Usage-Monitoring-Level"
name_word UsageMonitoringReport = codes "Usage-Monitoring-Report"
name_word UsageMonitoringSupport = codes "Usage-Monitoring-Support"
