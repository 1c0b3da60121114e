-- The twelve AVPs that are known, each by its code and vendor.
use Rattle.std.specs.Prelude.{ℕ, Bool, true, false, cond, ◌&&◌, List, [], ◌∷◌, Some, None, Option, ◌==◌}
use Rattle.avp.specs.declared.name.Name.{Name}
use Rattle.avp.specs.declared.name.Name.TheVariants.{CcRequestNumber, CcRequestType, CcInputOctets, CcOutputOctets, CcTotalOctets, GrantedServiceUnit, UsedServiceUnit, MonitoringKey, UsageMonitoringInformation, UsageMonitoringLevel, UsageMonitoringReport, UsageMonitoringSupport}

abbrev pub code_of : Name → ℕ
code_of CcInputOctets = 412
code_of CcOutputOctets = 414
code_of CcRequestNumber = 415
code_of CcRequestType = 416
code_of CcTotalOctets = 421
code_of GrantedServiceUnit = 431
code_of UsedServiceUnit = 446
code_of MonitoringKey = 1066
code_of UsageMonitoringInformation = 1067
code_of UsageMonitoringLevel = 1068
code_of UsageMonitoringReport = 1069
code_of UsageMonitoringSupport = 1070

-- 10415 is 3GPP's number
abbrev pub vendor_of : Name → Option ℕ
vendor_of CcInputOctets = None
vendor_of CcOutputOctets = None
vendor_of CcRequestNumber = None
vendor_of CcRequestType = None
vendor_of CcTotalOctets = None
vendor_of GrantedServiceUnit = None
vendor_of UsedServiceUnit = None
vendor_of MonitoringKey = Some 10415
vendor_of UsageMonitoringInformation = Some 10415
vendor_of UsageMonitoringLevel = Some 10415
vendor_of UsageMonitoringReport = Some 10415
vendor_of UsageMonitoringSupport = Some 10415

abbrev pub names : List Name
names = CcInputOctets ∷ CcOutputOctets ∷ CcRequestNumber ∷ CcRequestType ∷ CcTotalOctets ∷ GrantedServiceUnit ∷ UsedServiceUnit ∷ MonitoringKey ∷ UsageMonitoringInformation ∷ UsageMonitoringLevel ∷ UsageMonitoringReport ∷ UsageMonitoringSupport ∷ []

-- no two known AVPs have the same code
abbrev pub is : Name → Name → Bool
is a b = code_of a == code_of b

abbrev pub same_vendor : Option ℕ → Option ℕ → Bool
same_vendor None None = true
same_vendor None (Some _) = false
same_vendor (Some _) None = false
same_vendor (Some v) (Some w) = v == w

abbrev pub name_among : List Name → ℕ → Option ℕ → Option Name
name_among [] code vendor = None
name_among (n ∷ ns) code vendor = cond (code == code_of n && same_vendor vendor (vendor_of n)) (Some n) (name_among ns code vendor)

-- the AVP of a code and vendor: both have to be those of the table, and no vendor is another than vendor 0
abbrev pub name_of : ℕ → Option ℕ → Option Name
name_of = name_among names
