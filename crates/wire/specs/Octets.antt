-- The octets of each message: its AVPs in their fixed order.
use Rattle.std.specs.Prelude.{ℕ, List, [], ◌++◌, Some, None, Option, flat_map}
use Rattle.avp.specs.declared.name.Name.{Name}
use Rattle.avp.specs.declared.name.Name.TheVariants.{CcRequestNumber, CcRequestType, CcInputOctets, CcOutputOctets, CcTotalOctets, GrantedServiceUnit, UsedServiceUnit, UsageMonitoringInformation, UsageMonitoringLevel, UsageMonitoringReport, UsageMonitoringSupport}
use Rattle.key.specs.declared.key.Key.{Key}
use Rattle.units.specs.declared.values.Level.{Level}
use Rattle.units.specs.declared.values.RequestType.{RequestType}
use Rattle.units.specs.declared.values.Units.{Units}
use Rattle.units.specs.declared.values.Units.TheVariants.{Total, Uplink, Downlink, Both}
use Rattle.information.specs.declared.values.ReportGroup.{ReportGroup}
use Rattle.information.specs.declared.values.AnswerGroup.{AnswerGroup}
use Rattle.information.specs.declared.values.CommandGroup.{CommandGroup}
use Rattle.information.specs.declared.values.Order.{Order}
use Rattle.information.specs.declared.values.Order.TheVariants.{Grant, Disable, Request}
use Rattle.message.specs.Numbered.{Message}
use Rattle.units.specs.Limits.{level_number, type_number}
use Rattle.draft.specs.Octets.{be64, key_avp, number_avp, written}
use Rattle.wire.specs.declared.writing.Start.{Start}

-- the data of a unit group; of both directions the uplink comes first
abbrev pub units_data : Units → List ℕ
units_data (Total t) = written CcTotalOctets (be64 t)
units_data (Uplink u) = written CcInputOctets (be64 u)
units_data (Downlink d) = written CcOutputOctets (be64 d)
units_data (Both u d) = written CcInputOctets (be64 u) ++ written CcOutputOctets (be64 d)

unfoldable pub units_avp : Name → Units → List ℕ
units_avp n u = written n (units_data u)

abbrev pub level_avp : Level → List ℕ
level_avp l = number_avp UsageMonitoringLevel (level_number l)

-- a key, its units and its level
abbrev pub counted_data : Name → Key → Units → Level → List ℕ
counted_data n k u l = key_avp k ++ (units_avp n u ++ level_avp l)

-- the data of a Usage-Monitoring-Information
abbrev pub report_data : ReportGroup → List ℕ
report_data g = counted_data UsedServiceUnit g.key g.used g.level

abbrev pub granted_data : Option Units → List ℕ
granted_data None = []
granted_data (Some u) = units_avp GrantedServiceUnit u

-- the level, and the thresholds if there are any
abbrev pub terms_data : Level → Option Units → List ℕ
terms_data l granted = level_avp l ++ granted_data granted

abbrev pub answer_data : AnswerGroup → List ℕ
answer_data g = key_avp g.key ++ terms_data g.level g.granted

abbrev pub order_data : Order → List ℕ
order_data (Grant k l u) = counted_data GrantedServiceUnit k u l
order_data (Disable k) = key_avp k ++ number_avp UsageMonitoringSupport 0
order_data (Request None) = number_avp UsageMonitoringReport 0
order_data (Request (Some k)) = number_avp UsageMonitoringReport 0 ++ key_avp k

abbrev pub command_data : CommandGroup → List ℕ
command_data g = order_data g.order

unfoldable pub group_avp : List ℕ → List ℕ
group_avp ds = written UsageMonitoringInformation ds

-- the number and the type of a report or an answer
abbrev pub start_of : ℕ → RequestType → List ℕ
start_of number type = number_avp CcRequestNumber number ++ number_avp CcRequestType (type_number type)

abbrev pub opening : Option Start → List ℕ
opening None = []
opening (Some s) = start_of s.number s.request_type

-- a report or an answer whose groups have these data
abbrev pub numbered_octets : {V : Type 0} → (V → List ℕ) → Message V → List ℕ
numbered_octets f m = start_of m.number m.type ++ flat_map (λ v. group_avp (f v)) m.groups

abbrev pub report_octets : Message ReportGroup → List ℕ
report_octets = numbered_octets report_data

abbrev pub answer_octets : Message AnswerGroup → List ℕ
answer_octets = numbered_octets answer_data

abbrev pub command_octets : List CommandGroup → List ℕ
command_octets vs = flat_map (λ v. group_avp (command_data v)) vs
