-- What the data of a known AVP hold.
use Rattle.std.specs.Prelude.{ℕ, Bool, cond, ◌&&◌, List, length, Ok, Err, Result, ◌==◌, nat_le}
use Rattle.fault.specs.declared.Code.TheVariants.{Width, Range}
use Rattle.fault.specs.declared.Fault.{Fault}
use Rattle.fault.specs.Numbers.{message_fault}
use Rattle.avp.specs.declared.name.Name.{Name}
use Rattle.avp.specs.declared.name.Name.TheVariants.{CcRequestNumber, CcRequestType, CcInputOctets, CcOutputOctets, CcTotalOctets, GrantedServiceUnit, UsedServiceUnit, MonitoringKey, UsageMonitoringInformation, UsageMonitoringLevel, UsageMonitoringReport, UsageMonitoringSupport}
use Rattle.avp.specs.declared.field.Limits.{Limits}
use Rattle.avp.specs.declared.field.Field.{Field}
use Rattle.avp.specs.declared.field.Field.TheVariants as code
use Rattle.avp.specs.Octets.{u32_at, u64_at}
use Rattle.avp.specs.Header.{Span, Parsed, span}

-- a field: a number, a key's octets, or a group's octets and their place
pub data Value : Type 0 where
  Number : ℕ → Value
  Key : List ℕ → Value
  Group : Span → Value

-- the format of each AVP's data
pub data Format : Type 0 where
  Unsigned32 : Format
  Unsigned64 : Format
  KeyOctets : Format
  Grouped : Format

abbrev pub format_of : Name → Format
format_of CcInputOctets = Unsigned64
format_of CcOutputOctets = Unsigned64
format_of CcRequestNumber = Unsigned32
format_of CcRequestType = Unsigned32
format_of CcTotalOctets = Unsigned64
format_of GrantedServiceUnit = Grouped
format_of UsedServiceUnit = Grouped
format_of MonitoringKey = KeyOctets
format_of UsageMonitoringInformation = Grouped
format_of UsageMonitoringLevel = Unsigned32
format_of UsageMonitoringReport = Unsigned32
format_of UsageMonitoringSupport = Unsigned32

-- whether a number lies within limits
abbrev pub allows : Limits → ℕ → Bool
allows l n = nat_le l.least n && nat_le n l.most

abbrev pub ranged : ℕ → Limits → Parsed → Result Value Fault
ranged n l a = cond (allows l n) (Ok (Number n)) (Err (message_fault Range a.place))

-- a number of so many octets: another width is refused, then another value
abbrev pub number_in : ℕ → ℕ → Limits → Parsed → Result Value Fault
number_in width n l a = cond (length a.body.octets == width) (ranged n l a) (Err (message_fault Width a.place))

-- a key has 1 to 16 octets
abbrev pub key_in : Parsed → Result Value Fault
key_in a = cond (nat_le 1 (length a.body.octets) && nat_le (length a.body.octets) 16) (Ok (Key a.body.octets)) (Err (message_fault Width a.place))

abbrev pub value_by : Format → Limits → Parsed → Result Value Fault
value_by Unsigned32 l a = number_in 4 (u32_at a.body.octets 0) l a
value_by Unsigned64 l a = number_in 8 (u64_at a.body.octets 0) l a
value_by KeyOctets l a = key_in a
value_by Grouped l a = Ok (Group a.body)

-- the field of a known AVP whose number, if it is one, has to lie within limits
abbrev pub value_of : Name → Limits → Parsed → Result Value Fault
value_of n = value_by (format_of n)

-- the code's values as those above
abbrev pub value : Field → Value
value (code.Number n) = Number n
value (code.Key k) = Key k.now
value (code.Group g) = Group (span g)

abbrev pub value_of_result : Result Field Fault → Result Value Fault
value_of_result (Ok f) = Ok (value f)
value_of_result (Err e) = Err e
