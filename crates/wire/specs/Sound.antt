-- The values that a sound message can hold, and what a writer does with any other.
use Rattle.std.specs.Prelude.{ℕ, Bool, true, false, cond, ◌&&◌, List, [], ◌∷◌, ◌++◌, length, drop, replicate, Some, None, Ok, Err, Option, Result, nat_le}
use Rattle.std.specs.List.{list_all}
use Rattle.fault.specs.declared.Code.TheVariants.{Range, RepeatedKey, Short}
use Rattle.fault.specs.declared.Fault.{Fault}
use Rattle.fault.specs.Numbers.{call_fault}
use Rattle.avp.specs.declared.name.Name.TheVariants.{CcRequestNumber, CcInputOctets, CcOutputOctets, CcTotalOctets}
use Rattle.avp.specs.Fields.{allows}
use Rattle.key.specs.declared.key.Key.{Key}
use Rattle.key.specs.Keys.{key_of, octets_of, same_key}
use Rattle.units.specs.declared.values.Units.{Units}
use Rattle.units.specs.declared.values.Units.TheVariants.{Total, Uplink, Downlink, Both}
use Rattle.units.specs.Limits.{limits_of}
use Rattle.information.specs.declared.values.ReportGroup.{ReportGroup}
use Rattle.information.specs.declared.values.AnswerGroup.{AnswerGroup}
use Rattle.information.specs.declared.values.CommandGroup.{CommandGroup}
use Rattle.information.specs.declared.values.Order.{Order}
use Rattle.information.specs.declared.values.Order.TheVariants.{Grant, Disable, Request}
use Rattle.message.specs.Keyed.{has_key, report_key, answer_key, command_key}
use Rattle.message.specs.Numbered.{Message}

abbrev pub key_is : Option Key → Key → Bool
key_is None k = false
key_is (Some j) k = same_key j k

-- a key of 1 to 16 octets
abbrev pub sound_key : Key → Bool
sound_key k = key_is (key_of (octets_of k)) k

abbrev pub sound_units : Bool → Units → Bool
sound_units granted (Total t) = allows (limits_of granted CcTotalOctets) t
sound_units granted (Uplink u) = allows (limits_of granted CcInputOctets) u
sound_units granted (Downlink d) = allows (limits_of granted CcOutputOctets) d
sound_units granted (Both u d) = allows (limits_of granted CcInputOctets) u && allows (limits_of granted CcOutputOctets) d

abbrev pub sound_granted : Option Units → Bool
sound_granted None = true
sound_granted (Some u) = sound_units true u

abbrev pub sound_report : ReportGroup → Bool
sound_report g = sound_key g.key && sound_units false g.used

abbrev pub sound_answer : AnswerGroup → Bool
sound_answer g = sound_key g.key && sound_granted g.granted

abbrev pub sound_order : Order → Bool
sound_order (Grant k l u) = sound_key k && sound_units true u
sound_order (Disable k) = sound_key k
sound_order (Request None) = true
sound_order (Request (Some k)) = sound_key k

abbrev pub sound_command : CommandGroup → Bool
sound_command g = sound_order g.order

-- no group has the key of one before it
abbrev pub distinct_after : {V : Type 0} → (V → Option Key) → List V → List V → Bool
distinct_after keyed before [] = true
distinct_after keyed before (v ∷ vs) = cond (has_key keyed (keyed v) before) false (distinct_after keyed (before ++ v ∷ []) vs)

abbrev pub distinct : {V : Type 0} → (V → Option Key) → List V → Bool
distinct keyed vs = distinct_after keyed [] vs

-- the fault of a value, if it has one: a number or a key out of range, then a repeated key
abbrev pub fault_of : Bool → Bool → Option Fault
fault_of in_range apart = cond in_range (cond apart None (Some (call_fault RepeatedKey 0))) (Some (call_fault Range 0))

abbrev pub checked : Option Fault → Result (Unit {0}) Fault
checked None = Ok tt
checked (Some f) = Err f

abbrev pub numbered_fault : {V : Type 0} → (V → Bool) → (V → Option Key) → Message V → Option Fault
numbered_fault sound keyed m = fault_of (allows (limits_of false CcRequestNumber) m.number && list_all sound m.groups) (distinct keyed m.groups)

abbrev pub report_fault : Message ReportGroup → Option Fault
report_fault = numbered_fault sound_report report_key

abbrev pub answer_fault : Message AnswerGroup → Option Fault
answer_fault = numbered_fault sound_answer answer_key

abbrev pub command_fault : List CommandGroup → Option Fault
command_fault vs = fault_of (list_all sound_command vs) (distinct command_key vs)

-- what a writer answers, and what it leaves in the lent octets: a refused value leaves them as they were; octets that
-- are too few are all 0 afterwards; else they begin with the message, and the others stay
abbrev pub outcome : Option Fault → List ℕ → ℕ → Result ℕ Fault
outcome (Some f) bs size = Err f
outcome None bs size = cond (nat_le (length bs) size) (Ok (length bs)) (Err (call_fault Short 0))

abbrev pub afterwards : Option Fault → List ℕ → List ℕ → List ℕ
afterwards (Some f) bs was = was
afterwards None bs was = cond (nat_le (length bs) (length was)) (bs ++ drop (length bs) was) (replicate (length was) 0)
