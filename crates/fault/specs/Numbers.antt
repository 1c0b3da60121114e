-- The number of each code, and the layer of a fault.
use Rattle.std.specs.Prelude.{ℕ}
use Rattle.fault.specs.declared.Code.{Code}
use Rattle.fault.specs.declared.Code.TheVariants.{Overrun, UnknownAvp, Absent, Repeated, Foreign, Width, Range, RepeatedKey, TooMany, Terminated, NotUnanswered, NumberBelow, NumberAbove, OldDebt, Rule, Full, UnknownKey, Closing, Unanswered, Differs, SessionKey, Ceiling, NothingDue, NumbersUsed, Short}
use Rattle.fault.specs.declared.Layer.{Layer}
use Rattle.fault.specs.declared.Layer.TheVariants.{Avp, Group, Call}
use Rattle.fault.specs.declared.Fault.{Fault}

-- the number that is told to people and to C
abbrev pub number_of : Code → ℕ
number_of Overrun = 1
number_of UnknownAvp = 2
number_of Absent = 3
number_of Repeated = 3
number_of Foreign = 3
number_of Width = 4
number_of Range = 5
number_of RepeatedKey = 6
number_of TooMany = 6
number_of Terminated = 7
number_of NotUnanswered = 8
number_of NumberBelow = 9
number_of NumberAbove = 10
number_of OldDebt = 11
number_of Rule = 12
number_of Full = 13
number_of UnknownKey = 14
number_of Closing = 15
number_of Unanswered = 16
number_of Differs = 17
number_of SessionKey = 18
number_of Ceiling = 19
number_of NothingDue = 20
number_of NumbersUsed = 21
number_of Short = 22

-- the layer of a fault in the octets of a message
abbrev pub layer_of : Code → Layer
layer_of Overrun = Avp
layer_of UnknownAvp = Avp
layer_of Absent = Group
layer_of Repeated = Group
layer_of Foreign = Group
layer_of Width = Avp
layer_of Range = Avp
layer_of RepeatedKey = Group
layer_of TooMany = Group
layer_of Terminated = Call
layer_of NotUnanswered = Call
layer_of NumberBelow = Call
layer_of NumberAbove = Call
layer_of OldDebt = Call
layer_of Rule = Call
layer_of Full = Call
layer_of UnknownKey = Call
layer_of Closing = Call
layer_of Unanswered = Call
layer_of Differs = Call
layer_of SessionKey = Call
layer_of Ceiling = Call
layer_of NothingDue = Call
layer_of NumbersUsed = Call
layer_of Short = Call

abbrev pub message_fault : Code → ℕ → Fault
message_fault c at = record { code = c; layer = layer_of c; place = at }

-- whatever the code, a bad argument too
abbrev pub call_fault : Code → ℕ → Fault
call_fault c at = record { code = c; layer = Call; place = at }
