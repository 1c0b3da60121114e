-- What the meter holds, and how a call is refused.
use Rattle.std.specs.Prelude.{ℕ, Bool, false, List, replicate, None, Err, Option, Result}
use Rattle.fault.specs.declared.Code.{Code}
use Rattle.fault.specs.declared.Fault.{Fault}
use Rattle.fault.specs.Numbers.{call_fault}
use Rattle.units.specs.declared.values.RequestType.{RequestType}
use Rattle.usage.specs.declared.values.Rule.{Rule}
use Rattle.usage.specs.Slots.{Slot, empty}

pub record Meter : Type 0 where
  -- sixty-four, of which some hold a rule
  pub rules : List (Option Rule)
  -- sixteen
  pub slots : List Slot
  -- the number of the latest report, 0 before the first
  pub latest : ℕ
  -- the type of the unanswered report, if there is one
  pub unanswered : Option RequestType
  -- terminate came
  pub terminated : Bool
  -- the report after terminate was answered
  pub ended : Bool

abbrev pub new_meter : Meter
new_meter = record { rules = replicate 64 None; slots = replicate 16 empty; latest = 0; unanswered = None; terminated = false; ended = false }

abbrev pub with_slots : Meter → List Slot → Meter
with_slots m ss = record { rules = m.rules; slots = ss; latest = m.latest; unanswered = m.unanswered; terminated = m.terminated; ended = m.ended }

-- a refusal leaves everything as it was
abbrev pub refused : {S X : Type 0} → S → Code → S × Result X Fault
refused s c = (s, Err (call_fault c 0))
