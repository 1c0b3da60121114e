-- The figures that the rules give, each as a statement about the definitions. Counts and thresholds are over a bank with the
-- word bank's ceiling.
use Rattle.std.specs.Prelude.{◌≡◌, ℕ, List, [], ◌∷◌, replicate, negsuc, Some, None, Ok, Err, codes, Option, slice_index, slice_set}
use Rattle.std.specs.Option.{unwrap_or}
use Rattle.fault.specs.declared.Code.TheVariants as code
use Rattle.fault.specs.Numbers.{call_fault, message_fault}
use Rattle.key.specs.declared.key.Key.{Key}
use Rattle.key.specs.Keys.{blank_key, key_of}
use Rattle.units.specs.declared.values.Level.TheVariants as level
use Rattle.units.specs.declared.values.RequestType.TheVariants.{Update}
use Rattle.units.specs.declared.values.Units.{Units}
use Rattle.units.specs.declared.values.Units.TheVariants.{Total, Uplink}
use Rattle.information.specs.declared.values.AnswerGroup.{AnswerGroup}
use Rattle.information.specs.declared.values.CommandGroup.{CommandGroup}
use Rattle.information.specs.declared.values.Order.TheVariants.{Grant, Request}
use Rattle.information.specs.declared.values.ReportGroup.{ReportGroup}
use Rattle.message.specs.Commands.{read_command}
use Rattle.message.specs.Numbered.{Message}
use Rattle.bank.specs.Calls.{added}
use Rattle.rolling_bank.specs.Rolling.{advanced, count_at, meant}
use Rattle.usage.specs.declared.values.Account.{Account}
use Rattle.usage.specs.declared.values.Place.{Place}
use Rattle.usage.specs.declared.values.Plan.{Plan}
use Rattle.usage.specs.declared.values.Plan.TheVariants.{Step, Share}
use Rattle.usage.specs.declared.values.Reason.{Reason}
use Rattle.usage.specs.declared.values.Reason.TheVariants as reason
use Rattle.usage.specs.Slots.{place_of}
use Rattle.usage.specs.Meter.{Meter, new_meter}
use Rattle.usage.specs.Rules.{install}
use Rattle.usage.specs.Orders.{commanded}
use Rattle.usage.specs.Traffic.{traffic}
use Rattle.usage.specs.Reports.{after_report}
use Rattle.usage.specs.Answers.{answered, discarded_octets}
use Rattle.usage.specs.Ledger.{Ledger, new_ledger, remaining, threshold_of}
use Rattle.usage.specs.Takes.{taking}

-- A METER WITH ONE RULE AND ITS KEY

abbrev pub ceiling : ℕ
ceiling = 1099511627775

abbrev pub octets : List ℕ
octets = codes "lib1"

abbrev pub key : Key
key = unwrap_or (key_of octets) blank_key

abbrev pub granted : Units → CommandGroup
granted u = record { place = 0; order = Grant key level.Rule u }

-- rule 1 has the key, which is granted these thresholds
abbrev pub begun : Units → Meter
begun u = (commanded ceiling (install new_meter 1 (Some octets)).0 (Ok (granted u ∷ []))).0

-- a packet of rule 1: direction 0 is uplink, 1 is downlink
abbrev pub packet : Meter → ℕ → ℕ → Meter
packet m d x = (traffic ceiling m 1 d x).0

abbrev pub reason_in : Option Place → Option (Option Reason)
reason_in None = None
reason_in (Some p) = Some p.reason

abbrev pub reason_of : Meter → Option (Option Reason)
reason_of m = reason_in (place_of key m.slots)

-- a key that was reported, and has so many octets pending since
abbrev pub pending : ℕ → Meter
pending x = packet (after_report (packet (begun (Total 100)) 0 100)) 0 x

-- the answer to that report
abbrev pub answer : Option Units → Message AnswerGroup
answer u = record { number = 1; type = Update; groups = record { place = 0; key = key; level = level.Rule; granted = u } ∷ [] }

abbrev pub afterwards : Meter → Option Units → Meter
afterwards m u = (answered ceiling m (Ok (answer u))).0

-- A LEDGER WITH ONE KEY

abbrev pub account : ℕ → Plan → Account
account n plan = record { key = key; allowance = n; plan = plan; deducted = 0 }

abbrev pub used : ℕ → ℕ → Message ReportGroup
used n x = record { number = n; type = Update; groups = record { place = 0; key = key; level = level.Rule; used = Total x } ∷ [] }

-- after two reports
abbrev pub twice : Ledger → ℕ → ℕ → Ledger
twice l x y = (taking (taking l (used 1 x)).0 (used 2 y)).0

abbrev pub terms : AnswerGroup → Option Units
terms g = g.granted

abbrev pub first_terms : List AnswerGroup → Option (Option Units)
first_terms [] = None
first_terms (g ∷ gs) = Some (terms g)

-- A ROLLING BANK

-- its words, with this counter and mark for the uplink of place 0
abbrev pub rolled : ℕ → ℕ → List ℕ
rolled counter mark = slice_set (slice_set (replicate 64 0) 0 counter) 32 mark

-- A COMMAND

-- a group with one Usage-Monitoring-Report
abbrev pub asking : ℕ → List ℕ
asking n =
    0 ∷ 0 ∷ 4 ∷ 43 ∷ 128 ∷ 0 ∷ 0 ∷ 28 ∷ 0 ∷ 0 ∷ 40 ∷ 175 ∷
    0 ∷ 0 ∷ 4 ∷ 45 ∷ 128 ∷ 0 ∷ 0 ∷ 16 ∷ 0 ∷ 0 ∷ 40 ∷ 175 ∷ 0 ∷ 0 ∷ 0 ∷ n ∷ []

-- THE FIGURES

pub data Figure : Type 0 where
  RequestAll : Figure
  RequestRefused : Figure
  TotalReached : Figure
  UplinkAlone : Figure
  Answered : Figure
  Stopped : Figure
  Overdrawn : Figure
  Shares : Figure
  RollingOver : Figure
  RollingFull : Figure

abbrev pub Shown : Figure → Type 0
-- 0000042B8000001C000028AF 0000042D80000010000028AF00000000 requests all keys
Shown RequestAll = read_command (asking 0) ≡ Ok (record { place = 0; order = Request None } ∷ [])
-- ending in 01 it is code 5 at place 12
Shown RequestRefused = read_command (asking 1) ≡ Err (message_fault code.Range 12)
-- total 100 with uplink 60 and downlink 39 has no reason; one octet more, and it is reached
Shown TotalReached =
    (reason_of (packet (packet (begun (Total 100)) 0 60) 1 39) ≡ Some None)
    × (reason_of (packet (packet (packet (begun (Total 100)) 0 60) 1 39) 1 1) ≡ Some (Some reason.Reached))
-- uplink 100 alone: 65,535 downlink octets count nothing
Shown UplinkAlone = ((traffic ceiling (begun (Uplink 100)) 1 1 65535).1 ≡ Ok 0) × (packet (begun (Uplink 100)) 1 65535 ≡ begun (Uplink 100))
-- an answered threshold of 50 with 50 pending is reached; with 49 it has no reason
Shown Answered =
    (reason_of (afterwards (pending 50) (Some (Total 50))) ≡ Some (Some reason.Reached))
    × (reason_of (afterwards (pending 49) (Some (Total 50))) ≡ Some None)
-- a stop with 30 pending returns 30 and frees the place
Shown Stopped =
    (discarded_octets (answered ceiling (pending 30) (Ok (answer None))).1 ≡ Ok 30)
    × (place_of key (afterwards (pending 30) None).slots ≡ None)
-- allowance 1,000 and reports of 400 and 700: -100 remains, and there is no threshold
Shown Overdrawn =
    (remaining (twice (new_ledger (account 1000 (Step 500) ∷ [])) 400 700) octets ≡ Ok (negsuc 99))
    × (first_terms (twice (new_ledger (account 1000 (Step 500) ∷ [])) 400 700).fixed ≡ Some None)
-- share 25 of 7 is 1, of 3 is 1
Shown Shares = (threshold_of (account 7 (Share 25)) ≡ Some 1) × (threshold_of (account 3 (Share 25)) ≡ Some 1)
-- counter and mark at 4,294,967,290, and 10 added: the counter is 4, the count 10
Shown RollingOver =
    (slice_index (advanced (rolled 4294967290 4294967290) 0 10) 0 ≡ 4) × (count_at (advanced (rolled 4294967290 4294967290) 0 10) 0 ≡ 10)
-- at count 4,294,967,295, 1 more is refused with 19
Shown RollingFull = (added 4294967295 (meant (rolled 4294967295 0)) 0 0 1).1 ≡ Err (call_fault code.Ceiling 0)

abbrev pub figures : List Figure
figures =
    RequestAll ∷ RequestRefused ∷ TotalReached ∷ UplinkAlone ∷ Answered ∷ Stopped ∷ Overdrawn ∷ Shares ∷ RollingOver ∷ RollingFull ∷ []
