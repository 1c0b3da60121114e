-- A report or an answer: CC-Request-Number, CC-Request-Type and groups.
use Rattle.std.specs.Prelude.{ℕ, Bool, false, cond, List, [], ◌∷◌, length, is_some, Some, None, Ok, Option, Result, nat_lt}
use Rattle.std.specs.Option.{unwrap_or}
use Rattle.fault.specs.declared.Fault.{Fault}
use Rattle.avp.specs.declared.name.Name.{Name}
use Rattle.avp.specs.declared.name.Name.TheVariants.{CcRequestNumber, CcRequestType, UsageMonitoringInformation}
use Rattle.avp.specs.Header.{Span}
use Rattle.avp.specs.Names.{is}
use Rattle.avp.specs.Fields as field
use Rattle.group.specs.Walk.{then}
use Rattle.group.specs.Members.{Rules, read_group}
use Rattle.key.specs.declared.key.Key.{Key}
use Rattle.units.specs.declared.values.RequestType.{RequestType}
use Rattle.units.specs.declared.values.RequestType.TheVariants.{Update}
use Rattle.units.specs.Limits.{limits_of, type_of}
use Rattle.information.specs.declared.values.ReportGroup.{ReportGroup}
use Rattle.information.specs.declared.values.AnswerGroup.{AnswerGroup}
use Rattle.information.specs.Report.{read_report_group}
use Rattle.information.specs.Answer.{read_answer_group}
use Rattle.message.specs.declared.values.Numbered as code
use Rattle.message.specs.declared.values.NumberedSoFar.{NumberedSoFar}
use Rattle.message.specs.Groups.{list_of}
use Rattle.message.specs.Keyed.{added, report_key, answer_key}

-- the message, its groups in their order
pub record Message (V : Type 0) : Type 0 where
  pub number : ℕ
  pub type : RequestType
  pub groups : List V

-- what is known of it so far
pub record Partial (V : Type 0) : Type 0 where
  pub number : Option ℕ
  pub type : Option RequestType
  pub groups : List V

abbrev pub shapes : List (List Name)
shapes = (CcRequestNumber ∷ CcRequestType ∷ []) ∷ (CcRequestNumber ∷ CcRequestType ∷ UsageMonitoringInformation ∷ []) ∷ []

abbrev pub begun : {V : Type 0} → Partial V
begun = record { number = None; type = None; groups = [] }

module _ {V : Type 0} (reads : ℕ → Span → Result V Fault) (keyed : V → Option Key) where
  abbrev pub holds : Partial V → Name → Bool
  holds m n =
      cond (is n CcRequestNumber) (is_some m.number)
      (cond (is n CcRequestType) (is_some m.type)
      (cond (is n UsageMonitoringInformation) (nat_lt 0 (length m.groups))
      false))

  abbrev pub puts : Partial V → Name → field.Value → ℕ → Result (Partial V) Fault
  puts m n (field.Number x) at =
      cond (is n CcRequestNumber) (Ok (record { number = Some x; type = m.type; groups = m.groups }))
      (cond (is n CcRequestType) (Ok (record { number = m.number; type = Some (type_of x); groups = m.groups }))
      (Ok m))
  puts m n (field.Key ks) at = Ok m
  puts m n (field.Group s) at =
      cond (is n UsageMonitoringInformation)
      (then (then (reads at s) (added keyed m.groups at)) (λ vs. Ok (record { number = m.number; type = m.type; groups = vs })))
      (Ok m)

  abbrev pub rules : Rules (Partial V) (Message V)
  rules = record {
    shapes = λ m. shapes;
    holds = holds;
    limits = λ m. limits_of false;
    puts = puts;
    whole = λ m. record { number = unwrap_or m.number 0; type = unwrap_or m.type Update; groups = m.groups };
  }

  -- the message of these octets
  abbrev pub read_numbered : List ℕ → Result (Message V) Fault
  read_numbered bs = read_group rules begun (record { place = 0; octets = bs })

abbrev pub read_report : List ℕ → Result (Message ReportGroup) Fault
read_report = read_numbered read_report_group report_key

abbrev pub read_answer : List ℕ → Result (Message AnswerGroup) Fault
read_answer = read_numbered read_answer_group answer_key

-- the code's values as those above
abbrev pub message : {V : Type 0} → code.Numbered V → Message V
message m = record { number = m.number; type = m.request_type; groups = list_of m.groups }

abbrev pub partial : {V : Type 0} → NumberedSoFar V → Partial V
partial m = record { number = m.number; type = m.request_type; groups = list_of m.groups }
