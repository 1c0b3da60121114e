-- Answers: each ends the unanswered report.
use Rattle.std.specs.Prelude.{ℕ, ◌+◌, Bool, true, false, cond, ◌&&◌, ◌||◌, List, [], ◌∷◌, map, Some, None, Ok, Err, Option, Result, ◌==◌, flat_map}
use Rattle.fault.specs.declared.Code.{Code}
use Rattle.fault.specs.declared.Code.TheVariants as code
use Rattle.fault.specs.declared.Fault.{Fault}
use Rattle.fault.specs.Numbers.{call_fault}
use Rattle.key.specs.declared.key.Key.{Key}
use Rattle.key.specs.Keys.{same_key}
use Rattle.units.specs.declared.values.RequestType.{RequestType}
use Rattle.units.specs.declared.values.RequestType.TheVariants.{Update, Termination}
use Rattle.units.specs.declared.values.Units.{Units}
use Rattle.information.specs.declared.values.AnswerGroup.{AnswerGroup}
use Rattle.message.specs.Numbered.{Message, read_answer}
use Rattle.usage.specs.declared.values.Place.{Place}
use Rattle.usage.specs.declared.values.Sent.{Sent}
use Rattle.usage.specs.Forms.{clamped, same_form}
use Rattle.usage.specs.Slots.{Slot, closing, empty, going_on, judged_at, octets_at, place_of, same_level}
use Rattle.usage.specs.Meter.{Meter, refused}

-- WHAT THE ANSWER SAYS

-- the thresholds that it has for a key
abbrev pub terms_for : Key → List AnswerGroup → Option Units
terms_for k [] = None
terms_for k (g ∷ gs) = cond (same_key g.key k) g.granted (terms_for k gs)

abbrev pub form_fits : Place → Option Units → Bool
form_fits p None = true
form_fits p (Some u) = same_form p.thresholds u

-- what is wrong with a group: its key does not stand in the report, or its level or form differs
abbrev pub misfit : AnswerGroup → Option Sent → Place → Option Code
misfit g None p = Some code.UnknownKey
misfit g (Some x) p = cond (same_level p.level g.level && form_fits p g.granted) None (Some code.Differs)

abbrev pub misfit_at : AnswerGroup → Option Place → Option Code
misfit_at g None = Some code.UnknownKey
misfit_at g (Some p) = misfit g p.sent p

abbrev pub or_next : AnswerGroup → Option Code → Option Fault → Option Fault
or_next g (Some c) next = Some (call_fault c g.place)
or_next g None next = next

-- the fault of the first group that has one
abbrev pub answer_misfit : List Slot → List AnswerGroup → Option Fault
answer_misfit ss [] = None
answer_misfit ss (g ∷ gs) = or_next g (misfit_at g (place_of g.key ss)) (answer_misfit ss gs)

-- WHAT BECOMES OF A PLACE

-- octets that went under a key
pub record Amount : Type 0 where
  pub key : Key
  pub octets : ℕ

-- out of the report, and nothing else
abbrev pub kept : Place → Place
kept p = going_on p p.thresholds

-- a key with thresholds goes on; without any its octets are discarded and its slot is vacant
abbrev pub continued : ℕ → Slot → Place → Option Units → Slot
continued ceiling s p (Some u) = judged_at (record { place = Some (going_on p (clamped ceiling u)); counts = s.counts })
continued ceiling s p None = empty

abbrev pub lost : Slot → Place → Option Units → List Amount
lost s p (Some u) = []
lost s p None = record { key = p.key; octets = octets_at s } ∷ []

-- of a key in the report: noted as closing, it is freed; closing since, it stays due
abbrev pub settled : ℕ → List AnswerGroup → Slot → Place → Option Sent → Slot
settled ceiling gs s p None = s
settled ceiling gs s p (Some x) =
    cond x.closing (record { place = None; counts = s.counts })
    (cond (closing p.reason) (record { place = Some (kept p); counts = s.counts })
    (continued ceiling s p (terms_for p.key gs)))

abbrev pub settled_at : ℕ → List AnswerGroup → Slot → Option Place → Slot
settled_at ceiling gs s None = s
settled_at ceiling gs s (Some p) = settled ceiling gs s p p.sent

abbrev pub discarded : List AnswerGroup → Slot → Place → Option Sent → List Amount
discarded gs s p None = []
discarded gs s p (Some x) = cond (x.closing || closing p.reason) [] (lost s p (terms_for p.key gs))

abbrev pub discarded_at : List AnswerGroup → Slot → Option Place → List Amount
discarded_at gs s None = []
discarded_at gs s (Some p) = discarded gs s p p.sent

-- what the answer discards, under each key
abbrev pub discards : List AnswerGroup → List Slot → List Amount
discards gs ss = flat_map (λ s. discarded_at gs s s.place) ss

abbrev pub in_all : List Amount → ℕ
in_all [] = 0
in_all (x ∷ xs) = x.octets + in_all xs

-- THE CALL

abbrev pub is_termination : RequestType → Bool
is_termination Update = false
is_termination Termination = true

abbrev pub after_answer : ℕ → Meter → RequestType → List AnswerGroup → Meter
after_answer ceiling m t gs =
    record {
      rules = m.rules;
      slots = map (λ s. settled_at ceiling gs s s.place) m.slots;
      latest = m.latest;
      unanswered = None;
      terminated = m.terminated;
      ended = is_termination t;
    }

abbrev pub accepted : ℕ → Meter → RequestType → List AnswerGroup → Option Fault → Meter × Result (List Amount) Fault
accepted ceiling m t gs (Some f) = (m, Err f)
accepted ceiling m t gs None = (after_answer ceiling m t gs, Ok (discards gs m.slots))

abbrev pub ending : ℕ → Meter → Message AnswerGroup → Option RequestType → Meter × Result (List Amount) Fault
ending ceiling m a None = refused m code.NotUnanswered
ending ceiling m a (Some t) =
    cond (a.number == m.latest) (accepted ceiling m t a.groups (answer_misfit m.slots a.groups))
    (refused m code.NotUnanswered)

abbrev pub answered : ℕ → Meter → Result (Message AnswerGroup) Fault → Meter × Result (List Amount) Fault
answered ceiling m (Err f) = (m, Err f)
answered ceiling m (Ok a) = cond m.ended (refused m code.Terminated) (ending ceiling m a m.unanswered)

-- what it discards under each key; the call itself answers `discarded_octets` of it
abbrev pub answer : ℕ → Meter → List ℕ → Meter × Result (List Amount) Fault
answer ceiling m bs = answered ceiling m (read_answer bs)

abbrev pub discarded_octets : Result (List Amount) Fault → Result ℕ Fault
discarded_octets (Ok xs) = Ok (in_all xs)
discarded_octets (Err f) = Err f
