-- Reports: the unanswered one again, or the next one, with every place that has a reason.
use Rattle.std.specs.Prelude.{ℕ, ◌+◌, Bool, cond, not, ◌&&◌, List, [], ◌∷◌, map, Some, None, Ok, Err, Option, Result, nat_le, flat_map}
use Rattle.std.specs.List.{list_any}
use Rattle.fault.specs.declared.Code.TheVariants as code
use Rattle.fault.specs.declared.Fault.{Fault}
use Rattle.units.specs.declared.values.RequestType.{RequestType}
use Rattle.units.specs.declared.values.RequestType.TheVariants.{Update, Termination}
use Rattle.units.specs.declared.values.Units.{Units}
use Rattle.information.specs.declared.values.ReportGroup.{ReportGroup}
use Rattle.message.specs.Numbered.{Message}
use Rattle.wire.specs.Octets.{report_octets}
use Rattle.wire.specs.Sound.{report_fault}
use Rattle.bank.specs.declared.counts.Counts.{Counts}
use Rattle.bank.specs.Meaning.{none as nothing}
use Rattle.usage.specs.declared.values.Place.{Place}
use Rattle.usage.specs.declared.values.Reason.{Reason}
use Rattle.usage.specs.declared.values.Sent.{Sent}
use Rattle.usage.specs.Forms.{used_in}
use Rattle.usage.specs.Slots.{Slot, changed, closing, due, holds}
use Rattle.usage.specs.Meter.{Meter, refused}
use Rattle.usage.specs.Written.{writing}

-- THE UNANSWERED REPORT

abbrev pub group_of : Place → Units → ReportGroup
group_of p u = record { place = 0; key = p.key; level = p.level; used = u }

abbrev pub group_sent : Place → Option Sent → List ReportGroup
group_sent p None = []
group_sent p (Some x) = group_of p x.used ∷ []

abbrev pub sent_at : Option Place → List ReportGroup
sent_at None = []
sent_at (Some p) = group_sent p p.sent

-- what the unanswered report holds
abbrev pub sent_groups : List Slot → List ReportGroup
sent_groups ss = flat_map (λ s. sent_at s.place) ss

abbrev pub sent_report : Meter → RequestType → Message ReportGroup
sent_report m t = record { number = m.latest; type = t; groups = sent_groups m.slots }

-- THE NEXT REPORT

-- what is sent of a place
abbrev pub sent_of : Place → Counts → Sent
sent_of p c = record { used = used_in p.thresholds c; closing = closing p.reason }

-- a reason that is not closing becomes none
abbrev pub still_closing : Option Reason → Option Reason
still_closing r = cond (closing r) r None

abbrev pub sent : Counts → Place → Place
sent c p = record { key = p.key; level = p.level; thresholds = p.thresholds; reason = still_closing p.reason; sent = Some (sent_of p c) }

-- a place that has a reason is noted, and its counts are taken out
abbrev pub reported_at : Slot → Slot
reported_at s = cond (holds due s) (record { place = (changed (sent s.counts) s).place; counts = nothing }) s

abbrev pub type_now : Meter → RequestType
type_now m = cond m.terminated Termination Update

abbrev pub after_report : Meter → Meter
after_report m =
    record {
      rules = m.rules;
      slots = map reported_at m.slots;
      latest = m.latest + 1;
      unanswered = Some (type_now m);
      terminated = m.terminated;
      ended = m.ended;
    }

-- THE CALL

abbrev pub report_written : Message ReportGroup → ℕ → Result (List ℕ) Fault
report_written r size = writing (report_fault r) (report_octets r) size

-- the state changes only where the report is written
abbrev pub if_written : Meter → Meter → Result (List ℕ) Fault → Meter × Result (List ℕ) Fault
if_written before after (Ok bs) = (after, Ok bs)
if_written before after (Err f) = (before, Err f)

abbrev pub nothing_due : Meter → Bool
nothing_due m = not m.terminated && not (list_any (holds due) m.slots)

-- the next report, as it is written for the first time
abbrev pub next_report : Meter → Message ReportGroup
next_report m = sent_report (after_report m) (type_now m)

abbrev pub reporting : Meter → Option RequestType → ℕ → Meter × Result (List ℕ) Fault
reporting m (Some t) size = if_written m m (report_written (sent_report m t) size)
reporting m None size =
    cond (nothing_due m) (refused m code.NothingDue)
    (cond (nat_le 1048575 m.latest) (refused m code.NumbersUsed)
    (if_written m (after_report m) (report_written (next_report m) size)))

-- into a buffer of that size
abbrev pub report : Meter → ℕ → Meter × Result (List ℕ) Fault
report m size = cond m.ended (refused m code.Terminated) (reporting m m.unanswered size)
