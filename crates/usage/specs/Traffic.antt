-- Traffic and terminate.
use Rattle.std.specs.Prelude.{ℕ, ◌+◌, Bool, true, cond, not, ◌&&◌, map, Some, None, Ok, Option, Result, nat_le, nat_lt}
use Rattle.std.specs.List.{list_any}
use Rattle.fault.specs.declared.Code.TheVariants as code
use Rattle.fault.specs.declared.Fault.{Fault}
use Rattle.key.specs.declared.key.Key.{Key}
use Rattle.bank.specs.Meaning.{count_of, raised}
use Rattle.usage.specs.declared.values.Place.{Place}
use Rattle.usage.specs.declared.values.Reason.TheVariants as reason
use Rattle.usage.specs.declared.values.Rule.{Rule}
use Rattle.usage.specs.Forms.{covers}
use Rattle.usage.specs.Tables.{tally}
use Rattle.usage.specs.Slots.{Slot, changed, closing, counts, is_session, judged_at, holds, with_reason}
use Rattle.usage.specs.Meter.{Meter, refused, with_slots}
use Rattle.usage.specs.Rules.{is_key, rule_fits, rule_of}

-- whether a packet of a rule with this key counts at a place: its form covers the direction, and it counts for the whole
-- session or for the rule's key
abbrev pub takes : Option Key → ℕ → Place → Bool
takes k d p = counts p && (covers p.thresholds d && cond (is_session p.level) true (is_key k p.key))

abbrev pub raised_at : Option Key → ℕ → ℕ → Slot → Slot
raised_at k d x s = cond (holds (takes k d) s) (judged_at (record { place = s.place; counts = raised s.counts d x })) s

abbrev pub overflows : ℕ → Option Key → ℕ → ℕ → Slot → Bool
overflows ceiling k d x s = holds (takes k d) s && nat_lt ceiling (count_of s.counts d + x)

-- all places are raised, or none
abbrev pub carried : ℕ → Meter → Option Rule → ℕ → ℕ → Meter × Result ℕ Fault
carried ceiling m None d x = refused m code.Rule
carried ceiling m (Some r) d x =
    cond (list_any (overflows ceiling r.key d x) m.slots) (refused m code.Ceiling)
    (with_slots m (map (raised_at r.key d x) m.slots), Ok (tally (holds (takes r.key d)) m.slots))

abbrev pub packet_fits : ℕ → ℕ → ℕ → Bool
packet_fits n d x = rule_fits n && (nat_le d 1 && (nat_le 1 x && nat_le x 65535))

abbrev pub traffic : ℕ → Meter → ℕ → ℕ → ℕ → Meter × Result ℕ Fault
traffic ceiling m n d x =
    cond (not (packet_fits n d x)) (refused m code.Range)
    (cond m.terminated (refused m code.Terminated)
    (carried ceiling m (rule_of n m.rules) d x))

abbrev pub over : Place → Place
over p = cond (closing p.reason) p (with_reason p (Some reason.Ended))

abbrev pub terminate : Meter → Meter × Result (Unit {0}) Fault
terminate m =
    cond m.terminated (refused m code.Terminated)
    (record { rules = m.rules; slots = map (changed over) m.slots; latest = m.latest; unanswered = m.unanswered; terminated = true; ended = m.ended }, Ok tt)
