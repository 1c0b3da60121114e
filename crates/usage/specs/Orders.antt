-- Commands: their groups act in their order, and if one is refused, none has acted.
use Rattle.std.specs.Prelude.{ℕ, Bool, cond, not, ◌&&◌, List, [], ◌∷◌, map, Some, None, Ok, Err, Option, Result}
use Rattle.std.specs.List.{list_any}
use Rattle.fault.specs.declared.Code.TheVariants as code
use Rattle.fault.specs.declared.Fault.{Fault}
use Rattle.fault.specs.Numbers.{call_fault}
use Rattle.group.specs.Walk.{then}
use Rattle.key.specs.declared.key.Key.{Key}
use Rattle.units.specs.declared.values.Level.{Level}
use Rattle.units.specs.declared.values.Units.{Units}
use Rattle.information.specs.declared.values.CommandGroup.{CommandGroup}
use Rattle.information.specs.declared.values.Order.{Order}
use Rattle.information.specs.declared.values.Order.TheVariants.{Grant, Disable, Request}
use Rattle.message.specs.Commands.{read_command}
use Rattle.usage.specs.declared.values.Place.{Place}
use Rattle.usage.specs.declared.values.Reason.{Reason}
use Rattle.usage.specs.declared.values.Reason.TheVariants as reason
use Rattle.usage.specs.Forms.{clamped, same_form}
use Rattle.usage.specs.Tables.{at_first}
use Rattle.usage.specs.Slots.{Slot, changed, closing, counts, going_on, has_key, in_report, is_session, judged_at, place_of, same_level, vacant, holds, with_reason}
use Rattle.usage.specs.Meter.{Meter, refused, with_slots}

-- a session-level key that counts
abbrev pub counts_session : Place → Bool
counts_session p = is_session p.level && counts p

abbrev pub new_place : Key → Level → Units → Place
new_place k l u = record { key = k; level = l; thresholds = u; reason = None; sent = None }

abbrev pub given : Place → Slot → Slot
given p s = judged_at (record { place = Some p; counts = s.counts })

-- a key without a place gets the lowest vacant slot
abbrev pub placed : List Slot → ℕ → Place → Result (List Slot) Fault
placed ss at p =
    cond (not (list_any vacant ss)) (Err (call_fault code.Full at))
    (cond (is_session p.level && list_any (holds counts_session) ss) (Err (call_fault code.SessionKey at))
    (Ok (at_first vacant (given p) ss)))

abbrev pub regranted : Units → Slot → Slot
regranted u s = judged_at (changed (λ p. going_on p u) s)

-- a key with a place gets new thresholds
abbrev pub granted_again : List Slot → ℕ → Key → Level → Units → Place → Result (List Slot) Fault
granted_again ss at k l u p =
    cond (closing p.reason) (Err (call_fault code.Closing at))
    (cond (in_report p) (Err (call_fault code.Unanswered at))
    (cond (not (same_level p.level l && same_form p.thresholds u)) (Err (call_fault code.Differs at))
    (Ok (at_first (holds (has_key k)) (regranted u) ss))))

abbrev pub grant : List Slot → ℕ → Key → Level → Units → Option Place → Result (List Slot) Fault
grant ss at k l u None = placed ss at (new_place k l u)
grant ss at k l u (Some p) = granted_again ss at k l u p

-- a change of a key that counts
abbrev pub named : List Slot → ℕ → Key → (Place → Place) → Option Place → Result (List Slot) Fault
named ss at k f None = Err (call_fault code.UnknownKey at)
named ss at k f (Some p) = cond (closing p.reason) (Err (call_fault code.Closing at)) (Ok (at_first (holds (has_key k)) (changed f) ss))

abbrev pub disabled : Place → Place
disabled p = with_reason p (Some reason.Disabled)

abbrev pub requested_if : Option Reason → Option Reason
requested_if None = Some reason.Requested
requested_if (Some r) = Some r

abbrev pub requested : Place → Place
requested p = with_reason p (requested_if p.reason)

-- one group, which starts at a place of the message
abbrev pub obeyed : ℕ → List Slot → ℕ → Order → Result (List Slot) Fault
obeyed ceiling ss at (Grant k l u) = grant ss at k l (clamped ceiling u) (place_of k ss)
obeyed ceiling ss at (Disable k) = named ss at k disabled (place_of k ss)
obeyed ceiling ss at (Request (Some k)) = named ss at k requested (place_of k ss)
obeyed ceiling ss at (Request None) = Ok (map (changed requested) ss)

abbrev pub obeyed_all : ℕ → List Slot → List CommandGroup → Result (List Slot) Fault
obeyed_all ceiling ss [] = Ok ss
obeyed_all ceiling ss (g ∷ gs) = then (obeyed ceiling ss g.place g.order) (λ ts. obeyed_all ceiling ts gs)

abbrev pub after_orders : Meter → Result (List Slot) Fault → Meter × Result (Unit {0}) Fault
after_orders m (Ok ss) = (with_slots m ss, Ok tt)
after_orders m (Err f) = (m, Err f)

abbrev pub commanded : ℕ → Meter → Result (List CommandGroup) Fault → Meter × Result (Unit {0}) Fault
commanded ceiling m (Err f) = (m, Err f)
commanded ceiling m (Ok gs) = cond m.terminated (refused m code.Terminated) (after_orders m (obeyed_all ceiling m.slots gs))

abbrev pub command : ℕ → Meter → List ℕ → Meter × Result (Unit {0}) Fault
command ceiling m bs = commanded ceiling m (read_command bs)
