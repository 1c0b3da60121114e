-- The meter's sixteen slots: the place of a key, if one has it, and what the bank counted there.
use Rattle.std.specs.Prelude.{ℕ, ◌+◌, Bool, true, false, cond, not, List, map, is_some, Some, None, Option}
use Rattle.key.specs.declared.key.Key.{Key}
use Rattle.key.specs.Keys.{same_key}
use Rattle.units.specs.declared.values.Level.{Level}
use Rattle.units.specs.declared.values.Level.TheVariants as level
use Rattle.units.specs.declared.values.Units.{Units}
use Rattle.bank.specs.declared.counts.Counts.{Counts}
use Rattle.bank.specs.Meaning.{none as nothing}
use Rattle.usage.specs.declared.values.Place.{Place}
use Rattle.usage.specs.declared.values.Reason.{Reason}
use Rattle.usage.specs.declared.values.Reason.TheVariants as reason
use Rattle.usage.specs.Forms.{met}
use Rattle.usage.specs.Tables.{lookup, free}

pub record Slot : Type 0 where
  pub place : Option Place
  pub counts : Counts

abbrev pub empty : Slot
empty = record { place = None; counts = nothing }

-- what a slot counted in both directions
abbrev pub octets_at : Slot → ℕ
octets_at s = s.counts.uplink + s.counts.downlink

-- REASONS

abbrev pub closing : Option Reason → Bool
closing None = false
closing (Some reason.Reached) = false
closing (Some reason.Requested) = false
closing (Some reason.Removed) = true
closing (Some reason.Disabled) = true
closing (Some reason.Ended) = true

-- a place counts unless it is closing
abbrev pub counts : Place → Bool
counts p = not (closing p.reason)

-- a key is due while its place has a reason
abbrev pub due : Place → Bool
due p = is_some p.reason

abbrev pub in_report : Place → Bool
in_report p = is_some p.sent

abbrev pub with_reason : Place → Option Reason → Place
with_reason p r = record { key = p.key; level = p.level; thresholds = p.thresholds; reason = r; sent = p.sent }

-- with new thresholds, outside the unanswered report
abbrev pub going_on : Place → Units → Place
going_on p u = record { key = p.key; level = p.level; thresholds = u; reason = p.reason; sent = None }

-- REACHED

-- none turns into reached where the thresholds are met, and reached back into none where they are not
abbrev pub reached_if : Bool → Option Reason → Option Reason
reached_if m None = cond m (Some reason.Reached) None
reached_if m (Some reason.Reached) = cond m (Some reason.Reached) None
reached_if m (Some reason.Requested) = Some reason.Requested
reached_if m (Some reason.Removed) = Some reason.Removed
reached_if m (Some reason.Disabled) = Some reason.Disabled
reached_if m (Some reason.Ended) = Some reason.Ended

-- a place in the unanswered report is not judged
abbrev pub judged : Counts → Place → Place
judged c p = cond (in_report p) p (with_reason p (reached_if (met p.thresholds c) p.reason))

-- LOOKING UP AND CHANGING

abbrev pub is_session : Level → Bool
is_session level.Session = true
is_session level.Rule = false

abbrev pub same_level : Level → Level → Bool
same_level level.Session l = is_session l
same_level level.Rule l = not (is_session l)

abbrev pub has_key : Key → Place → Bool
has_key k p = same_key p.key k

abbrev pub place_of : Key → List Slot → Option Place
place_of k ss = lookup (has_key k) (map (λ s. s.place) ss)

abbrev pub passes : (Place → Bool) → Option Place → Bool
passes p None = false
passes p (Some x) = p x

-- the slot whose place passes a test
abbrev pub holds : (Place → Bool) → Slot → Bool
holds p s = passes p s.place

abbrev pub vacant : Slot → Bool
vacant s = free s.place

abbrev pub changed_in : (Place → Place) → Option Place → Option Place
changed_in f None = None
changed_in f (Some p) = Some (f p)

abbrev pub changed : (Place → Place) → Slot → Slot
changed f s = record { place = changed_in f s.place; counts = s.counts }

-- the place is judged by its counts
abbrev pub judged_at : Slot → Slot
judged_at s = changed (judged s.counts) s
