-- Install and remove.
use Rattle.std.specs.Prelude.{ℕ, Bool, true, false, cond, not, ◌&&◌, List, is_some, Some, None, Ok, Option, Result, ◌==◌, nat_le}
use Rattle.std.specs.List.{list_any}
use Rattle.fault.specs.declared.Code.TheVariants as code
use Rattle.fault.specs.declared.Fault.{Fault}
use Rattle.key.specs.declared.key.Key.{Key}
use Rattle.key.specs.Keys.{key_long, key_of, same_key}
use Rattle.usage.specs.declared.values.Place.{Place}
use Rattle.usage.specs.declared.values.Reason.TheVariants as reason
use Rattle.usage.specs.declared.values.Rule.{Rule}
use Rattle.usage.specs.Tables.{at_first, free, lookup}
use Rattle.usage.specs.Slots.{Slot, changed, counts, has_key, is_session, holds, with_reason}
use Rattle.usage.specs.Meter.{Meter, refused}

abbrev pub rule_fits : ℕ → Bool
rule_fits n = nat_le 1 n && nat_le n 65535

abbrev pub key_fits : Option (List ℕ) → Bool
key_fits None = true
key_fits (Some ks) = key_long ks

abbrev pub key_given : Option (List ℕ) → Option Key
key_given None = None
key_given (Some ks) = key_of ks

abbrev pub is_key : Option Key → Key → Bool
is_key None k = false
is_key (Some j) k = same_key j k

abbrev pub numbered : ℕ → Rule → Bool
numbered n r = r.number == n

abbrev pub rule_of : ℕ → List (Option Rule) → Option Rule
rule_of n rs = lookup (numbered n) rs

abbrev pub is_rule : ℕ → Option Rule → Bool
is_rule n None = false
is_rule n (Some r) = numbered n r

abbrev pub carries : Key → Option Rule → Bool
carries k None = false
carries k (Some r) = is_key r.key k

abbrev pub with_rules : Meter → List (Option Rule) → List Slot → Meter
with_rules m rs ss = record { rules = rs; slots = ss; latest = m.latest; unanswered = m.unanswered; terminated = m.terminated; ended = m.ended }

abbrev pub install : Meter → ℕ → Option (List ℕ) → Meter × Result (Unit {0}) Fault
install m n ks =
    cond (not (rule_fits n && key_fits ks)) (refused m code.Range)
    (cond m.terminated (refused m code.Terminated)
    (cond (is_some (rule_of n m.rules)) (refused m code.Rule)
    (cond (not (list_any free m.rules)) (refused m code.Full)
    (with_rules m (at_first free (λ _. Some (record { number = n; key = key_given ks })) m.rules) m.slots, Ok tt))))

-- a key that counts at rule level closes when its last rule goes
abbrev pub unruled : Place → Place
unruled p = cond (not (is_session p.level) && counts p) (with_reason p (Some reason.Removed)) p

abbrev pub after_rule : Option Key → List (Option Rule) → List Slot → List Slot
after_rule None others ss = ss
after_rule (Some k) others ss = cond (list_any (carries k) others) ss (at_first (holds (has_key k)) (changed unruled) ss)

abbrev pub removing : Meter → Option Rule → List (Option Rule) → Meter × Result (Unit {0}) Fault
removing m None others = refused m code.Rule
removing m (Some r) others = (with_rules m others (after_rule r.key others m.slots), Ok tt)

abbrev pub remove : Meter → ℕ → Meter × Result (Unit {0}) Fault
remove m n =
    cond (not (rule_fits n)) (refused m code.Range)
    (cond m.terminated (refused m code.Terminated)
    (removing m (rule_of n m.rules) (at_first (is_rule n) (λ _. None) m.rules)))
