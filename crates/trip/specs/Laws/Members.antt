-- One member of any kind of group: a key, a level or units that were written are one step of the reader.
use Rattle.std.proofs.Common.{◌≡◌, ℕ, ◌^◌, ◌<◌, Bool, true, refl, List, ◌++◌, Some, Ok, Option, ap, ◌∙◌, arith}
use Rattle.avp.specs.declared.name.Name.{Name}
use Rattle.avp.specs.declared.name.Name.TheVariants.{MonitoringKey, UsageMonitoringLevel}
use Rattle.avp.specs.Fields as field
use Rattle.avp.specs.Fields.{Unsigned32, allows, value_by, value_of}
use Rattle.avp.specs.Header.{Parsed, Span}
use Rattle.group.specs.Walk.{then, avps, gather}
use Rattle.group.specs.Shapes as shape
use Rattle.group.specs.Members.{Rules, member}
use Rattle.key.specs.declared.key.Key.{Key}
use Rattle.key.specs.Keys.{key_of, octets_of}
use Rattle.units.specs.declared.values.Level.{Level}
use Rattle.units.specs.declared.values.Level.TheVariants as level
use Rattle.units.specs.declared.values.Units.{Units}
use Rattle.units.specs.Limits.{level_number, level_of, within}
use Rattle.units.specs.Units.{read_units}
use Rattle.draft.specs.Octets.{be32, written}
use Rattle.wire.specs.Octets.{units_data}
use Rattle.wire.specs.Sound.{sound_key, sound_units}
use Rattle.trip.specs.Laws.First.{seen}
use Rattle.trip.specs.Laws.Steps.{step, value_32, value_key}
use Rattle.trip.specs.Laws.Units.{units_back, units_short}
use Rattle.trip.specs.Laws.Keys.{key_back, key_long_lem, key_short}

abbrev pub Fits : {S V : Type 0} → Rules S V → S → Name → Type 0
Fits r s n = shape.admits (r.shapes s) (r.holds s) n ≡ true

-- s is what was gathered before the member, and put says what is gathered with it
module _ {S V : Type 0} (r : Rules S V) (s : S) (place : ℕ) (rest : List ℕ) where
  abbrev Step : Name → List ℕ → S → Type 0
  Step n ds t = gather (member r) s (avps (record { place = place; octets = written n ds ++ rest })) ≡ gather (member r) t (avps (seen n place ds rest).rest)

  pub key_step : (put : Option Key → S) → Fits r s MonitoringKey → ((ks : List ℕ) → r.puts s MonitoringKey (field.Key ks) place ≡ Ok (put (key_of ks))) → (k : Key) → sound_key k ≡ true → Step MonitoringKey (octets_of k) (put (Some k))
  key_step put fits puts k h =
      step r s (put (Some k)) MonitoringKey (field.Key (octets_of k)) place (octets_of k) rest (key_short k h) fits
      (value_key (r.limits s MonitoringKey) (seen MonitoringKey place (octets_of k) rest) (key_long_lem k h))
      (puts (octets_of k) ∙ ap (λ o. Ok (put o)) (key_back k h))

  -- a number of 32 bits
  pub number_step : (n : Name) (put : ℕ → S) → Fits r s n → ((a : Parsed) → value_of n (r.limits s n) a ≡ value_by Unsigned32 (r.limits s n) a) → ((x : ℕ) → r.puts s n (field.Number x) place ≡ Ok (put x)) → (x : ℕ) → x < 2 ^ 32 → allows (r.limits s n) x ≡ true → Step n (be32 x) (put x)
  number_step n put fits is puts x small ok =
      step r s (put x) n (field.Number x) place (be32 x) rest (omega arith) fits (is (seen n place (be32 x) rest) ∙ value_32 (r.limits s n) (seen n place (be32 x) rest) x refl small ok) (puts x)

  pub level_step : (put : Level → S) → Fits r s UsageMonitoringLevel → r.limits s UsageMonitoringLevel ≡ within 0 1 → ((n : ℕ) → r.puts s UsageMonitoringLevel (field.Number n) place ≡ Ok (put (level_of n))) → (l : Level) → Step UsageMonitoringLevel (be32 (level_number l)) (put l)
  level_step put fits limits puts level.Session = number_step UsageMonitoringLevel (λ n. put (level_of n)) fits (λ a. refl) puts 0 (omega arith) (ap (λ b. allows b 0) limits)
  level_step put fits limits puts level.Rule = number_step UsageMonitoringLevel (λ n. put (level_of n)) fits (λ a. refl) puts 1 (omega arith) (ap (λ b. allows b 1) limits)

  pub units_step : (n : Name) (granted : Bool) (put : Units → S) → Fits r s n → ((g : Span) → r.puts s n (field.Group g) place ≡ then (read_units granted g) (λ u. Ok (put u))) → (u : Units) → value_of n (r.limits s n) (seen n place (units_data u) rest) ≡ Ok (field.Group (seen n place (units_data u) rest).body) → sound_units granted u ≡ true → Step n (units_data u) (put u)
  units_step n granted put fits puts u is h =
      step r s (put u) n (field.Group (seen n place (units_data u) rest).body) place (units_data u) rest (units_short u) fits is
      (puts (seen n place (units_data u) rest).body ∙ ap (λ x. then x (λ y. Ok (put y))) (units_back granted u (seen n place (units_data u) rest).body.place h))
