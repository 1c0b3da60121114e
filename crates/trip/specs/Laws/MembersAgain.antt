-- One member of any kind of group in the writer's own form: what it was read as is written as its octets, and then come
-- the others.
use Rattle.std.proofs.Common.{◌≡◌, ℕ, zero, suc, ◌-◌, ◌≤◌, min, Bool, true, leb, List, ◌++◌, length, take, replicate, Some, Ok, Option, sym, refl, ap, ◌∙◌, arith}
use Rattle.std.proofs.lemmas.List.{take_at}
use Rattle.std.proofs.lemmas.Bool.{and_parts, cond-true, leb-true}
use Rattle.avp.specs.declared.name.Name.{Name}
use Rattle.avp.specs.declared.name.Name.TheVariants.{MonitoringKey, UsageMonitoringLevel}
use Rattle.avp.specs.Octets.{u32_at}
use Rattle.avp.specs.Header.{Parsed, Span}
use Rattle.avp.specs.Fields as field
use Rattle.group.specs.Walk.{then, avps, gather}
use Rattle.group.specs.Members.{Rules, member}
use Rattle.key.specs.declared.key.Key.{Key}
use Rattle.key.specs.Keys.{key_long, key_of, octets_of}
use Rattle.units.specs.declared.values.Level.{Level}
use Rattle.units.specs.declared.values.Units.{Units}
use Rattle.units.specs.Limits.{level_number, level_of, within}
use Rattle.units.specs.Units.{read_units}
use Rattle.draft.specs.Octets.{be32, written}
use Rattle.wire.specs.Octets.{units_data}
use Rattle.trip.specs.Own.{Octets, OwnUnits}
use Rattle.trip.specs.Laws.First.{seen}
use Rattle.trip.specs.Laws.Members.{Fits}
use Rattle.trip.specs.Laws.Undo.{same_ok, then_undo, unstep, undo_32, undo_key, again_32}
use Rattle.trip.specs.Laws.UnitsAgain.{units_again}

-- the key of 1 to 16 octets
abbrev key_by : List ℕ → Key
key_by ks = record { octets = ks ++ replicate (16 - length ks) 0; size = length ks }

key_again : (ks : List ℕ) → key_long ks ≡ true → octets_of (key_by ks) ≡ ks
key_again ks h =
    let few : length ks ≤ 16 = leb-true (length ks) 16 (and_parts (leb 1 (length ks)) (leb (length ks) 16) h).1 in
    let all : min (length ks) 16 ≡ length ks = omega arith in
    ap (λ (n : ℕ). take n (ks ++ replicate (16 - length ks) 0)) all ∙ take_at ks (replicate (16 - length ks) 0) (length ks) refl

level_again : (n : ℕ) → n ≤ 1 → level_number (level_of n) ≡ n
level_again zero h = refl
level_again (suc zero) h = refl
level_again (suc (suc n)) h = absurd (omega arith)

-- the octets are gathered into final
abbrev Goes : {S V : Type 0} → Rules S V → S → Span → S → Type 0
Goes r s g final = gather (member r) s (avps g) ≡ Ok final

-- s is what was gathered before the member, and put says what is gathered with it
module _ {S V : Type 0} (r : Rules S V) (s : S) (place : ℕ) (rest : List ℕ) {final : S} where
  pub key_undo : (put : Option Key → S) → Fits r s MonitoringKey → ((ks : List ℕ) → r.puts s MonitoringKey (field.Key ks) place ≡ Ok (put (key_of ks))) → {ks : List ℕ} → Octets ks → Goes r s (record { place = place; octets = written MonitoringKey ks ++ rest }) final → (k : Key) × (octets_of k ≡ ks) × Goes r (put (Some k)) (seen MonitoringKey place ks rest).rest final
  key_undo put fits puts {ks} ok e =
      let u = unstep r s MonitoringKey place ks rest final ok.short fits e in
      let v = undo_key (r.limits s MonitoringKey) (seen MonitoringKey place ks rest) u.value u.held in
      let next : u.next ≡ put (Some (key_by ks)) = same_ok _ _ (sym u.put ∙ ap (λ w. r.puts s MonitoringKey w place) v.1 ∙ puts ks ∙ ap (λ o. Ok (put o)) (cond-true _ _ _ v.0)) in
      (key_by ks, key_again ks v.0, ap (λ t. gather (member r) t (avps (seen MonitoringKey place ks rest).rest)) (sym next) ∙ u.others)

  -- a number of 32 bits
  pub number_undo : (n : Name) (put : ℕ → S) → Fits r s n → ((a : Parsed) → field.value_of n (r.limits s n) a ≡ field.value_by field.Unsigned32 (r.limits s n) a) → ((x : ℕ) → r.puts s n (field.Number x) place ≡ Ok (put x)) → {ds : List ℕ} → Octets ds → Goes r s (record { place = place; octets = written n ds ++ rest }) final → (x : ℕ) × (be32 x ≡ ds) × Goes r (put x) (seen n place ds rest).rest final × (field.allows (r.limits s n) x ≡ true)
  number_undo n put fits is puts {ds} ok e =
      let u = unstep r s n place ds rest final ok.short fits e in
      let v = undo_32 (r.limits s n) (seen n place ds rest) u.value (sym (is (seen n place ds rest)) ∙ u.held) in
      let next : u.next ≡ put (u32_at ds 0) = same_ok _ _ (sym u.put ∙ ap (λ w. r.puts s n w place) v.2 ∙ puts (u32_at ds 0)) in
      (u32_at ds 0, again_32 ds v.0 ok.small, ap (λ t. gather (member r) t (avps (seen n place ds rest).rest)) (sym next) ∙ u.others, v.1)

  pub level_undo : (put : Level → S) → Fits r s UsageMonitoringLevel → r.limits s UsageMonitoringLevel ≡ within 0 1 → ((n : ℕ) → r.puts s UsageMonitoringLevel (field.Number n) place ≡ Ok (put (level_of n))) → {ds : List ℕ} → Octets ds → Goes r s (record { place = place; octets = written UsageMonitoringLevel ds ++ rest }) final → (l : Level) × (be32 (level_number l) ≡ ds) × Goes r (put l) (seen UsageMonitoringLevel place ds rest).rest final
  level_undo put fits limits puts ok e =
      let x = number_undo UsageMonitoringLevel (λ n. put (level_of n)) fits (λ a. refl) puts ok e in
      let most : x.0 ≤ 1 = leb-true x.0 1 (and_parts (leb 0 x.0) (leb x.0 1) (ap (λ b. field.allows b x.0) (sym limits) ∙ x.3)).1 in
      (level_of x.0, ap be32 (level_again x.0 most) ∙ x.1, x.2)

  -- a number that is 0
  pub zero_undo : (n : Name) (put : S) → Fits r s n → ((a : Parsed) → field.value_of n (r.limits s n) a ≡ field.value_by field.Unsigned32 (r.limits s n) a) → r.limits s n ≡ within 0 0 → ((x : ℕ) → r.puts s n (field.Number x) place ≡ Ok put) → {ds : List ℕ} → Octets ds → Goes r s (record { place = place; octets = written n ds ++ rest }) final → (be32 0 ≡ ds) × Goes r put (seen n place ds rest).rest final
  zero_undo n put fits is limits puts ok e =
      let x = number_undo n (λ _. put) fits is puts ok e in
      let most : x.0 ≤ 0 = leb-true x.0 0 (and_parts (leb 0 x.0) (leb x.0 0) (ap (λ b. field.allows b x.0) (sym limits) ∙ x.3)).1 in
      let none : 0 ≡ x.0 = omega arith in
      (ap be32 none ∙ x.1, x.2)

  pub units_undo : (n : Name) (granted : Bool) (put : Units → S) → Fits r s n → ((ds : List ℕ) → field.value_of n (r.limits s n) (seen n place ds rest) ≡ Ok (field.Group (seen n place ds rest).body)) → ((g : Span) → r.puts s n (field.Group g) place ≡ then (read_units granted g) (λ u. Ok (put u))) → {ds : List ℕ} → OwnUnits ds → Octets ds → Goes r s (record { place = place; octets = written n ds ++ rest }) final → (u : Units) × (units_data u ≡ ds) × Goes r (put u) (seen n place ds rest).rest final
  units_undo n granted put fits is puts {ds} own ok e =
      let b : Span = (seen n place ds rest).body in
      let u = unstep r s n place ds rest final ok.short fits e in
      let v : u.value ≡ field.Group b = sym (same_ok _ _ (sym (is ds) ∙ u.held)) in
      let x = then_undo (read_units granted b) (λ y. Ok (put y)) u.next (sym (puts b) ∙ ap (λ w. r.puts s n w place) (sym v) ∙ u.put) in
      let next : put x.0 ≡ u.next = same_ok _ _ x.2 in
      (x.0, units_again granted b.place own ok x.0 x.1, ap (λ t. gather (member r) t (avps (seen n place ds rest).rest)) next ∙ u.others)
