-- A unit group in the writer's own form is written again exactly.
use Rattle.std.proofs.Common.{◌≡◌, ℕ, Bool, true, List, [], ◌++◌, Some, None, Ok, sym, refl, ap, ◌∙◌, append-nil}
use Rattle.avp.specs.declared.name.Name.{Name}
use Rattle.avp.specs.declared.name.Name.TheVariants.{CcInputOctets, CcOutputOctets, CcTotalOctets}
use Rattle.avp.specs.Fields as field
use Rattle.avp.specs.Header.{Parsed}
use Rattle.avp.specs.Octets.{u64_at}
use Rattle.group.specs.Walk.{avps, gather}
use Rattle.group.specs.Members.{member, ended}
use Rattle.units.specs.declared.values.Units.{Units}
use Rattle.units.specs.declared.values.Units.TheVariants.{Total, Uplink, Downlink, Both}
use Rattle.units.specs.declared.values.UnitsSoFar.{UnitsSoFar}
use Rattle.units.specs.Limits.{limits_of}
use Rattle.units.specs.Units.{no_units, read_units, unit_holds, unit_shapes, unit_puts, unit_rules}
use Rattle.group.specs.Shapes as shape
use Rattle.draft.specs.Octets.{be64, written}
use Rattle.wire.specs.Octets.{units_data}
use Rattle.trip.specs.Own.{Octets, OwnUnits, total, uplink, downlink, both}
use Rattle.trip.specs.Laws.First.{seen}
use Rattle.trip.specs.Laws.Parts.{left, right, data_of}
use Rattle.trip.specs.Laws.Undo.{same_ok, unstep, undo_64, again_64, opened, ended_as}

-- one number: what it is, and the others
number : (s : UnitsSoFar) (place : ℕ) (rest : List ℕ) {final : UnitsSoFar} (n : Name) (put : ℕ → UnitsSoFar) → shape.admits unit_shapes (unit_holds s) n ≡ true → ((a : Parsed) → field.value_of n (limits_of s.granted n) a ≡ field.value_by field.Unsigned64 (limits_of s.granted n) a) → ((x : ℕ) → unit_puts s n (field.Number x) place ≡ Ok (put x)) → {ds : List ℕ} → Octets ds → gather (member unit_rules) s (avps (record { place = place; octets = written n ds ++ rest })) ≡ Ok final → (x : ℕ) × (be64 x ≡ ds) × (gather (member unit_rules) (put x) (avps (seen n place ds rest).rest) ≡ Ok final)
number s place rest {final} n put fits is puts {ds} ok e =
    let u = unstep unit_rules s n place ds rest final ok.short fits e in
    let v = undo_64 (limits_of s.granted n) (seen n place ds rest) u.value (sym (is (seen n place ds rest)) ∙ u.held) in
    let next : u.next ≡ put (u64_at ds 0) = same_ok _ _ (sym u.put ∙ ap (λ w. unit_puts s n w place) v.2 ∙ puts (u64_at ds 0)) in
    (u64_at ds 0, again_64 ds v.0 ok.small, ap (λ t. gather (member unit_rules) t (avps (seen n place ds rest).rest)) (sym next) ∙ u.others)

-- a group of one number
lone : (granted : Bool) (at : ℕ) (n : Name) (ds : List ℕ) (v : Units) → read_units granted (record { place = at; octets = written n ds }) ≡ Ok v → (final : UnitsSoFar) × (gather (member unit_rules) (no_units granted) (avps (record { place = at; octets = written n ds ++ [] })) ≡ Ok final) × (ended unit_rules (record { place = at; octets = written n ds }) final ≡ Ok v)
unfolding read_units
lone granted at n ds v e = opened unit_rules (no_units granted) (record { place = at; octets = written n ds }) (written n ds ++ []) v (append-nil (written n ds)) e

pub units_again : (granted : Bool) (at : ℕ) {u : List ℕ} → OwnUnits u → Octets u → (v : Units) → read_units granted (record { place = at; octets = u }) ≡ Ok v → units_data v ≡ u
unfolding read_units
units_again granted at (total x) ok v e =
    let a = lone granted at CcTotalOctets x v e in
    let b = number (no_units granted) at [] CcTotalOctets (λ y. record { granted = granted; total = Some y; uplink = None; downlink = None }) refl (λ p. refl) (λ y. refl) (data_of CcTotalOctets x ok) a.1 in
    let w : Total b.0 ≡ v = same_ok _ _ (ended_as unit_rules (record { granted = granted; total = Some b.0; uplink = None; downlink = None }) (record { place = at; octets = written CcTotalOctets x }) _ b.2 a.2) in
    ap units_data (sym w) ∙ ap (written CcTotalOctets) b.1
units_again granted at (uplink x) ok v e =
    let a = lone granted at CcInputOctets x v e in
    let b = number (no_units granted) at [] CcInputOctets (λ y. record { granted = granted; total = None; uplink = Some y; downlink = None }) refl (λ p. refl) (λ y. refl) (data_of CcInputOctets x ok) a.1 in
    let w : Uplink b.0 ≡ v = same_ok _ _ (ended_as unit_rules (record { granted = granted; total = None; uplink = Some b.0; downlink = None }) (record { place = at; octets = written CcInputOctets x }) _ b.2 a.2) in
    ap units_data (sym w) ∙ ap (written CcInputOctets) b.1
units_again granted at (downlink x) ok v e =
    let a = lone granted at CcOutputOctets x v e in
    let b = number (no_units granted) at [] CcOutputOctets (λ y. record { granted = granted; total = None; uplink = None; downlink = Some y }) refl (λ p. refl) (λ y. refl) (data_of CcOutputOctets x ok) a.1 in
    let w : Downlink b.0 ≡ v = same_ok _ _ (ended_as unit_rules (record { granted = granted; total = None; uplink = None; downlink = Some b.0 }) (record { place = at; octets = written CcOutputOctets x }) _ b.2 a.2) in
    ap units_data (sym w) ∙ ap (written CcOutputOctets) b.1
units_again granted at (both x y) ok v e =
    let X : List ℕ = written CcInputOctets x in
    let Y : List ℕ = written CcOutputOctets y in
    let a = opened unit_rules (no_units granted) (record { place = at; octets = X ++ Y }) (X ++ (Y ++ [])) v (ap (λ (l : List ℕ). X ++ l) (append-nil Y)) e in
    let b = number (no_units granted) at (Y ++ []) CcInputOctets (λ z. record { granted = granted; total = None; uplink = Some z; downlink = None }) refl (λ p. refl) (λ z. refl) (data_of CcInputOctets x (left X Y ok)) a.1 in
    let c = number (record { granted = granted; total = None; uplink = Some b.0; downlink = None }) _ [] CcOutputOctets (λ z. record { granted = granted; total = None; uplink = Some b.0; downlink = Some z }) refl (λ p. refl) (λ z. refl) (data_of CcOutputOctets y (right X Y ok)) b.2 in
    let w : Both b.0 c.0 ≡ v = same_ok _ _ (ended_as unit_rules (record { granted = granted; total = None; uplink = Some b.0; downlink = Some c.0 }) (record { place = at; octets = X ++ Y }) _ c.2 a.2) in
    ap units_data (sym w) ∙ (λ i. written CcInputOctets (b.1 i) ++ written CcOutputOctets (c.1 i))
