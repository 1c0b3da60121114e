-- A unit group reads back.
use Rattle.std.proofs.Common.{◌≡◌, ℕ, ◌^◌, ◌<◌, ◌≤◌, Bool, true, false, leb, List, [], ◌++◌, length, Some, None, Ok, sym, refl, ap, ◌∙◌, append-nil, arith}
use Rattle.std.proofs.lemmas.Bool.{and_parts, leb-true}
use Rattle.avp.specs.declared.name.Name.{Name}
use Rattle.avp.specs.declared.name.Name.TheVariants.{CcInputOctets, CcOutputOctets, CcTotalOctets}
use Rattle.avp.specs.Fields.{Number, Unsigned64, allows, value_by, value_of}
use Rattle.avp.specs.Header.{Parsed}
use Rattle.group.specs.Walk.{avps, gather}
use Rattle.group.specs.Members.{member}
use Rattle.units.specs.declared.values.Units.{Units}
use Rattle.units.specs.declared.values.Units.TheVariants.{Total, Uplink, Downlink, Both}
use Rattle.units.specs.Limits.{limits_of}
use Rattle.units.specs.Units.{no_units, read_units, unit_holds, unit_puts, unit_rules, unit_shapes}
use Rattle.units.specs.declared.values.UnitsSoFar.{UnitsSoFar}
use Rattle.group.specs.Shapes as shape
use Rattle.draft.specs.Octets.{be64, written}
use Rattle.wire.specs.Octets.{units_data}
use Rattle.wire.specs.Sound.{sound_units}
use Rattle.trip.specs.Laws.First.{seen}
use Rattle.trip.specs.Laws.Steps.{step, value_64, closed}

-- what a limit allows has 64 bits
small : (granted : Bool) (n : Name) (x : ℕ) → (limits_of granted n).most ≤ 2199023255550 → allows (limits_of granted n) x ≡ true → x < 2 ^ 64
small granted n x top h = omega (arith, leb-true x (limits_of granted n).most (and_parts (leb (limits_of granted n).least x) (leb x (limits_of granted n).most) h).1)

top_total : (granted : Bool) → (limits_of granted CcTotalOctets).most ≤ 2199023255550
top_total true = omega arith
top_total false = omega arith

-- one number, then the others
module _ (s : UnitsSoFar) (place : ℕ) (rest : List ℕ) where
  number : (n : Name) (put : ℕ → UnitsSoFar) → shape.admits unit_shapes (unit_holds s) n ≡ true → ((a : Parsed) → value_of n (limits_of s.granted n) a ≡ value_by Unsigned64 (limits_of s.granted n) a) → ((x : ℕ) → unit_puts s n (Number x) place ≡ Ok (put x)) → (x : ℕ) → (limits_of s.granted n).most ≤ 2199023255550 → allows (limits_of s.granted n) x ≡ true → gather (member unit_rules) s (avps (record { place = place; octets = written n (be64 x) ++ rest })) ≡ gather (member unit_rules) (put x) (avps (seen n place (be64 x) rest).rest)
  number n put fits is puts x top h =
      step unit_rules s (put x) n (Number x) place (be64 x) rest (omega arith) fits (is (seen n place (be64 x) rest) ∙ value_64 (limits_of s.granted n) (seen n place (be64 x) rest) x refl (small s.granted n x top h) h) (puts x)

pub units_back : (granted : Bool) (u : Units) (at : ℕ) → sound_units granted u ≡ true → read_units granted (record { place = at; octets = units_data u }) ≡ Ok u
unfolding read_units
units_back granted (Total x) at h =
    closed unit_rules _ _ _ _ _ _ (sym (append-nil (written CcTotalOctets (be64 x))))
    (number (no_units granted) at [] CcTotalOctets (λ y. record { granted = granted; total = Some y; uplink = None; downlink = None }) refl (λ a. refl) (λ y. refl) x (top_total granted) h) refl
units_back granted (Uplink x) at h =
    closed unit_rules _ _ _ _ _ _ (sym (append-nil (written CcInputOctets (be64 x))))
    (number (no_units granted) at [] CcInputOctets (λ y. record { granted = granted; total = None; uplink = Some y; downlink = None }) refl (λ a. refl) (λ y. refl) x (omega arith) h) refl
units_back granted (Downlink x) at h =
    closed unit_rules _ _ _ _ _ _ (sym (append-nil (written CcOutputOctets (be64 x))))
    (number (no_units granted) at [] CcOutputOctets (λ y. record { granted = granted; total = None; uplink = None; downlink = Some y }) refl (λ a. refl) (λ y. refl) x (omega arith) h) refl
units_back granted (Both x y) at h =
    let parts = and_parts (allows (limits_of granted CcInputOctets) x) (allows (limits_of granted CcOutputOctets) y) h in
    closed unit_rules _ _ _ _ _ _ (ap (λ (l : List ℕ). written CcInputOctets (be64 x) ++ l) (sym (append-nil (written CcOutputOctets (be64 y)))))
    (number (no_units granted) at (written CcOutputOctets (be64 y) ++ []) CcInputOctets (λ z. record { granted = granted; total = None; uplink = Some z; downlink = None }) refl (λ a. refl) (λ z. refl) x (omega arith) parts.0
    ∙ number (record { granted = granted; total = None; uplink = Some x; downlink = None }) _ [] CcOutputOctets (λ z. record { granted = granted; total = None; uplink = Some x; downlink = Some z }) refl (λ a. refl) (λ z. refl) y (omega arith) parts.1) refl

pub units_bound : (u : Units) → length (units_data u) ≤ 32
units_bound (Total x) = omega arith
units_bound (Uplink x) = omega arith
units_bound (Downlink x) = omega arith
units_bound (Both x y) = omega arith

pub units_short : (u : Units) → length (units_data u) < 65536
units_short u = omega (arith, units_bound u)
