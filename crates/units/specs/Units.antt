-- A unit group: CC-Total-Octets alone, CC-Input-Octets (uplink) alone, CC-Output-Octets (downlink) alone, or both
-- directions.
use Rattle.std.specs.Prelude.{ℕ, Bool, false, cond, List, [], ◌∷◌, is_some, Some, None, Ok, Option, Result}
use Rattle.fault.specs.declared.Fault.{Fault}
use Rattle.avp.specs.declared.name.Name.{Name}
use Rattle.avp.specs.declared.name.Name.TheVariants.{CcInputOctets, CcOutputOctets, CcTotalOctets}
use Rattle.avp.specs.Header.{Span}
use Rattle.avp.specs.Names.{is}
use Rattle.avp.specs.Fields.{Value, Number, Key, Group}
use Rattle.group.specs.Members.{Rules, read_group}
use Rattle.units.specs.declared.values.Units.{Units}
use Rattle.units.specs.declared.values.Units.TheVariants.{Total, Uplink, Downlink, Both}
use Rattle.units.specs.declared.values.UnitsSoFar.{UnitsSoFar}
use Rattle.units.specs.Limits.{limits_of}

abbrev pub unit_shapes : List (List Name)
unit_shapes = (CcTotalOctets ∷ []) ∷ (CcInputOctets ∷ []) ∷ (CcOutputOctets ∷ []) ∷ (CcInputOctets ∷ CcOutputOctets ∷ []) ∷ []

abbrev pub no_units : Bool → UnitsSoFar
no_units granted = record { granted = granted; total = None; uplink = None; downlink = None }

abbrev pub unit_holds : UnitsSoFar → Name → Bool
unit_holds u n =
    cond (is n CcTotalOctets) (is_some u.total)
    (cond (is n CcInputOctets) (is_some u.uplink)
    (cond (is n CcOutputOctets) (is_some u.downlink)
    false))

abbrev pub unit_puts : UnitsSoFar → Name → Value → ℕ → Result UnitsSoFar Fault
unit_puts u n (Number x) at =
    cond (is n CcTotalOctets) (Ok (record { granted = u.granted; total = Some x; uplink = u.uplink; downlink = u.downlink }))
    (cond (is n CcInputOctets) (Ok (record { granted = u.granted; total = u.total; uplink = Some x; downlink = u.downlink }))
    (cond (is n CcOutputOctets) (Ok (record { granted = u.granted; total = u.total; uplink = u.uplink; downlink = Some x }))
    (Ok u)))
unit_puts u n (Key ks) at = Ok u
unit_puts u n (Group g) at = Ok u

-- the last case is of no shape
abbrev pub units_of : Option ℕ → Option ℕ → Option ℕ → Units
units_of (Some t) u d = Total t
units_of None (Some u) (Some d) = Both u d
units_of None (Some u) None = Uplink u
units_of None None (Some d) = Downlink d
units_of None None None = Total 0

abbrev pub unit_rules : Rules UnitsSoFar Units
unit_rules = record {
  shapes = λ u. unit_shapes;
  holds = unit_holds;
  limits = λ u. limits_of u.granted;
  puts = unit_puts;
  whole = λ u. units_of u.total u.uplink u.downlink;
}

-- the data of a Granted- or Used-Service-Unit
unfoldable pub read_units : Bool → Span → Result Units Fault
read_units granted g = read_group unit_rules (no_units granted) g
