-- The faults of a unit group lie within the message.
use Rattle.std.proofs.Common.{ℕ, ◌≤◌, Bool}
use Rattle.avp.specs.declared.name.Name.{Name}
use Rattle.avp.specs.declared.name.Name.TheVariants.{CcInputOctets, CcOutputOctets, CcTotalOctets}
use Rattle.avp.specs.Header.{Span}
use Rattle.avp.specs.Names.{is}
use Rattle.avp.specs.Fields.{Value, Number, Key, Group}
use Rattle.group.proofs.Within.{Inside, SpanIn, ValueIn, fine, fine_cond, read_in}
use Rattle.units.specs.declared.values.UnitsSoFar.{UnitsSoFar}
use Rattle.units.specs.Units.{no_units, read_units, unit_puts, unit_rules}

puts_in : (size : ℕ) (u : UnitsSoFar) (n : Name) (v : Value) (at : ℕ) → at ≤ size → ValueIn size v → Inside size (unit_puts u n v at)
puts_in size u n (Number x) at h k = fine_cond (is n CcTotalOctets) _ _ (fine tt) (fine_cond (is n CcInputOctets) _ _ (fine tt) (fine_cond (is n CcOutputOctets) _ _ (fine tt) (fine tt)))
puts_in size u n (Key ks) at h k = fine tt
puts_in size u n (Group s) at h k = fine tt

pub units_in : (size : ℕ) (granted : Bool) (g : Span) → SpanIn size g → Inside size (read_units granted g)
unfolding read_units
units_in size granted g h = read_in size unit_rules (puts_in size) (no_units granted) g h
