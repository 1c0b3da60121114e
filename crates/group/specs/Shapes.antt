-- Which members may stand in a group. A shape is the list of members of one permitted kind of group.
use Rattle.std.specs.Prelude.{Bool, true, cond, not, ◌&&◌, List}
use Rattle.std.specs.List.{list_all, list_any}
use Rattle.avp.specs.declared.name.Name.{Name}
use Rattle.avp.specs.declared.name.Name.TheVariants.{UsageMonitoringInformation}
use Rattle.avp.specs.Names.{names, is}

abbrev pub among : Name → List Name → Bool
among n shape = list_any (is n) shape

-- a group has no other members than those of a shape
abbrev pub within : (Name → Bool) → List Name → Bool
within holds shape = list_all (λ n. cond (among n shape) true (not (holds n))) names

-- and has all of them
abbrev pub fills : (Name → Bool) → List Name → Bool
fills holds shape = list_all holds shape

-- Usage-Monitoring-Information alone may stand more than once
abbrev pub repeated : (Name → Bool) → Name → Bool
repeated holds n = holds n && not (is n UsageMonitoringInformation)

-- a member that comes after those that a group holds: it does not repeat one, and some shape has it and them
abbrev pub admits : List (List Name) → (Name → Bool) → Name → Bool
admits shapes holds n = not (repeated holds n) && list_any (λ shape. among n shape && within holds shape) shapes

-- a group at its end: it is one of the shapes
abbrev pub complete : List (List Name) → (Name → Bool) → Bool
complete shapes holds = list_any (λ shape. within holds shape && fills holds shape) shapes
