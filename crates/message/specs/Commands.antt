-- A command: groups, and nothing else that is known.
use Rattle.std.specs.Prelude.{ℕ, Bool, false, cond, List, [], ◌∷◌, length, Ok, Result, nat_lt}
use Rattle.fault.specs.declared.Fault.{Fault}
use Rattle.avp.specs.declared.name.Name.{Name}
use Rattle.avp.specs.declared.name.Name.TheVariants.{UsageMonitoringInformation}
use Rattle.avp.specs.Names.{is}
use Rattle.avp.specs.Fields as field
use Rattle.group.specs.Walk.{then}
use Rattle.group.specs.Members.{Rules, read_group}
use Rattle.units.specs.Limits.{limits_of}
use Rattle.information.specs.declared.values.CommandGroup.{CommandGroup}
use Rattle.information.specs.Command.{read_command_group}
use Rattle.message.specs.declared.values.Command.{Command}
use Rattle.message.specs.Groups.{list_of}
use Rattle.message.specs.Keyed.{added, command_key}

abbrev pub shapes : List (List Name)
shapes = [] ∷ (UsageMonitoringInformation ∷ []) ∷ []

abbrev pub holds : List CommandGroup → Name → Bool
holds vs n = cond (is n UsageMonitoringInformation) (nat_lt 0 (length vs)) false

abbrev pub puts : List CommandGroup → Name → field.Value → ℕ → Result (List CommandGroup) Fault
puts vs n (field.Number x) at = Ok vs
puts vs n (field.Key ks) at = Ok vs
puts vs n (field.Group s) at = cond (is n UsageMonitoringInformation) (then (read_command_group at s) (added command_key vs at)) (Ok vs)

abbrev pub rules : Rules (List CommandGroup) (List CommandGroup)
rules = record {
  shapes = λ vs. shapes;
  holds = holds;
  limits = λ vs. limits_of false;
  puts = puts;
  whole = λ vs. vs;
}

-- the command of these octets, its groups in their order
abbrev pub read_command : List ℕ → Result (List CommandGroup) Fault
read_command bs = read_group rules [] (record { place = 0; octets = bs })

-- the code's value as those above
abbrev pub orders : Command → List CommandGroup
orders c = list_of c.groups
