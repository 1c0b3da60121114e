-- The groups of a message, as a list.
use Rattle.std.specs.Prelude.{min, List, take}
use Rattle.message.specs.declared.groups.Groups.{Groups}

abbrev pub list_of : {V : Type 0} → Groups V → List V
list_of g = take (min g.count 16) g.items
