-- The word of each layer, as people are told it.
use Rattle.std.specs.Prelude.{ℕ, List, codes}
use Rattle.fault.specs.declared.Layer.{Layer}
use Rattle.fault.specs.declared.Layer.TheVariants.{Avp, Group, Call}

abbrev pub layer_word : Layer → List ℕ
layer_word Avp = codes "avp"
layer_word Group = codes "group"
layer_word Call = codes "call"
