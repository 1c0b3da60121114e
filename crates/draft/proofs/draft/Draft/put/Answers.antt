use Rattle.std.proofs.Common.{refl, rules}
use Rattle.std.proofs.lemmas.Slice.{overwrites}
use Rattle.std.proofs.lemmas.List.{places, drop-drop}
use Rattle.draft.proofs.draft.Draft.put.Goals as goal

pub returns : goal.returns
returns c = record { lent = refl; wrote = search (rules, overwrites, drop-drop); room = search rules; size = search (rules, places) }
