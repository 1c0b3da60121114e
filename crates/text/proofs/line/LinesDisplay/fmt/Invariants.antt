use Rattle.std.proofs.Common.{◌≡◌, ℕ, List, ◌++◌, map, drop}
use Rattle.std.specs.Fmt.{HasWritten, IsPlainFormatter}
use Rattle.text.specs.Messages.{text_of}
use Rattle.text.proofs.line.LinesDisplay.fmt.Given as goal

-- what is written and what is still to be written make the whole text
abbrev pub invariant-loop-group : goal.invariant-loop-group
invariant-loop-group g l =
    IsPlainFormatter l.initial.f → (done : List ℕ) × HasWritten g.W.Write.write_str_gives l.initial.f done l.f
    × (done ++ text_of (map g.V.Line.lined (drop l.group-index l.group-items)) ≡ text_of (map g.V.Line.lined l.group-items))
