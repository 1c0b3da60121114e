use Rattle.std.proofs.Common.{◌≡◌, ℕ, List, ◌++◌, length}
use Rattle.std.specs.Fmt.{HasWritten, IsPlainFormatter}
use Rattle.hexadecimal.specs.Text.{text_of}
use Rattle.hexadecimal.proofs.writing.HexDisplay.fmt.Given as goal

-- what is written and what is still to be written make the whole text
abbrev pub invariant-loop-octets : goal.invariant-loop-octets
invariant-loop-octets g l =
    IsPlainFormatter l.initial.f → (done : List ℕ) × HasWritten g.W.Write.write_str_gives l.initial.f done l.f × (done ++ text_of l.octets ≡ text_of l.initial.octets)

abbrev pub decreases-loop-octets : goal.decreases-loop-octets
decreases-loop-octets g l = length l.octets
