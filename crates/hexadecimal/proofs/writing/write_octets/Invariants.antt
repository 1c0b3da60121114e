use Rattle.std.proofs.Common.{◌≡◌, ℕ, List, ◌++◌, drop}
use Rattle.std.specs.Fmt.{HasWritten, IsPlainFormatter}
use Rattle.hexadecimal.specs.Text.{text_of}
use Rattle.hexadecimal.proofs.writing.write_octets.Given as goal

-- what is written and what is still to be written make the whole text
abbrev pub invariant-loop-octet : goal.invariant-loop-octet
invariant-loop-octet g l =
    IsPlainFormatter l.initial.f → (done : List ℕ) × HasWritten g.W.Write.write_str_gives l.initial.f done l.f × (done ++ text_of (drop l.octet-index l.octets) ≡ text_of l.octets)
