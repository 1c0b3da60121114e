use Rattle.std.proofs.Common.{vec_items}
use Rattle.hexadecimal.proofs.Steps.{Reads}
use Rattle.hexadecimal.proofs.reading.decode.Given as goal

-- what is read and what is still to be read make the whole
abbrev pub invariant-loop-place : goal.invariant-loop-place
invariant-loop-place l = Reads (vec_items l.octets) l.high l.place l.text
