use Rattle.std.proofs.Common.{◌≡◌, ◌*◌, length, take, drop}
use Rattle.words.specs.Keys.{pairs}
use Rattle.words.proofs.Pairs.{behind}
use Rattle.words.proofs.keys.read_hex.Given as goal

-- the octets so far and those of the digits that are left make the whole
abbrev pub invariant-loop-place : goal.invariant-loop-place
invariant-loop-place l = (length l.octets ≡ 16) × (behind (take l.place l.octets) (pairs (drop (2 * l.place) l.digits)) ≡ pairs l.digits)
