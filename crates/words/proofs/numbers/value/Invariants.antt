use Rattle.std.proofs.Common.{◌≡◌, drop}
use Rattle.words.specs.Numbers.{value_of}
use Rattle.words.proofs.numbers.value.Given as goal

-- the digits that are left make the number
abbrev pub invariant-loop-character : goal.invariant-loop-character
invariant-loop-character l = value_of l.number (drop l.character-index l.digits) ≡ value_of 0 l.digits
