-- A text that is read line by line, as it stands in a file.
use Rattle.std.specs.Prelude.{ℕ, cond, List, Some, None, Ok, Err, Option, Result}
use Rattle.std.specs.Option.{option_map}
use Rattle.group.specs.Walk.{then}
use Rattle.words.specs.declared.expected.Expected.{Expected}
use Rattle.words.specs.declared.expected.Expected.TheVariants as expected
use Rattle.text.specs.declared.values.Reading as code
use Rattle.words.specs.Lines.{shorn, skipped}
use Rattle.text.specs.Messages.{Told, begun, extended, meant}

-- the message so far
abbrev pub so_far : code.Reading → Option Told
so_far r = option_map meant r.message

-- the first line begins the message, each other adds a group
abbrev pub goes_on : Option Told → List ℕ → Result (Option Told) Expected
goes_on None line = then (begun line) (λ m. Ok (Some m))
goes_on (Some m) line = then (extended m line) (λ n. Ok (Some n))

-- blank lines and comments say nothing, nor does a carriage return
abbrev pub line_read : Option Told → List ℕ → Result (Option Told) Expected
line_read so line = cond (skipped (shorn line)) (Ok so) (goes_on so (shorn line))

abbrev pub whole_of : Option Told → Result Told Expected
whole_of None = Err expected.Kind
whole_of (Some m) = Ok m
