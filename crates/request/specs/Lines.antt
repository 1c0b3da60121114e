-- A line of input: a kind, then octets in hexadecimal, a dash for none, or nothing. The kinds are given from outside.
use Rattle.std.specs.Prelude.{ℕ, ◌+◌, Bool, cond, List, [], ◌∷◌, take, drop, Some, None, Ok, Err, codes, Option, Result, ◌==◌}
use Rattle.std.specs.Str.{bytes_eq}
use Rattle.hexadecimal.specs.declared.error.HexError.{HexError}
use Rattle.hexadecimal.specs.declared.error.HexError.TheVariants as hex
use Rattle.hexadecimal.specs.Text.{octets_of}
use Rattle.words.specs.Words.{word_length}
use Rattle.request.specs.declared.line.LineError.{LineError}
use Rattle.request.specs.declared.line.LineError.TheVariants.{UnknownKind, NotADigit, OddDigits, NoMemory}

abbrev pub kind_of : {K : Type 0} → K → K → K → List ℕ → Option K
kind_of report answer command word =
    cond (bytes_eq word (codes "report")) (Some report)
    (cond (bytes_eq word (codes "answer")) (Some answer)
    (cond (bytes_eq word (codes "command")) (Some command) None))

-- a text without its spaces
abbrev pub bare : List ℕ → List ℕ
bare [] = []
bare (c ∷ cs) = cond (c == 32) (bare cs) (c ∷ bare cs)

-- one dash, with spaces around it or not
abbrev pub dash : List ℕ → Bool
dash text = bytes_eq (bare text) (codes "-")

-- what is wrong with octets that begin at a column
abbrev pub in_line : ℕ → HexError → LineError
in_line column (hex.NotADigit i) = NotADigit (column + i + 1)
in_line column hex.Odd = OddDigits
in_line column hex.NoMemory = NoMemory

abbrev pub placed : ℕ → Result (List ℕ) HexError → Result (List ℕ) LineError
placed column (Ok octets) = Ok octets
placed column (Err e) = Err (in_line column e)

-- the octets of the text after a word of so many characters
abbrev pub octets_after : ℕ → List ℕ → Result (List ℕ) LineError
octets_after column text = cond (dash text) (Ok []) (placed column (octets_of text))

abbrev pub joined : {K : Type 0} → Option K → Result (List ℕ) LineError → Result (K × List ℕ) LineError
joined None octets = Err UnknownKind
joined (Some kind) (Ok octets) = Ok (kind, octets)
joined (Some kind) (Err e) = Err e

-- the message of a line
abbrev pub message_of : {K : Type 0} → K → K → K → List ℕ → Result (K × List ℕ) LineError
message_of report answer command line =
    joined (kind_of report answer command (take (word_length line) line)) (octets_after (word_length line) (drop (word_length line) line))
