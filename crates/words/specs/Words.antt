-- The words of a text: a word ends before a space, and spaces before it do not count.
use Rattle.std.specs.Prelude.{ℕ, Bool, true, false, cond, not, List, length, take, drop, Ok, Err, Result, ◌==◌}
use Rattle.std.specs.List.{prefix_len}
use Rattle.words.specs.declared.expected.Expected.{Expected}
use Rattle.words.specs.declared.expected.Expected.TheVariants.{End}

-- a character of the first word, which ends before a space
abbrev pub in_word : ℕ → Bool
in_word c = not (c == 32)

-- how many characters stand before the first space
abbrev pub word_length : List ℕ → ℕ
word_length line = prefix_len in_word line

-- a space, or anything else
abbrev pub is_space : Bool → ℕ → Bool
is_space true c = c == 32
is_space false c = in_word c

-- a text without the spaces at its front
abbrev pub trimmed : List ℕ → List ℕ
trimmed text = drop (prefix_len (is_space true) text) text

-- the first word, empty where there is none, and what follows it
abbrev pub word_of : List ℕ → List ℕ
word_of text = take (word_length (trimmed text)) (trimmed text)

abbrev pub rest_of : List ℕ → List ℕ
rest_of text = drop (word_length (trimmed text)) (trimmed text)

-- no word is left
abbrev pub ended : List ℕ → Result (Unit {0}) Expected
ended text = cond (length (word_of text) == 0) (Ok tt) (Err End)
