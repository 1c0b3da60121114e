-- Numbers: decimal digits and nothing else, with or without zeros in front.
use Rattle.std.specs.Prelude.{ℕ, ◌+◌, ◌-◌, ◌*◌, ◌^◌, cond, ◌&&◌, List, [], ◌∷◌, length, Some, None, Ok, Err, Option, Result, ◌==◌, nat_lt}
use Rattle.std.specs.Char.{is_ascii_digit}
use Rattle.avp.specs.declared.field.Limits.{Limits}
use Rattle.avp.specs.Fields.{allows}
use Rattle.group.specs.Walk.{then}
use Rattle.words.specs.declared.expected.Expected.{Expected}
use Rattle.words.specs.declared.expected.Expected.TheVariants.{Number}
use Rattle.words.specs.Words.{word_of, rest_of, ended}

-- a number with one digit more, as long as it fits 64 bits
abbrev pub longer : ℕ → ℕ → Option ℕ
longer n c = cond (is_ascii_digit c && nat_lt (10 * n + (c - 48)) (2 ^ 64)) (Some (10 * n + (c - 48))) None

abbrev pub onward : Option ℕ → (ℕ → Option ℕ) → Option ℕ
onward None f = None
onward (Some n) f = f n

-- the number that digits make behind those of n
abbrev pub value_of : ℕ → List ℕ → Option ℕ
value_of n [] = Some n
value_of n (c ∷ cs) = onward (longer n c) (λ m. value_of m cs)

abbrev pub within : Limits → Option ℕ → Result ℕ Expected
within limits None = Err (Number limits)
within limits (Some n) = cond (allows limits n) (Ok n) (Err (Number limits))

-- the number that a word writes
abbrev pub number_of : Limits → List ℕ → Result ℕ Expected
number_of limits word = cond (length word == 0) (Err (Number limits)) (within limits (value_of 0 word))

-- the number that ends a line
abbrev pub last_number : Limits → List ℕ → Result ℕ Expected
last_number limits text = then (number_of limits (word_of text)) (λ n. then (ended (rest_of text)) (λ _. Ok n))
