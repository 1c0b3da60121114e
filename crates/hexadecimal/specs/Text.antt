-- Hexadecimal text: two digits to an octet, digits in either case, spaces anywhere.
use Rattle.std.specs.Prelude.{◌≡◌, ℕ, ◌+◌, ◌-◌, ◌*◌, ◌/◌, ◌%◌, ◌<◌, cond, ◌&&◌, List, [], ◌∷◌, ◌⊎◌, Some, None, Ok, Err, Option, Result, MatchResult, ◌==◌, nat_le, nat_lt}
use Rattle.hexadecimal.specs.declared.error.HexError.{HexError}
use Rattle.hexadecimal.specs.declared.error.HexError.TheVariants.{NotADigit, Odd, NoMemory}

-- the value of a character that is a digit: 0 to 9, A to F, a to f
abbrev pub digit_of : ℕ → Option ℕ
digit_of c =
    cond (nat_le 48 c && nat_le c 57) (Some (c - 48))
    (cond (nat_le 65 c && nat_le c 70) (Some (c - 65 + 10))
    (cond (nat_le 97 c && nat_le c 102) (Some (c - 97 + 10)) None))

-- what follows a result that is no error
abbrev pub next : Result (List ℕ) HexError → (List ℕ → Result (List ℕ) HexError) → Result (List ℕ) HexError
next (Ok xs) f = f xs
next (Err e) f = Err e

-- a digit that was read at a place, before the others
abbrev pub before : Option ℕ → ℕ → Result (List ℕ) HexError → Result (List ℕ) HexError
before (Some d) i others = next others (λ ds. Ok (d ∷ ds))
before None i others = Err (NotADigit i)

-- the digits of a text whose first character stands at a place
abbrev pub digits : ℕ → List ℕ → Result (List ℕ) HexError
digits i [] = Ok []
digits i (c ∷ cs) = cond (c == 32) (digits (i + 1) cs) (before (digit_of c) i (digits (i + 1) cs))

-- the octets of digits, two to an octet
abbrev pub paired : List ℕ → Result (List ℕ) HexError
paired [] = Ok []
paired (h ∷ []) = Err Odd
paired (h ∷ (l ∷ ds)) = next (paired ds) (λ os. Ok ((16 * h + l) ∷ os))

-- the octets of a text
abbrev pub octets_of : List ℕ → Result (List ℕ) HexError
octets_of text = next (digits 0 text) paired

-- an error's place lies within a text of that length
abbrev pub Inside : HexError → ℕ → Type 0
Inside (NotADigit i) n = i < n
Inside Odd n = Unit {0}
Inside NoMemory n = Unit {0}

-- the lowercase digit of a value below 16
abbrev pub letter_of : ℕ → ℕ
letter_of d = cond (nat_lt d 10) (48 + d) (97 + (d - 10))

-- the text of octets
abbrev pub text_of : List ℕ → List ℕ
text_of [] = []
text_of (o ∷ os) = letter_of (o / 16) ∷ (letter_of (o % 16) ∷ text_of os)

-- what a call answers that may want memory: else its value or its error is the one that is meant
abbrev pub Answers : {V W E : Type 0} → E → (V → W) → Result V E → Result W E → Type 0
Answers wanting view r is = MatchResult r (λ v. is ≡ Ok (view v)) (λ e. (e ≡ wanting) ⊎ (is ≡ Err e))
