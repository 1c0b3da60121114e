-- A key in a text: its characters where all of them print and none could be taken for something else, or `x:` and its
-- octets in hexadecimal.
use Rattle.std.specs.Prelude.{ℕ, ◌+◌, ◌*◌, ◌%◌, Bool, cond, not, ◌&&◌, List, [], ◌∷◌, ◌++◌, length, take, drop, Some, None, Ok, Err, codes, Option, Result, ◌==◌, nat_le}
use Rattle.std.specs.List.{list_all}
use Rattle.std.specs.Char.{is_ascii_graphic}
use Rattle.std.specs.Str.{bytes_eq}
use Rattle.hexadecimal.specs.Text.{digit_of, text_of}
use Rattle.key.specs.declared.key.Key.{Key}
use Rattle.key.specs.Keys.{key_of}
use Rattle.words.specs.declared.expected.Expected.{Expected}
use Rattle.words.specs.declared.expected.Expected.TheVariants as expected

-- a character that prints, and is no colon, # or @
abbrev pub plain_one : ℕ → Bool
plain_one c = is_ascii_graphic c && (not (c == 58) && (not (c == 35) && not (c == 64)))

abbrev pub plain : List ℕ → Bool
plain characters = list_all plain_one characters

-- the text of a key's octets
abbrev pub key_text : List ℕ → List ℕ
key_text octets = cond (plain octets) octets (codes "x:" ++ text_of octets)

abbrev pub octet_of : Option ℕ → Option ℕ → Option ℕ
octet_of (Some high) (Some low) = Some (16 * high + low)
octet_of (Some high) None = None
octet_of None low = None

abbrev pub before : Option ℕ → Option (List ℕ) → Option (List ℕ)
before (Some o) (Some os) = Some (o ∷ os)
before (Some o) None = None
before None os = None

-- the octets of hexadecimal digits, two to an octet
abbrev pub pairs : List ℕ → Option (List ℕ)
pairs [] = Some []
pairs (h ∷ []) = None
pairs (h ∷ (l ∷ ds)) = before (octet_of (digit_of h) (digit_of l)) (pairs ds)

abbrev pub key_of_some : Option (List ℕ) → Option Key
key_of_some None = None
key_of_some (Some octets) = key_of octets

-- so many digits may write a key: an even number, for 16 octets at most
abbrev pub paired : ℕ → Bool
paired count = count % 2 == 0 && nat_le count 32

-- the key of hexadecimal digits
abbrev pub hex_key : List ℕ → Option Key
hex_key ds = cond (paired (length ds)) (key_of_some (pairs ds)) None

abbrev pub expecting : {X : Type 0} → Expected → Option X → Result X Expected
expecting e None = Err e
expecting e (Some x) = Ok x

-- the key that a word writes
abbrev pub key_read : List ℕ → Result Key Expected
key_read word =
    cond (bytes_eq (take 2 word) (codes "x:")) (expecting expected.HexKey (hex_key (drop 2 word)))
    (expecting expected.Key (cond (plain word) (key_of word) None))
