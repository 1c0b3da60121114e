-- Plain characters are ASCII, and so are text.
use Rattle.std.proofs.Common.{◌≡◌, ℕ, zero, suc, ◌<◌, true, false, List, [], ◌∷◌, Ok, Err, Option, Result, MatchOption, MatchResult, Bor, IsUtf8, IsAscii, arith}
use Rattle.std.specs.declared.str.Utf8Error.{Utf8Error}
use Rattle.std.specs.Result.{result_ok}
use Rattle.std.specs.Str.{IsValidUpTo, valid_up_to}
use Rattle.std.proofs.lemmas.Bool.{and_parts}
use Rattle.std.proofs.lemmas.Str.{IsUtf8-from_ascii}
use Rattle.std.proofs.lemmas.Bool.Decides.{nat_tests}
use Rattle.words.specs.Keys.{plain, plain_one}

one_ascii : (c : ℕ) → plain_one c ≡ true → c < 128
one_ascii c e = grind (arith, nat_tests)

pub plain_ascii : (cs : List ℕ) → plain cs ≡ true → IsAscii cs
plain_ascii [] e i = omega arith
plain_ascii (c ∷ cs) e zero = one_ascii c (and_parts (plain_one c) (plain cs) e).0
plain_ascii (c ∷ cs) e (suc i) = plain_ascii cs (and_parts (plain_one c) (plain cs) e).1 i

abbrev Read : (cs : List ℕ) → Result (Bor (List ℕ)) Utf8Error → Type 0
Read cs r = MatchResult r (λ s. (s.now ≡ cs) × IsUtf8 cs) (λ e. (IsUtf8 cs → ⊥) × IsValidUpTo cs (valid_up_to e))

-- what is plain is read as text, and as the same octets
pub plain_text : (cs : List ℕ) (r : Result (Bor (List ℕ)) Utf8Error) (o : Option (Bor (List ℕ))) → plain cs ≡ true → Read cs r → o ≡ result_ok r
    → MatchOption o (plain cs ≡ false) (λ s. (s.now ≡ cs) × (plain cs ≡ true))
plain_text cs (Ok s) o is read e = rw e (read.0, is)
plain_text cs (Err f) o is read e = absurd (read.0 (IsUtf8-from_ascii cs (plain_ascii cs is)))
