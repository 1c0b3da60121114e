-- A test of every character.
use Rattle.std.proofs.Common.{◌≡◌, ℕ, Bool, ◌&&◌, List, [], ◌∷◌, refl, ap}
use Rattle.std.specs.Char.{is_ascii_whitespace}
use Rattle.std.specs.List.{list_all}
use Rattle.words.specs.Lines.{blank}

pub every_all : (p : ℕ → Bool) (text : List ℕ) → list_all p text ≡ list_all p text
every_all p [] = refl
every_all p (c ∷ cs) = ap (λ b. p c && b) (every_all p cs)

pub blank_all : (line : List ℕ) → list_all is_ascii_whitespace line ≡ blank line
blank_all [] = refl
blank_all (c ∷ cs) = ap (λ b. is_ascii_whitespace c && b) (blank_all cs)
