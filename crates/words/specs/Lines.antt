-- A line of input, whatever it says.
use Rattle.std.specs.Prelude.{ℕ, ◌-◌, Bool, true, cond, ◌&&◌, ◌||◌, List, [], ◌∷◌, length, take, ◌==◌, slice_index}
use Rattle.std.specs.Char.{is_ascii_whitespace}

-- a line without a carriage return at its end
abbrev pub shorn : List ℕ → List ℕ
shorn line = cond (slice_index line (length line - 1) == 13) (take (length line - 1) line) line

abbrev pub blank : List ℕ → Bool
blank [] = true
blank (c ∷ cs) = is_ascii_whitespace c && blank cs

-- lines that say nothing: comments, which begin with #, and blank ones
abbrev pub skipped : List ℕ → Bool
skipped line = slice_index line 0 == 35 || blank line
