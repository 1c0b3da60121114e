-- The text of a sound message reads back as that message, but for the places of its groups, which a text does not hold.
use Rattle.std.specs.Prelude.{◌≡◌, ℕ, ◌<◌, cond, List, [], ◌∷◌, map, Some, None, Ok, Option, Result, ◌==◌, slice_index}
use Rattle.fault.specs.declared.Fault.{Fault}
use Rattle.group.specs.Walk.{then}
use Rattle.key.specs.declared.key.Key.{Key}
use Rattle.key.specs.Keys.{octets_of}
use Rattle.message.specs.Keyed.{report_key, answer_key, command_key}
use Rattle.wire.specs.Sound.{report_fault, answer_fault, command_fault}
use Rattle.trip.specs.Back.{report_at, answer_at, command_at}
use Rattle.words.specs.declared.expected.Expected.{Expected}
use Rattle.text.specs.Messages.{Told, Reports, Answers, Orders, lines_of, regrouped, text_of}
use Rattle.text.specs.Reading.{line_read}

-- the lines of a text, each up to its line feed
abbrev pub onto : ℕ → List (List ℕ) → List (List ℕ)
onto c [] = (c ∷ []) ∷ []
onto c (line ∷ lines) = (c ∷ line) ∷ lines

abbrev pub lines_in : List ℕ → List (List ℕ)
lines_in [] = []
lines_in (c ∷ cs) = cond (c == 10) ([] ∷ lines_in cs) (onto c (lines_in cs))

-- line by line, up to the first that is refused
abbrev pub all_read : Option Told → List (List ℕ) → Result (Option Told) Expected
all_read so [] = Ok so
all_read so (line ∷ lines) = then (line_read so line) (λ next. all_read next lines)

abbrev pub text_read : List ℕ → Result (Option Told) Expected
text_read text = all_read None (lines_in text)

-- a message whose groups have no places
abbrev pub unplaced : Told → Told
unplaced (Reports m) = Reports (regrouped m (map (report_at 0) m.groups))
unplaced (Answers m) = Answers (regrouped m (map (answer_at 0) m.groups))
unplaced (Orders vs) = Orders (map (command_at 0) vs)

-- what a writer of octets refuses it with, if it does
abbrev pub told_fault : Told → Option Fault
told_fault (Reports m) = report_fault m
told_fault (Answers m) = answer_fault m
told_fault (Orders vs) = command_fault vs

-- the octets of each key are octets, as their type says
abbrev pub KeyOctets : Option Key → Type 0
KeyOctets None = Unit {0}
KeyOctets (Some k) = (i : ℕ) → slice_index (octets_of k) i < 256

abbrev pub AllOctets : {V : Type 0} → (V → Option Key) → List V → Type 0
AllOctets keyed [] = Unit {0}
AllOctets keyed (v ∷ vs) = KeyOctets (keyed v) × AllOctets keyed vs

abbrev pub ToldOctets : Told → Type 0
ToldOctets (Reports m) = AllOctets report_key m.groups
ToldOctets (Answers m) = AllOctets answer_key m.groups
ToldOctets (Orders vs) = AllOctets command_key vs

abbrev pub ReadsBack : Told → Type 0
ReadsBack m = ToldOctets m → told_fault m ≡ None → text_read (text_of (lines_of m)) ≡ Ok (Some (unplaced m))
