-- A whole message as text: a first line with its kind, and a line for each group.
use Rattle.std.specs.Prelude.{◌≡◌, ℕ, false, cond, List, [], ◌∷◌, ◌++◌, map, length, Ok, Err, codes, decimal, Option, Result, nat_lt}
use Rattle.std.specs.Str.{bytes_eq}
use Rattle.avp.specs.declared.name.Name.TheVariants.{CcRequestNumber}
use Rattle.group.specs.Walk.{then}
use Rattle.key.specs.declared.key.Key.{Key}
use Rattle.units.specs.declared.values.RequestType.{RequestType}
use Rattle.units.specs.Limits.{limits_of}
use Rattle.information.specs.declared.values.ReportGroup.{ReportGroup}
use Rattle.information.specs.declared.values.AnswerGroup.{AnswerGroup}
use Rattle.information.specs.declared.values.CommandGroup.{CommandGroup}
use Rattle.message.specs.Keyed.{has_key, report_key, answer_key, command_key}
use Rattle.message.specs.Numbered as numbered
use Rattle.message.specs.Commands.{orders}
use Rattle.words.specs.declared.expected.Expected.{Expected}
use Rattle.words.specs.declared.expected.Expected.TheVariants as expected
use Rattle.text.specs.declared.messages.Head.{Head}
use Rattle.text.specs.declared.values.Message.{Message}
use Rattle.text.specs.declared.values.Message.TheVariants as kind
use Rattle.words.specs.Words.{word_of, rest_of, ended}
use Rattle.words.specs.Numbers.{number_of}
use Rattle.words.specs.Names.{type_word, type_read}
use Rattle.text.specs.Groups.{used_line, used_read, answer_line, answer_read, command_line, command_read}

-- a message of any kind
pub data Told : Type 0 where
  Reports : numbered.Message ReportGroup → Told
  Answers : numbered.Message AnswerGroup → Told
  Orders : List CommandGroup → Told

-- lines with the end of each
abbrev pub text_of : List (List ℕ) → List ℕ
text_of [] = []
text_of (line ∷ lines) = line ++ (10 ∷ text_of lines)

abbrev pub head_line : List ℕ → ℕ → RequestType → List ℕ
head_line word n t = word ++ (codes " " ++ (decimal n ++ (codes " " ++ type_word t)))

abbrev pub report_lines : numbered.Message ReportGroup → List (List ℕ)
report_lines m = head_line (codes "report") m.number m.type ∷ map used_line m.groups

abbrev pub answer_lines : numbered.Message AnswerGroup → List (List ℕ)
answer_lines m = head_line (codes "answer") m.number m.type ∷ map answer_line m.groups

abbrev pub command_lines : List CommandGroup → List (List ℕ)
command_lines vs = codes "command" ∷ map command_line vs

abbrev pub lines_of : Told → List (List ℕ)
lines_of (Reports m) = report_lines m
lines_of (Answers m) = answer_lines m
lines_of (Orders vs) = command_lines vs

-- NUMBER update|termination
abbrev pub head_read : List ℕ → Result Head Expected
head_read text =
    then (number_of (limits_of false CcRequestNumber) (word_of text)) (λ n. then (type_read (word_of (rest_of text)))
    (λ t. then (ended (rest_of (rest_of text))) (λ _. Ok (record { number = n; request_type = t }))))

abbrev pub started : {V : Type 0} → Head → numbered.Message V
started h = record { number = h.number; type = h.request_type; groups = [] }

-- the message that a first line begins
abbrev pub begun : List ℕ → Result Told Expected
begun line =
    cond (bytes_eq (word_of line) (codes "report")) (then (head_read (rest_of line)) (λ h. Ok (Reports (started h))))
    (cond (bytes_eq (word_of line) (codes "answer")) (then (head_read (rest_of line)) (λ h. Ok (Answers (started h))))
    (cond (bytes_eq (word_of line) (codes "command")) (then (ended (rest_of line)) (λ _. Ok (Orders [])))
    (Err expected.Kind)))

-- a group more: no key twice, and sixteen groups at most
abbrev pub joins : {V : Type 0} → (V → Option Key) → List V → V → Result (List V) Expected
joins keyed vs v =
    cond (has_key keyed (keyed v) vs) (Err expected.OtherKey)
    (cond (nat_lt (length vs) 16) (Ok (vs ++ v ∷ []))
    (Err expected.NoMore))

abbrev pub line_joins : {V : Type 0} → (List ℕ → Result V Expected) → (V → Option Key) → List V → List ℕ → Result (List V) Expected
line_joins reads keyed vs line = then (reads line) (joins keyed vs)

abbrev pub regrouped : {V : Type 0} → numbered.Message V → List V → numbered.Message V
regrouped m vs = record { number = m.number; type = m.type; groups = vs }

-- a message with the group of one line more
abbrev pub extended : Told → List ℕ → Result Told Expected
extended (Reports m) line = then (line_joins used_read report_key m.groups line) (λ vs. Ok (Reports (regrouped m vs)))
extended (Answers m) line = then (line_joins answer_read answer_key m.groups line) (λ vs. Ok (Answers (regrouped m vs)))
extended (Orders os) line = then (line_joins command_read command_key os line) (λ vs. Ok (Orders vs))

-- what a call answers and leaves: a refusal leaves everything as it was
abbrev pub Answered : {S : Type 0} → Result (Unit {0}) Expected → Result S Expected → S → S → Type 0
Answered {S} (Ok _) told was is = ◌≡◌ {A = Result S Expected} told (Ok is)
Answered {S} (Err e) told was is = (◌≡◌ {A = Result S Expected} told (Err e)) × (is ≡ was)

-- the code's values as those above
abbrev pub meant : Message → Told
meant (kind.Report m) = Reports (numbered.message m)
meant (kind.Answer m) = Answers (numbered.message m)
meant (kind.Command c) = Orders (orders c)

abbrev pub meant_by : Result Message Expected → Result Told Expected
meant_by (Ok m) = Ok (meant m)
meant_by (Err e) = Err e
