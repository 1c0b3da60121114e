-- The line of a group, both ways: what it orders or reports, its key, its level and its units.
use Rattle.std.specs.Prelude.{ℕ, Bool, true, false, cond, List, ◌++◌, length, Some, None, Ok, Err, codes, Option, Result, ◌==◌}
use Rattle.std.specs.Str.{bytes_eq}
use Rattle.group.specs.Walk.{then}
use Rattle.key.specs.declared.key.Key.{Key}
use Rattle.key.specs.Keys.{octets_of}
use Rattle.units.specs.declared.values.Level.{Level}
use Rattle.units.specs.declared.values.Units.{Units}
use Rattle.information.specs.declared.values.ReportGroup.{ReportGroup}
use Rattle.information.specs.declared.values.AnswerGroup.{AnswerGroup}
use Rattle.information.specs.declared.values.CommandGroup.{CommandGroup}
use Rattle.information.specs.declared.values.Order.{Order}
use Rattle.information.specs.declared.values.Order.TheVariants.{Grant, Disable, Request}
use Rattle.words.specs.declared.expected.Expected.{Expected}
use Rattle.words.specs.declared.expected.Expected.TheVariants as expected
use Rattle.text.specs.declared.terms.Terms.{Terms}
use Rattle.words.specs.Words.{word_of, rest_of, ended}
use Rattle.words.specs.Keys.{key_text, key_read}
use Rattle.words.specs.Names.{level_word, level_read}
use Rattle.text.specs.Units.{units_text, units_read}

-- KEY LEVEL
abbrev pub keyed_text : Key → Level → List ℕ
keyed_text k l = key_text (octets_of k) ++ (codes " " ++ level_word l)

-- KEY LEVEL FORM N [N]
abbrev pub terms_text : Key → Level → Units → List ℕ
terms_text k l u = keyed_text k l ++ units_text u

abbrev pub used_line : ReportGroup → List ℕ
used_line g = codes "used " ++ terms_text g.key g.level g.used

abbrev pub grant_line : Key → Level → Units → List ℕ
grant_line k l u = codes "grant " ++ terms_text k l u

abbrev pub answer_text : Key → Level → Option Units → List ℕ
answer_text k l None = codes "stop " ++ keyed_text k l
answer_text k l (Some u) = grant_line k l u

abbrev pub answer_line : AnswerGroup → List ℕ
answer_line g = answer_text g.key g.level g.granted

abbrev pub order_text : Order → List ℕ
order_text (Grant k l u) = grant_line k l u
order_text (Disable k) = codes "disable " ++ key_text (octets_of k)
order_text (Request None) = codes "request"
order_text (Request (Some k)) = codes "request " ++ key_text (octets_of k)

abbrev pub command_line : CommandGroup → List ℕ
command_line g = order_text g.order

-- the same in reverse
abbrev pub terms_read : Bool → List ℕ → Result Terms Expected
terms_read granted text =
    then (key_read (word_of text)) (λ k. then (level_read (word_of (rest_of text)))
    (λ l. then (units_read granted (rest_of (rest_of text))) (λ u. Ok (record { key = k; level = l; units = u }))))

-- a key that ends a line
abbrev pub last_key : List ℕ → Result Key Expected
last_key text = then (key_read (word_of text)) (λ k. then (ended (rest_of text)) (λ _. Ok k))

-- a group that was read from text has no place
abbrev pub used_read : List ℕ → Result ReportGroup Expected
used_read line =
    cond (bytes_eq (word_of line) (codes "used"))
    (then (terms_read false (rest_of line)) (λ t. Ok (record { place = 0; key = t.key; level = t.level; used = t.units })))
    (Err expected.Used)

abbrev pub stop_read : List ℕ → Result AnswerGroup Expected
stop_read text =
    then (key_read (word_of text)) (λ k. then (level_read (word_of (rest_of text)))
    (λ l. then (ended (rest_of (rest_of text))) (λ _. Ok (record { place = 0; key = k; level = l; granted = None }))))

abbrev pub answer_read : List ℕ → Result AnswerGroup Expected
answer_read line =
    cond (bytes_eq (word_of line) (codes "grant"))
    (then (terms_read true (rest_of line)) (λ t. Ok (record { place = 0; key = t.key; level = t.level; granted = Some t.units })))
    (cond (bytes_eq (word_of line) (codes "stop")) (stop_read (rest_of line))
    (Err expected.GrantOrStop))

abbrev pub request_read : List ℕ → Result Order Expected
request_read text = cond (length (word_of text) == 0) (Ok (Request None)) (then (last_key text) (λ k. Ok (Request (Some k))))

abbrev pub order_read : List ℕ → Result Order Expected
order_read line =
    cond (bytes_eq (word_of line) (codes "grant")) (then (terms_read true (rest_of line)) (λ t. Ok (Grant t.key t.level t.units)))
    (cond (bytes_eq (word_of line) (codes "disable")) (then (last_key (rest_of line)) (λ k. Ok (Disable k)))
    (cond (bytes_eq (word_of line) (codes "request")) (request_read (rest_of line))
    (Err expected.Order)))

abbrev pub command_read : List ℕ → Result CommandGroup Expected
command_read line = then (order_read line) (λ o. Ok (record { place = 0; order = o }))
