-- Octets granted or used: their form and one number, or two where the form is both.
use Rattle.std.specs.Prelude.{ℕ, Bool, cond, List, ◌++◌, Ok, Err, codes, decimal, Result}
use Rattle.std.specs.Str.{bytes_eq}
use Rattle.avp.specs.declared.name.Name.TheVariants.{CcInputOctets, CcOutputOctets, CcTotalOctets}
use Rattle.group.specs.Walk.{then}
use Rattle.units.specs.declared.values.Units.{Units}
use Rattle.units.specs.declared.values.Units.TheVariants.{Total, Uplink, Downlink, Both}
use Rattle.units.specs.Limits.{limits_of}
use Rattle.words.specs.declared.expected.Expected.{Expected}
use Rattle.words.specs.declared.expected.Expected.TheVariants as expected
use Rattle.words.specs.Words.{word_of, rest_of}
use Rattle.words.specs.Numbers.{number_of, last_number}

abbrev pub units_text : Units → List ℕ
units_text (Total t) = codes " total " ++ decimal t
units_text (Uplink u) = codes " uplink " ++ decimal u
units_text (Downlink d) = codes " downlink " ++ decimal d
units_text (Both u d) = codes " both " ++ (decimal u ++ (codes " " ++ decimal d))

-- the numbers behind the word both
abbrev pub both_read : Bool → List ℕ → Result Units Expected
both_read granted text =
    then (number_of (limits_of granted CcInputOctets) (word_of text))
    (λ u. then (last_number (limits_of granted CcOutputOctets) (rest_of text)) (λ d. Ok (Both u d)))

-- the units that end a line
abbrev pub units_read : Bool → List ℕ → Result Units Expected
units_read granted text =
    cond (bytes_eq (word_of text) (codes "total")) (then (last_number (limits_of granted CcTotalOctets) (rest_of text)) (λ t. Ok (Total t)))
    (cond (bytes_eq (word_of text) (codes "uplink")) (then (last_number (limits_of granted CcInputOctets) (rest_of text)) (λ u. Ok (Uplink u)))
    (cond (bytes_eq (word_of text) (codes "downlink")) (then (last_number (limits_of granted CcOutputOctets) (rest_of text)) (λ d. Ok (Downlink d)))
    (cond (bytes_eq (word_of text) (codes "both")) (both_read granted (rest_of text))
    (Err expected.Form))))
