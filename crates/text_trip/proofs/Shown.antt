-- Every line of a message shows: it has no control characters, so that it is cut, kept and read as it stands.
use Rattle.std.proofs.Common.{◌≡◌, ℕ, zero, suc, ◌-◌, ◌^◌, ◌<◌, Bool, true, false, cond, ◌&&◌, eqb, leb, List, [], ◌∷◌, ◌++◌, length, get_or, take, Some, None, Ok, codes, decimal, Option, refl, ap, ◌∙◌, arith}
use Rattle.std.specs.List.{list_all}
use Rattle.std.proofs.lemmas.Bool.{and_parts, cond-false, leb-true, ne_eqb}
use Rattle.std.proofs.lemmas.Bool.Decides.{nat_tests}
use Rattle.key.specs.declared.key.Key.{Key}
use Rattle.key.specs.Keys.{octets_of}
use Rattle.units.specs.declared.values.Level.{Level}
use Rattle.units.specs.declared.values.Units.{Units}
use Rattle.units.specs.declared.values.Units.TheVariants.{Total, Uplink, Downlink, Both}
use Rattle.information.specs.declared.values.ReportGroup.{ReportGroup}
use Rattle.information.specs.declared.values.AnswerGroup.{AnswerGroup}
use Rattle.information.specs.declared.values.CommandGroup.{CommandGroup}
use Rattle.information.specs.declared.values.Order.{Order}
use Rattle.information.specs.declared.values.Order.TheVariants.{Grant, Disable, Request}
use Rattle.message.specs.Keyed.{report_key, answer_key, command_key, order_key}
use Rattle.wire.specs.Sound.{sound_key, sound_units, sound_granted, sound_report, sound_answer, sound_order, sound_command}
use Rattle.words.specs.Lines.{shorn, skipped}
use Rattle.words.specs.Keys.{key_text}
use Rattle.words.specs.Names.{level_word}
use Rattle.text.specs.Units.{units_text}
use Rattle.text.specs.Groups.{answer_line, answer_text, command_line, grant_line, keyed_text, order_text, terms_text, used_line}
use Rattle.text.specs.Messages.{Told}
use Rattle.text.specs.Reading.{goes_on, line_read}
use Rattle.text_trip.specs.Back.{KeyOctets, lines_in, onto}
use Rattle.text_trip.proofs.Cuts.{inked}
use Rattle.text_trip.proofs.Inks.{every_append, every_weaker}
use Rattle.text_trip.proofs.Figures.{figures}
use Rattle.text_trip.proofs.Letters.{Octets, key_ink}
use Rattle.text_trip.proofs.Terms.{fitting, level_ink}

-- a space, or a character that leaves ink
abbrev pub showing : ℕ → Bool
showing c = leb 32 c

ink_shows : (c : ℕ) → inked c ≡ true → showing c ≡ true
ink_shows c e = grind (arith, nat_tests)

pub shows : (w : List ℕ) → list_all inked w ≡ true → list_all showing w ≡ true
shows = every_weaker inked showing ink_shows

pub behind : (xs ys : List ℕ) → list_all showing xs ≡ true → list_all showing ys ≡ true → list_all showing (xs ++ ys) ≡ true
behind = every_append showing

decimal_shows : (n : ℕ) → n < 2 ^ 64 → list_all showing (decimal n) ≡ true
decimal_shows n fits = shows (decimal n) (figures n fits).ink

units_show : (granted : Bool) (u : Units) → sound_units granted u ≡ true → list_all showing (units_text u) ≡ true
units_show granted (Total t) ok = behind (codes " total ") (decimal t) refl (decimal_shows t (fitting granted (Total t) ok))
units_show granted (Uplink u) ok = behind (codes " uplink ") (decimal u) refl (decimal_shows u (fitting granted (Uplink u) ok))
units_show granted (Downlink d) ok = behind (codes " downlink ") (decimal d) refl (decimal_shows d (fitting granted (Downlink d) ok))
units_show granted (Both u d) ok =
    let parts = fitting granted (Both u d) ok in
    behind (codes " both ") (decimal u ++ (codes " " ++ decimal d)) refl (behind (decimal u) (codes " " ++ decimal d) (decimal_shows u parts.0) (behind (codes " ") (decimal d) refl (decimal_shows d parts.1)))

key_shows : (k : Key) → Octets (octets_of k) → list_all showing (key_text (octets_of k)) ≡ true
key_shows k octets = shows (key_text (octets_of k)) (key_ink (octets_of k) octets)

keyed_shows : (k : Key) (l : Level) → Octets (octets_of k) → list_all showing (keyed_text k l) ≡ true
keyed_shows k l octets = behind (key_text (octets_of k)) (codes " " ++ level_word l) (key_shows k octets) (behind (codes " ") (level_word l) refl (shows (level_word l) (level_ink l)))

terms_show : (granted : Bool) (k : Key) (l : Level) (u : Units) → Octets (octets_of k) → sound_units granted u ≡ true → list_all showing (terms_text k l u) ≡ true
terms_show granted k l u octets ok = behind (keyed_text k l) (units_text u) (keyed_shows k l octets) (units_show granted u ok)

pub used_shows : (g : ReportGroup) → sound_report g ≡ true → KeyOctets (report_key g) → list_all showing (used_line g) ≡ true
used_shows g ok octets = behind (codes "used ") (terms_text g.key g.level g.used) refl (terms_show false g.key g.level g.used octets (and_parts (sound_key g.key) (sound_units false g.used) ok).1)

grant_shows : (k : Key) (l : Level) (u : Units) → (sound_key k && sound_units true u) ≡ true → Octets (octets_of k) → list_all showing (grant_line k l u) ≡ true
grant_shows k l u ok octets = behind (codes "grant ") (terms_text k l u) refl (terms_show true k l u octets (and_parts (sound_key k) (sound_units true u) ok).1)

answered_shows : (k : Key) (l : Level) (o : Option Units) → (sound_key k && sound_granted o) ≡ true → Octets (octets_of k) → list_all showing (answer_text k l o) ≡ true
answered_shows k l None ok octets = behind (codes "stop ") (keyed_text k l) refl (keyed_shows k l octets)
answered_shows k l (Some u) ok octets = grant_shows k l u ok octets

pub answer_shows : (g : AnswerGroup) → sound_answer g ≡ true → KeyOctets (answer_key g) → list_all showing (answer_line g) ≡ true
answer_shows g ok octets = answered_shows g.key g.level g.granted ok octets

order_shows : (o : Order) → sound_order o ≡ true → KeyOctets (order_key o) → list_all showing (order_text o) ≡ true
order_shows (Grant k l u) ok octets = grant_shows k l u ok octets
order_shows (Disable k) ok octets = behind (codes "disable ") (key_text (octets_of k)) refl (key_shows k octets)
order_shows (Request None) ok octets = refl
order_shows (Request (Some k)) ok octets = behind (codes "request ") (key_text (octets_of k)) refl (key_shows k octets)

pub command_shows : (g : CommandGroup) → sound_command g ≡ true → KeyOctets (command_key g) → list_all showing (command_line g) ≡ true
command_shows g ok octets = order_shows g.order ok octets

-- what shows is cut at the line feed behind it
no_feed : (c : ℕ) → showing c ≡ true → eqb c 10 ≡ false
no_feed c e = grind (arith, nat_tests)

pub cut : (line text : List ℕ) → list_all showing line ≡ true → lines_in (line ++ (10 ∷ text)) ≡ line ∷ lines_in text
cut [] text e = refl
cut (c ∷ cs) text e =
    let parts = and_parts (showing c) (list_all showing cs) e in
    cond-false (eqb c 10) ([] ∷ lines_in (cs ++ (10 ∷ text))) (onto c (lines_in (cs ++ (10 ∷ text)))) (no_feed c parts.0) ∙ ap (onto c) (cut cs text parts.1)

-- what shows has no carriage return
no_return : (line : List ℕ) (i : ℕ) → list_all showing line ≡ true → get_or line i 0 ≡ 13 → ⊥
no_return [] i e h = omega arith
no_return (c ∷ cs) zero e h = omega (arith, leb-true 32 c (and_parts (showing c) (list_all showing cs) e).0)
no_return (c ∷ cs) (suc i) e h = no_return cs i (and_parts (showing c) (list_all showing cs) e).1 h

kept : (line : List ℕ) → list_all showing line ≡ true → shorn line ≡ line
kept line e = cond-false (eqb (get_or line (length line - 1) 0) 13) (take (length line - 1) line) line (ne_eqb _ _ (no_return line (length line - 1) e))

pub as_it_stands : (so : Option Told) (line : List ℕ) → list_all showing line ≡ true → skipped line ≡ false → line_read so line ≡ goes_on so line
as_it_stands so line e says = ap (λ l. cond (skipped l) (Ok so) (goes_on so l)) (kept line e) ∙ cond-false (skipped line) (Ok so) (goes_on so line) says
