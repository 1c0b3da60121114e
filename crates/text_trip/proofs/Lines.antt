-- The line of a sound group is read back as that group, without its place.
use Rattle.std.proofs.Common.{◌≡◌, true, false, ◌&&◌, eqb, [], ◌∷◌, length, Some, None, Ok, Option, sym, refl, ap, ◌∙◌, append-nil}
use Rattle.std.proofs.lemmas.Bool.{and_parts, cond-false}
use Rattle.group.specs.Walk.{then}
use Rattle.key.specs.declared.key.Key.{Key}
use Rattle.key.specs.Keys.{octets_of}
use Rattle.units.specs.declared.values.Level.{Level}
use Rattle.units.specs.declared.values.Units.{Units}
use Rattle.information.specs.declared.values.ReportGroup.{ReportGroup}
use Rattle.information.specs.declared.values.AnswerGroup.{AnswerGroup}
use Rattle.information.specs.declared.values.CommandGroup.{CommandGroup}
use Rattle.information.specs.declared.values.Order.{Order}
use Rattle.information.specs.declared.values.Order.TheVariants.{Grant, Disable, Request}
use Rattle.message.specs.Keyed.{report_key, answer_key, command_key, order_key}
use Rattle.wire.specs.Sound.{sound_key, sound_units, sound_granted, sound_report, sound_answer, sound_order, sound_command}
use Rattle.trip.specs.Back.{report_at, answer_at, command_at}
use Rattle.words.specs.Words.{word_of, ended}
use Rattle.words.specs.Keys.{key_text}
use Rattle.text.specs.Groups.{answer_line, answer_read, answer_text, command_line, command_read, keyed_text, last_key, order_read, order_text, stop_read, used_line, used_read}
use Rattle.text_trip.specs.Back.{KeyOctets}
use Rattle.text_trip.proofs.Letters.{Octets}
use Rattle.text_trip.proofs.Terms.{key_there, keyed_back, last_key_back, terms_back}

pub used_back : (g : ReportGroup) → sound_report g ≡ true → KeyOctets (report_key g) → used_read (used_line g) ≡ Ok (report_at 0 g)
used_back g ok octets =
    let parts = and_parts (sound_key g.key) (sound_units false g.used) ok in
    ap (λ r. then r (λ t. Ok (record { place = 0; key = t.key; level = t.level; used = t.units }))) (terms_back false g.key g.level g.used parts.0 octets parts.1)

stop_back : (k : Key) (l : Level) → sound_key k ≡ true → Octets (octets_of k) → stop_read (32 ∷ keyed_text k l) ≡ Ok (record { place = 0; key = k; level = l; granted = None })
stop_back k l ok octets =
    ap (λ t. stop_read (32 ∷ t)) (sym (append-nil (keyed_text k l)))
    ∙ keyed_back k l [] ok octets refl (λ j m rest. then (ended rest) (λ _. Ok (record { place = 0; key = j; level = m; granted = None })))

answered : (k : Key) (l : Level) (o : Option Units) → (sound_key k && sound_granted o) ≡ true → Octets (octets_of k)
    → answer_read (answer_text k l o) ≡ Ok (record { place = 0; key = k; level = l; granted = o })
answered k l None ok octets = stop_back k l (and_parts (sound_key k) true ok).0 octets
answered k l (Some u) ok octets =
    let parts = and_parts (sound_key k) (sound_units true u) ok in
    ap (λ r. then r (λ t. Ok (record { place = 0; key = t.key; level = t.level; granted = Some t.units }))) (terms_back true k l u parts.0 octets parts.1)

pub answer_back : (g : AnswerGroup) → sound_answer g ≡ true → KeyOctets (answer_key g) → answer_read (answer_line g) ≡ Ok (answer_at 0 g)
answer_back g ok octets = answered g.key g.level g.granted ok octets

order_back : (o : Order) → sound_order o ≡ true → KeyOctets (order_key o) → order_read (order_text o) ≡ Ok o
order_back (Grant k l u) ok octets =
    let parts = and_parts (sound_key k) (sound_units true u) ok in
    ap (λ r. then r (λ t. Ok (Grant t.key t.level t.units))) (terms_back true k l u parts.0 octets parts.1)
order_back (Disable k) ok octets = ap (λ r. then r (λ j. Ok (Disable j))) (last_key_back k ok octets)
order_back (Request None) ok octets = refl
order_back (Request (Some k)) ok octets =
    cond-false (eqb (length (word_of (32 ∷ key_text (octets_of k)))) 0) (Ok (Request None)) (then (last_key (32 ∷ key_text (octets_of k))) (λ j. Ok (Request (Some j)))) (key_there k ok octets)
    ∙ ap (λ r. then r (λ j. Ok (Request (Some j)))) (last_key_back k ok octets)

pub command_back : (g : CommandGroup) → sound_command g ≡ true → KeyOctets (command_key g) → command_read (command_line g) ≡ Ok (command_at 0 g)
command_back g ok octets = ap (λ r. then r (λ o. Ok (record { place = 0; order = o }))) (order_back g.order ok octets)
