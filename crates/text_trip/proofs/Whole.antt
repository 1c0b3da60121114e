-- A whole message is read back, by induction over its groups.
use Rattle.std.proofs.Common.{◌≡◌, ◌||◌, ℕ, ◌+◌, ◌^◌, ◌<◌, ◌≤◌, Bool, true, false, cond, ltb, leb, List, [], ◌∷◌, ◌++◌, map, length, Some, None, Ok, Err, codes, decimal, Option, Result, sym, refl, ap, ◌∙◌, append_assoc, append-nil, arith, length-append}
use Rattle.std.specs.List.{list_all}
use lib.ListN.{length-map}
use Rattle.std.proofs.lemmas.List.{map_push}
use Rattle.std.proofs.lemmas.Bool.{and_parts, cond-true, cond-false, lt-ltb, leb-true, false≢true}
use Rattle.avp.specs.declared.name.Name.TheVariants.{CcRequestNumber}
use Rattle.avp.specs.Fields.{allows}
use Rattle.group.specs.Walk.{then}
use Rattle.key.specs.declared.key.Key.{Key}
use Rattle.units.specs.declared.values.RequestType.{RequestType}
use Rattle.units.specs.declared.values.RequestType.TheVariants.{Update, Termination}
use Rattle.units.specs.Limits.{limits_of}
use Rattle.information.specs.declared.values.ReportGroup.{ReportGroup}
use Rattle.information.specs.declared.values.AnswerGroup.{AnswerGroup}
use Rattle.information.specs.declared.values.CommandGroup.{CommandGroup}
use Rattle.information.specs.declared.values.Order.{Order}
use Rattle.information.specs.declared.values.Order.TheVariants.{Grant, Disable, Request}
use Rattle.units.specs.declared.values.Units.{Units}
use Rattle.message.specs.Keyed.{same_keys, has_key, report_key, answer_key, command_key}
use Rattle.message.specs.Numbered.{Message, message}
use Rattle.message.specs.Commands.{orders}
use Rattle.wire.specs.Sound.{distinct_after, distinct, fault_of, sound_report, sound_answer, sound_command}
use Rattle.trip.proofs.Wrote.{sixteen}
use Rattle.trip.specs.Back.{report_at, answer_at, command_at}
use Rattle.words.specs.declared.expected.Expected.{Expected}
use Rattle.words.specs.declared.expected.Expected.TheVariants as expected
use Rattle.words.specs.Lines.{skipped}
use Rattle.words.specs.Words.{word_of, rest_of, ended}
use Rattle.words.specs.Numbers.{number_of}
use Rattle.words.specs.Names.{type_word, type_read}
use Rattle.text.specs.Groups.{answer_line, answer_read, answer_text, command_line, command_read, order_text, used_line, used_read}
use Rattle.text.specs.declared.values.Message.{Message as Any}
use Rattle.text.specs.declared.values.Message.TheVariants as kind
use Rattle.text.specs.Messages.{Told, Reports, Answers, Orders, begun, extended, head_line, head_read, joins, line_joins, meant, regrouped, started, text_of}
use Rattle.text.specs.Reading.{line_read}
use Rattle.text_trip.specs.Back.{AllOctets, KeyOctets, ReadsBack, all_read, lines_in}
use Rattle.text_trip.proofs.Cuts.{word_first, rest_first, word_after, rest_after, word_alone, rest_alone, inked}
use Rattle.text_trip.proofs.Figures.{figures, number_back}
use Rattle.text_trip.proofs.Lines.{used_back, answer_back, command_back}
use Rattle.text_trip.proofs.Shown.{showing, shows, behind, cut, as_it_stands, used_shows, answer_shows, command_shows}

-- how a kind of group is written and read, and how a message holds groups
pub record Kind (V : Type 0) : Type 1 where
  pub lined : V → List ℕ
  pub reads : List ℕ → Result V Expected
  pub keyed : V → Option Key
  pub unplace : V → V
  pub sound : V → Bool
  pub state : List V → Told
  pub back : (v : V) → sound v ≡ true → KeyOctets (keyed v) → reads (lined v) ≡ Ok (unplace v)
  pub showy : (v : V) → sound v ≡ true → KeyOctets (keyed v) → list_all showing (lined v) ≡ true
  pub says : (v : V) → skipped (lined v) ≡ false
  pub key_kept : (v : V) → keyed (unplace v) ≡ keyed v
  pub extends : (vs : List V) (line : List ℕ) → extended (state vs) line ≡ then (line_joins reads keyed vs line) (λ ws. Ok (state ws))

module _ {V : Type 0} (kind : Kind V) where
  open_keys : (k : Option Key) (vs : List V) → has_key kind.keyed k (map kind.unplace vs) ≡ has_key kind.keyed k vs
  open_keys k [] = refl
  open_keys k (v ∷ vs) = (λ i. same_keys (kind.key_kept v i) k || open_keys k vs i)

  fresh : (done : List V) (v : V) (vs : List V) → distinct_after kind.keyed done (v ∷ vs) ≡ true
      → (has_key kind.keyed (kind.keyed v) done ≡ false) × (distinct_after kind.keyed (done ++ v ∷ []) vs ≡ true)
  fresh done v vs e = by (has_key kind.keyed (kind.keyed v) done) refl e
    where
      by : (b : Bool) → has_key kind.keyed (kind.keyed v) done ≡ b → cond b false (distinct_after kind.keyed (done ++ v ∷ []) vs) ≡ true
          → (has_key kind.keyed (kind.keyed v) done ≡ false) × (distinct_after kind.keyed (done ++ v ∷ []) vs ≡ true)
      by true is d = absurd (false≢true d)
      by false is d = (is, d)

  -- one group joins those before it
  joined : (done : List V) (v : V) → has_key kind.keyed (kind.keyed v) done ≡ false → length done < 16
      → joins kind.keyed (map kind.unplace done) (kind.unplace v) ≡ Ok (map kind.unplace (done ++ v ∷ []))
  joined done v new few =
      let ds = map kind.unplace done in
      let apart : has_key kind.keyed (kind.keyed (kind.unplace v)) ds ≡ false = ap (λ k. has_key kind.keyed k ds) (kind.key_kept v) ∙ open_keys (kind.keyed v) done ∙ new in
      let room : ltb (length ds) 16 ≡ true = lt-ltb _ _ (simp length-map few) in
      cond-false (has_key kind.keyed (kind.keyed (kind.unplace v)) ds) (Err expected.OtherKey) (cond (ltb (length ds) 16) (Ok (ds ++ kind.unplace v ∷ [])) (Err expected.NoMore)) apart
      ∙ cond-true (ltb (length ds) 16) (Ok (ds ++ kind.unplace v ∷ [])) (Err expected.NoMore) room
      ∙ ap (λ xs. Ok xs) (sym (map_push kind.unplace done v))

  one_line : (done : List V) (v : V) → kind.sound v ≡ true → KeyOctets (kind.keyed v) → has_key kind.keyed (kind.keyed v) done ≡ false → length done < 16
      → line_read (Some (kind.state (map kind.unplace done))) (kind.lined v) ≡ Ok (Some (kind.state (map kind.unplace (done ++ v ∷ []))))
  one_line done v ok octets new few =
      let ds = map kind.unplace done in
      as_it_stands (Some (kind.state ds)) (kind.lined v) (kind.showy v ok octets) (kind.says v)
      ∙ ap (λ r. then r (λ n. Ok (Some n))) (kind.extends ds (kind.lined v)
      ∙ ap (λ r. then (then r (joins kind.keyed ds)) (λ ws. Ok (kind.state ws))) (kind.back v ok octets)
      ∙ ap (λ r. then r (λ ws. Ok (kind.state ws))) (joined done v new few))

  pub groups_back : (done vs : List V) → list_all kind.sound vs ≡ true → AllOctets kind.keyed vs → distinct_after kind.keyed done vs ≡ true → length done + length vs ≤ 16
      → all_read (Some (kind.state (map kind.unplace done))) (map kind.lined vs) ≡ Ok (Some (kind.state (map kind.unplace (done ++ vs))))
  groups_back done [] ok octets new few = ap (λ xs. Ok (Some (kind.state (map kind.unplace xs)))) (sym (append-nil done))
  groups_back done (v ∷ vs) ok octets new few =
      let oks = and_parts (kind.sound v) (list_all kind.sound vs) ok in
      let news = fresh done v vs new in
      ap (λ r. then r (λ next. all_read next (map kind.lined vs))) (one_line done v oks.0 octets.0 news.0 (omega arith))
      ∙ groups_back (done ++ v ∷ []) vs oks.1 octets.1 news.1 (simp length-append (omega arith))
      ∙ ap (λ xs. Ok (Some (kind.state (map kind.unplace xs)))) (append_assoc done (v ∷ []) vs)

  -- the lines of groups are cut as they were put together
  pub groups_cut : (vs : List V) → list_all kind.sound vs ≡ true → AllOctets kind.keyed vs → lines_in (text_of (map kind.lined vs)) ≡ map kind.lined vs
  groups_cut [] ok octets = refl
  groups_cut (v ∷ vs) ok octets =
      let oks = and_parts (kind.sound v) (list_all kind.sound vs) ok in
      cut (kind.lined v) (text_of (map kind.lined vs)) (kind.showy v oks.0 octets.0) ∙ ap (λ ls. kind.lined v ∷ ls) (groups_cut vs oks.1 octets.1)

  -- a first line, and the groups behind it
  pub whole : (head : List ℕ) (vs : List V) → list_all showing head ≡ true → skipped head ≡ false → begun head ≡ Ok (kind.state [])
      → list_all kind.sound vs ≡ true → AllOctets kind.keyed vs → distinct kind.keyed vs ≡ true → length vs ≤ 16
      → all_read None (lines_in (head ++ (10 ∷ text_of (map kind.lined vs)))) ≡ Ok (Some (kind.state (map kind.unplace vs)))
  whole head vs shown says begins ok octets new few =
      ap (all_read None) (cut head (text_of (map kind.lined vs)) shown ∙ ap (λ ls. head ∷ ls) (groups_cut vs ok octets))
      ∙ ap (λ r. then r (λ next. all_read next (map kind.lined vs))) (as_it_stands None head shown says ∙ ap (λ r. then r (λ m. Ok (Some m))) begins)
      ∙ groups_back [] vs ok octets new (omega arith)

-- the first line of a report or an answer
type_back : (t : RequestType) → type_read (type_word t) ≡ Ok t
type_back Update = refl
type_back Termination = refl

type_ink : (t : RequestType) → list_all inked (type_word t) ≡ true
type_ink Update = refl
type_ink Termination = refl

type_some : (t : RequestType) → 0 < length (type_word t)
type_some Update = omega arith
type_some Termination = omega arith

number_small : (n : ℕ) → allows (limits_of false CcRequestNumber) n ≡ true → n < 2 ^ 64
number_small n e = omega (arith, leb-true n 1048575 (and_parts (leb 1 n) (leb n 1048575) e).1)

head_back : (n : ℕ) (t : RequestType) → allows (limits_of false CcRequestNumber) n ≡ true → head_read (32 ∷ (decimal n ++ (32 ∷ type_word t))) ≡ Ok (record { number = n; request_type = t })
head_back n t allowed =
    let f = figures n (number_small n allowed) in
    let word = word_after (decimal n ++ (32 ∷ type_word t)) ∙ word_first (decimal n) (32 ∷ type_word t) f.ink f.some refl in
    let rest = rest_after (decimal n ++ (32 ∷ type_word t)) ∙ rest_first (decimal n) (32 ∷ type_word t) f.ink f.some refl in
    (λ i. then (number_of (limits_of false CcRequestNumber) (word i)) (λ m. then (type_read (word_of (rest i))) (λ u. then (ended (rest_of (rest i))) (λ _. Ok (record { number = m; request_type = u })))))
    ∙ (λ i. then (number_back (limits_of false CcRequestNumber) n (number_small n allowed) allowed i)
    (λ m. then (type_read (word_alone (type_word t) (type_ink t) (type_some t) i)) (λ u. then (ended (rest_alone (type_word t) (type_ink t) (type_some t) i)) (λ _. Ok (record { number = m; request_type = u })))))
    ∙ ap (λ r. then r (λ u. then (ended []) (λ _. Ok (record { number = n; request_type = u })))) (type_back t)

head_shows : (word : List ℕ) (n : ℕ) (t : RequestType) → list_all showing word ≡ true → allows (limits_of false CcRequestNumber) n ≡ true → list_all showing (head_line word n t) ≡ true
head_shows word n t e allowed =
    behind word (codes " " ++ (decimal n ++ (codes " " ++ type_word t))) e
    (behind (codes " ") (decimal n ++ (codes " " ++ type_word t)) refl
    (behind (decimal n) (codes " " ++ type_word t) (shows (decimal n) (figures n (number_small n allowed)).ink)
    (behind (codes " ") (type_word t) refl (shows (type_word t) (type_ink t)))))

abbrev reported : Message ReportGroup → Kind ReportGroup
reported m = record {
  lined = used_line;
  reads = used_read;
  keyed = report_key;
  unplace = report_at 0;
  sound = sound_report;
  state = λ vs. Reports (regrouped m vs);
  back = used_back;
  showy = used_shows;
  says = λ v. refl;
  key_kept = λ v. refl;
  extends = λ vs line. refl;
}

answer_says : (g : AnswerGroup) (o : Option Units) → skipped (answer_text g.key g.level o) ≡ false
answer_says g None = refl
answer_says g (Some u) = refl

abbrev answered : Message AnswerGroup → Kind AnswerGroup
answered m = record {
  lined = answer_line;
  reads = answer_read;
  keyed = answer_key;
  unplace = answer_at 0;
  sound = sound_answer;
  state = λ vs. Answers (regrouped m vs);
  back = answer_back;
  showy = answer_shows;
  says = λ v. answer_says v v.granted;
  key_kept = λ v. refl;
  extends = λ vs line. refl;
}

order_says : (o : Order) → skipped (order_text o) ≡ false
order_says (Grant k l u) = refl
order_says (Disable k) = refl
order_says (Request None) = refl
order_says (Request (Some k)) = refl

abbrev ordered : Kind CommandGroup
ordered = record {
  lined = command_line;
  reads = command_read;
  keyed = command_key;
  unplace = command_at 0;
  sound = sound_command;
  state = λ vs. Orders vs;
  back = command_back;
  showy = command_shows;
  says = λ v. order_says v.order;
  key_kept = λ v. refl;
  extends = λ vs line. refl;
}

no_fault : (a b : Bool) → fault_of a b ≡ None → (a ≡ true) × (b ≡ true)
no_fault true true e = (refl, refl)
no_fault true false e = let z : ◌≡◌ {A = ℕ} 0 1 = cc in absurd (omega arith)
no_fault false b e = let z : ◌≡◌ {A = ℕ} 0 1 = cc in absurd (omega arith)

reports_back : (m : Message ReportGroup) → length m.groups ≤ 16 → ReadsBack (Reports m)
reports_back m few octets ok =
    let parts = no_fault _ _ ok in
    let sound = and_parts (allows (limits_of false CcRequestNumber) m.number) (list_all sound_report m.groups) parts.0 in
    whole (reported m) (head_line (codes "report") m.number m.type) m.groups (head_shows (codes "report") m.number m.type refl sound.0) refl
    (ap (λ r. then r (λ h. Ok (Reports (started h)))) (head_back m.number m.type sound.0)) sound.1 octets parts.1 few

answers_back : (m : Message AnswerGroup) → length m.groups ≤ 16 → ReadsBack (Answers m)
answers_back m few octets ok =
    let parts = no_fault _ _ ok in
    let sound = and_parts (allows (limits_of false CcRequestNumber) m.number) (list_all sound_answer m.groups) parts.0 in
    whole (answered m) (head_line (codes "answer") m.number m.type) m.groups (head_shows (codes "answer") m.number m.type refl sound.0) refl
    (ap (λ r. then r (λ h. Ok (Answers (started h)))) (head_back m.number m.type sound.0)) sound.1 octets parts.1 few

orders_back : (vs : List CommandGroup) → length vs ≤ 16 → ReadsBack (Orders vs)
orders_back vs few octets ok =
    let parts = no_fault _ _ ok in
    whole ordered (codes "command") vs refl refl refl parts.0 octets parts.1 few

pub message_back : (m : Any) → ReadsBack (meant m)
message_back (kind.Report m) = reports_back (message m) (sixteen m.groups)
message_back (kind.Answer m) = answers_back (message m) (sixteen m.groups)
message_back (kind.Command c) = orders_back (orders c) (sixteen c.groups)
