-- The words of a group's line, from the key on, are read back.
use Rattle.std.proofs.Common.{◌≡◌, ℕ, ◌^◌, ◌<◌, Bool, true, false, eqb, leb, List, [], ◌∷◌, ◌++◌, length, Ok, decimal, Result, refl, ap, ◌∙◌, append_assoc, arith}
use Rattle.std.proofs.lemmas.Bool.{and_parts, leb-true, ne_eqb}
use Rattle.std.specs.List.{list_all, prefix_len}
use Rattle.avp.specs.declared.name.Name.TheVariants.{CcInputOctets, CcOutputOctets, CcTotalOctets}
use Rattle.avp.specs.declared.field.Limits.{Limits}
use Rattle.avp.specs.Fields.{allows}
use Rattle.group.specs.Walk.{then}
use Rattle.key.specs.declared.key.Key.{Key}
use Rattle.key.specs.Keys.{octets_of}
use Rattle.units.specs.declared.values.Level.{Level}
use Rattle.units.specs.declared.values.Level.TheVariants.{Session, Rule}
use Rattle.units.specs.declared.values.Units.{Units}
use Rattle.units.specs.declared.values.Units.TheVariants.{Total, Uplink, Downlink, Both}
use Rattle.units.specs.Limits.{limits_of}
use Rattle.wire.specs.Sound.{sound_key, sound_units}
use Rattle.trip.specs.Laws.Keys as sound
use Rattle.words.specs.declared.expected.Expected.{Expected}
use Rattle.words.specs.Words.{is_space, word_of, rest_of, ended}
use Rattle.words.specs.Numbers.{number_of, last_number}
use Rattle.words.specs.Keys.{key_text, key_read}
use Rattle.words.specs.Names.{level_word, level_read}
use Rattle.text.specs.Units.{units_text, units_read, both_read}
use Rattle.text.specs.Groups.{keyed_text, terms_text, terms_read, last_key}
use Rattle.text_trip.proofs.Cuts.{inked, word_first, rest_first, word_after, rest_after, word_alone, rest_alone}
use Rattle.text_trip.proofs.Figures.{figures, number_back, last_back}
use Rattle.text_trip.proofs.Letters.{Octets, key_ink, key_some, key_back}

pub level_back : (l : Level) → level_read (level_word l) ≡ Ok l
level_back Session = refl
level_back Rule = refl

pub level_ink : (l : Level) → list_all inked (level_word l) ≡ true
level_ink Session = refl
level_ink Rule = refl

pub level_some : (l : Level) → 0 < length (level_word l)
level_some Session = omega arith
level_some Rule = omega arith

-- what lies within limits fits 64 bits
small : (limits : Limits) (n : ℕ) → limits.most < 2 ^ 64 → allows limits n ≡ true → n < 2 ^ 64
small limits n few allowed = omega (arith, leb-true n limits.most (and_parts (leb limits.least n) (leb n limits.most) allowed).1)

direction_small : (granted : Bool) → (limits_of granted CcInputOctets).most < 2 ^ 64
direction_small true = omega arith
direction_small false = omega arith

total_small : (granted : Bool) → (limits_of granted CcTotalOctets).most < 2 ^ 64
total_small true = omega arith
total_small false = omega arith

-- the numbers of sound units fit 64 bits
abbrev pub Fitting : Units → Type 0
Fitting (Total t) = t < 2 ^ 64
Fitting (Uplink u) = u < 2 ^ 64
Fitting (Downlink d) = d < 2 ^ 64
Fitting (Both u d) = (u < 2 ^ 64) × (d < 2 ^ 64)

pub fitting : (granted : Bool) (u : Units) → sound_units granted u ≡ true → Fitting u
fitting granted (Total t) ok = small (limits_of granted CcTotalOctets) t (total_small granted) ok
fitting granted (Uplink u) ok = small (limits_of granted CcInputOctets) u (direction_small granted) ok
fitting granted (Downlink d) ok = small (limits_of granted CcOutputOctets) d (direction_small granted) ok
fitting granted (Both u d) ok =
    let parts = and_parts (allows (limits_of granted CcInputOctets) u) (allows (limits_of granted CcOutputOctets) d) ok in
    (small (limits_of granted CcInputOctets) u (direction_small granted) parts.0, small (limits_of granted CcOutputOctets) d (direction_small granted) parts.1)

both_back : (granted : Bool) (u d : ℕ) → sound_units granted (Both u d) ≡ true → both_read granted (32 ∷ (decimal u ++ (32 ∷ decimal d))) ≡ Ok (Both u d)
both_back granted u d ok =
    let parts = and_parts (allows (limits_of granted CcInputOctets) u) (allows (limits_of granted CcOutputOctets) d) ok in
    let fits = fitting granted (Both u d) ok in
    let f = figures u fits.0 in
    (λ i. then (number_of (limits_of granted CcInputOctets) ((word_after (decimal u ++ (32 ∷ decimal d)) ∙ word_first (decimal u) (32 ∷ decimal d) f.ink f.some refl) i))
    (λ x. then (last_number (limits_of granted CcOutputOctets) ((rest_after (decimal u ++ (32 ∷ decimal d)) ∙ rest_first (decimal u) (32 ∷ decimal d) f.ink f.some refl) i)) (λ y. Ok (Both x y))))
    ∙ (λ i. then (number_back (limits_of granted CcInputOctets) u fits.0 parts.0 i) (λ x. then (last_back (limits_of granted CcOutputOctets) d fits.1 parts.1 i) (λ y. Ok (Both x y))))

pub units_back : (granted : Bool) (u : Units) → sound_units granted u ≡ true → units_read granted (units_text u) ≡ Ok u
units_back granted (Total t) ok = ap (λ r. then r (λ n. Ok (Total n))) (last_back (limits_of granted CcTotalOctets) t (fitting granted (Total t) ok) ok)
units_back granted (Uplink u) ok = ap (λ r. then r (λ n. Ok (Uplink n))) (last_back (limits_of granted CcInputOctets) u (fitting granted (Uplink u) ok) ok)
units_back granted (Downlink d) ok = ap (λ r. then r (λ n. Ok (Downlink n))) (last_back (limits_of granted CcOutputOctets) d (fitting granted (Downlink d) ok) ok)
units_back granted (Both u d) ok = both_back granted u d ok

-- units begin with a space
units_apart : (u : Units) → prefix_len (is_space false) (units_text u) ≡ 0
units_apart (Total t) = refl
units_apart (Uplink u) = refl
units_apart (Downlink d) = refl
units_apart (Both u d) = refl

module _ (k : Key) (ok : sound_key k ≡ true) (octets : Octets (octets_of k)) where
  pub key_inked : list_all inked (key_text (octets_of k)) ≡ true
  key_inked = key_ink (octets_of k) octets

  long : 0 < length (octets_of k)
  long = omega (arith, leb-true 1 (length (octets_of k)) (and_parts (leb 1 (length (octets_of k))) (leb (length (octets_of k)) 16) (sound.key_long_lem k ok)).0)

  some : 0 < length (key_text (octets_of k))
  some = key_some (octets_of k) long

  read : key_read (key_text (octets_of k)) ≡ Ok k
  read = key_back k (octets_of k) (sound.key_back k ok) octets (sound.key_bound k ok)

  -- a key that ends a line
  pub last_key_back : last_key (32 ∷ key_text (octets_of k)) ≡ Ok k
  last_key_back =
      (λ i. then (key_read (word_alone (key_text (octets_of k)) key_inked some i)) (λ j. then (ended (rest_alone (key_text (octets_of k)) key_inked some i)) (λ _. Ok j)))
      ∙ ap (λ r. then r (λ j. then (ended []) (λ _. Ok j))) read

  pub key_there : eqb (length (word_of (32 ∷ key_text (octets_of k)))) 0 ≡ false
  key_there = ap (λ w. eqb (length w) 0) (word_alone (key_text (octets_of k)) key_inked some) ∙ ne_eqb _ _ (λ e. omega (arith, some))

  module _ (rest : List ℕ) (apart : prefix_len (is_space false) rest ≡ 0) where
    -- the key and the level, and what stands behind them
    pub key_word : word_of (32 ∷ (key_text (octets_of k) ++ rest)) ≡ key_text (octets_of k)
    key_word = word_after (key_text (octets_of k) ++ rest) ∙ word_first (key_text (octets_of k)) rest key_inked some apart

    pub key_rest : rest_of (32 ∷ (key_text (octets_of k) ++ rest)) ≡ rest
    key_rest = rest_after (key_text (octets_of k) ++ rest) ∙ rest_first (key_text (octets_of k)) rest key_inked some apart

  pub key_read_lem : (rest : List ℕ) → prefix_len (is_space false) rest ≡ 0 → key_read (word_of (32 ∷ (key_text (octets_of k) ++ rest))) ≡ Ok k
  key_read_lem rest apart = ap key_read (key_word rest apart) ∙ read

module _ (l : Level) (rest : List ℕ) (apart : prefix_len (is_space false) rest ≡ 0) where
  pub level_read_lem : level_read (word_of (32 ∷ (level_word l ++ rest))) ≡ Ok l
  level_read_lem = ap level_read (word_after (level_word l ++ rest) ∙ word_first (level_word l) rest (level_ink l) (level_some l) apart) ∙ level_back l

  pub level_rest : rest_of (32 ∷ (level_word l ++ rest)) ≡ rest
  level_rest = rest_after (level_word l ++ rest) ∙ rest_first (level_word l) rest (level_ink l) (level_some l) apart

-- KEY LEVEL, before what ends a line
module _ {Y : Type 0} (k : Key) (l : Level) (rest : List ℕ) (ok : sound_key k ≡ true) (octets : Octets (octets_of k)) (apart : prefix_len (is_space false) rest ≡ 0) where
  pub keyed_back : (ends : Key → Level → List ℕ → Result Y Expected)
      → then (key_read (word_of (32 ∷ (keyed_text k l ++ rest)))) (λ j. then (level_read (word_of (rest_of (32 ∷ (keyed_text k l ++ rest))))) (λ m. ends j m (rest_of (rest_of (32 ∷ (keyed_text k l ++ rest))))))
      ≡ ends k l rest
  keyed_back ends =
      ap (λ t. then (key_read (word_of (32 ∷ t))) (λ j. then (level_read (word_of (rest_of (32 ∷ t)))) (λ m. ends j m (rest_of (rest_of (32 ∷ t)))))) (append_assoc (key_text (octets_of k)) (32 ∷ level_word l) rest)
      ∙ (λ i. then (key_read_lem k ok octets (32 ∷ (level_word l ++ rest)) refl i) (λ j. then (level_read (word_of (key_rest k ok octets (32 ∷ (level_word l ++ rest)) refl i))) (λ m. ends j m (rest_of (key_rest k ok octets (32 ∷ (level_word l ++ rest)) refl i)))))
      ∙ (λ i. then (level_read_lem l rest apart i) (λ m. ends k m (level_rest l rest apart i)))

pub terms_back : (granted : Bool) (k : Key) (l : Level) (u : Units) → sound_key k ≡ true → Octets (octets_of k) → sound_units granted u ≡ true
    → terms_read granted (32 ∷ terms_text k l u) ≡ Ok (record { key = k; level = l; units = u })
terms_back granted k l u ok octets sound =
    keyed_back k l (units_text u) ok octets (units_apart u) (λ j m rest. then (units_read granted rest) (λ v. Ok (record { key = j; level = m; units = v })))
    ∙ ap (λ r. then r (λ v. Ok (record { key = k; level = l; units = v }))) (units_back granted u sound)
