-- The text of a key is read back as that key.
use Rattle.std.proofs.Common.{◌≡◌, ℕ, suc, ◌+◌, ◌*◌, ◌/◌, ◌%◌, ◌<◌, ◌≤◌, Bool, true, false, cond, eqb, leb, List, [], ◌∷◌, ◌++◌, length, get_or, take, Some, None, Ok, codes, refl, ap, ◌∙◌, arith}
use Rattle.std.specs.List.{list_all}
use Rattle.std.proofs.lemmas.Bool.{and_parts, and_from, and_left, and_right, cond-true, eq-eqb, le-leb}
use Rattle.std.proofs.lemmas.Bool.Decides.{nat_tests}
use Rattle.std.specs.Str.{bytes_eq}
use Rattle.hexadecimal.specs.Text.{digit_of, letter_of, text_of}
use Rattle.key.specs.declared.key.Key.{Key}
use Rattle.key.specs.Keys.{key_of}
use Rattle.words.specs.declared.expected.Expected.TheVariants as expected
use Rattle.words.specs.Keys.{before, expecting, key_of_some, key_read, key_text, octet_of, paired, pairs, plain, plain_one}
use Rattle.text_trip.proofs.Cuts.{inked}
use Rattle.text_trip.proofs.Inks.{every_weaker}

letter_read : (d : ℕ) → d < 16 → digit_of (letter_of d) ≡ Some d
letter_read d l = grind (arith, nat_tests)

letter_inked : (d : ℕ) → d < 16 → inked (letter_of d) ≡ true
letter_inked d l = grind (arith, nat_tests)

abbrev pub Octets : List ℕ → Type 0
Octets os = (k : ℕ) → get_or os k 0 < 256

octet_read : (o : ℕ) → o < 256 → octet_of (digit_of (letter_of (o / 16))) (digit_of (letter_of (o % 16))) ≡ Some o
octet_read o l =
    let high : o / 16 < 16 = omega arith in
    let low : o % 16 < 16 = omega arith in
    let same : 16 * (o / 16) + o % 16 ≡ o = omega arith in
    (λ i. octet_of (letter_read (o / 16) high i) (letter_read (o % 16) low i)) ∙ ap Some same

pairs_back : (os : List ℕ) → Octets os → pairs (text_of os) ≡ Some os
pairs_back [] small = refl
pairs_back (o ∷ os) small = (λ i. before (octet_read o (small 0) i) (pairs_back os (λ k. small (suc k)) i))

hex_inked : (os : List ℕ) → Octets os → list_all inked (text_of os) ≡ true
hex_inked [] small = refl
hex_inked (o ∷ os) small =
    let o_small : o < 256 = small 0 in
    and_from _ _ (letter_inked (o / 16) (omega arith)) (and_from _ _ (letter_inked (o % 16) (omega arith)) (hex_inked os (λ k. small (suc k))))

hex_length : (os : List ℕ) → length (text_of os) ≡ 2 * length os
hex_length [] = refl
hex_length (o ∷ os) = omega (arith, hex_length os)

plain_inked : (c : ℕ) → plain_one c ≡ true → inked c ≡ true
plain_inked c e = grind (arith, nat_tests)

-- a key's text, and that it leaves ink
pub key_ink : (os : List ℕ) → Octets os → list_all inked (key_text os) ≡ true
key_ink os small = by (plain os) refl
  where
    by : (b : Bool) → plain os ≡ b → list_all inked (cond b os (codes "x:" ++ text_of os)) ≡ true
    by true e = every_weaker plain_one inked plain_inked os e
    by false e = hex_inked os small

pub key_some : (os : List ℕ) → 0 < length os → 0 < length (key_text os)
key_some os some = by (plain os)
  where
    by : (b : Bool) → 0 < length (cond b os (codes "x:" ++ text_of os))
    by true = some
    by false = omega arith

no_colon : (c : ℕ) → plain_one c ≡ true → eqb c 58 ≡ false
no_colon c e = grind (arith, nat_tests)

unmarked : (os : List ℕ) → plain os ≡ true → bytes_eq (take 2 os) (codes "x:") ≡ false
unmarked [] e = refl
unmarked (a ∷ []) e = and_right (eqb a 120) false refl
unmarked (a ∷ (b ∷ cs)) e =
    let parts = and_parts (plain_one a) (plain (b ∷ cs)) e in
    let colon = no_colon b (and_parts (plain_one b) (plain cs) parts.1).0 in
    and_right (eqb a 120) (bytes_eq (take 1 (b ∷ cs)) (58 ∷ [])) (and_left (eqb b 58) (bytes_eq (take 0 cs) []) colon)

module _ (k : Key) (os : List ℕ) (is : key_of os ≡ Some k) where
  plain_back : plain os ≡ true → key_read os ≡ Ok k
  plain_back e = rw (unmarked os e, e, is)

  hex_back : Octets os → length os ≤ 16 → key_read (codes "x:" ++ text_of os) ≡ Ok k
  hex_back small few =
      let even : eqb (length (text_of os) % 2) 0 ≡ true = eq-eqb _ _ (omega (arith, hex_length os)) in
      let short : leb (length (text_of os)) 32 ≡ true = le-leb _ _ (omega (arith, hex_length os)) in
      ap (expecting expected.HexKey) (cond-true (paired (length (text_of os))) (key_of_some (pairs (text_of os))) None (and_from _ _ even short) ∙ ap key_of_some (pairs_back os small) ∙ is)

  pub key_back : Octets os → length os ≤ 16 → key_read (key_text os) ≡ Ok k
  key_back small few = by (plain os) refl
    where
      by : (b : Bool) → plain os ≡ b → key_read (cond b os (codes "x:" ++ text_of os)) ≡ Ok k
      by true e = plain_back e
      by false e = hex_back small few
