-- The text of octets is read back as those octets.
use Rattle.std.proofs.Common.{◌≡◌, ℕ, suc, ◌+◌, ◌*◌, ◌/◌, ◌%◌, ◌<◌, cond, eqb, List, [], ◌∷◌, get_or, Some, Ok, Result, refl, ap, ◌∙◌, arith, ne_eqb}
use Rattle.std.proofs.lemmas.Bool.Decides.{nat_tests}
use Rattle.hexadecimal.specs.declared.error.HexError.{HexError}
use Rattle.hexadecimal.specs.Text.{digit_of, letter_of, digits, paired, next, before, octets_of, text_of}

-- the values of the digits of octets
abbrev nibbles : List ℕ → List ℕ
nibbles [] = []
nibbles (o ∷ os) = (o / 16) ∷ ((o % 16) ∷ nibbles os)

letter_no_space : (d : ℕ) → d < 16 → letter_of d ≡ 32 → ⊥
letter_no_space d l e = grind (arith, nat_tests)

letter_read : (d : ℕ) → d < 16 → digit_of (letter_of d) ≡ Some d
letter_read d l = grind (arith, nat_tests)

one_read : (d i : ℕ) (rest : Result (List ℕ) HexError) → d < 16
    → cond (eqb (letter_of d) 32) rest (before (digit_of (letter_of d)) i rest) ≡ next rest (λ ds. Ok (d ∷ ds))
one_read d i rest l = rw (ne_eqb (letter_of d) 32 (letter_no_space d l), letter_read d l)

whole_octet : (o : ℕ) → 16 * (o / 16) + o % 16 ≡ o
whole_octet o = omega arith

digits_text : (i : ℕ) (os : List ℕ) → ((k : ℕ) → get_or os k 0 < 256) → digits i (text_of os) ≡ Ok (nibbles os)
digits_text i [] small = refl
digits_text i (o ∷ os) small =
    let o_small : o < 256 = small 0 in
    let high : o / 16 < 16 = omega arith in
    let low : o % 16 < 16 = omega arith in
    one_read (o / 16) i (digits (i + 1) (letter_of (o % 16) ∷ text_of os)) high
    ∙ ap (λ r. next r (λ ds. Ok ((o / 16) ∷ ds))) (one_read (o % 16) (i + 1) (digits (i + 1 + 1) (text_of os)) low ∙ ap (λ r. next r (λ ds. Ok ((o % 16) ∷ ds))) (digits_text (i + 1 + 1) os (λ k. small (suc k))))

paired_nibbles : (os : List ℕ) → paired (nibbles os) ≡ Ok os
paired_nibbles [] = refl
paired_nibbles (o ∷ os) = ap (λ r. next r (λ xs. Ok ((16 * (o / 16) + o % 16) ∷ xs))) (paired_nibbles os) ∙ ap (λ n. Ok (n ∷ os)) (whole_octet o)

pub read_back : (os : List ℕ) → ((k : ℕ) → get_or os k 0 < 256) → octets_of (text_of os) ≡ Ok os
read_back os small = ap (λ r. next r paired) (digits_text 0 os small) ∙ paired_nibbles os
