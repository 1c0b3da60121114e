-- A text that is read in part: the octets so far, a first digit that waits for its second, and the rest.
use Rattle.std.proofs.Common.{zero, suc, IsUtf8, IsAscii, ◌≡◌, ℕ, ◌+◌, ◌*◌, ◌/◌, ◌%◌, ◌-◌, ◌^◌, false, arith, ◌<◌, ◌≤◌, cond, eqb, List, [], ◌∷◌, ◌++◌, length, get_or, take, drop, IfSome, Some, None, Ok, Err, Option, Result, sym, refl, ap, ◌∙◌, append_assoc, append-nil, ne_eqb}
use Rattle.std.proofs.Math.Seq.{take-length}
use Rattle.std.proofs.lemmas.Str.{IsUtf8-from_ascii}
use Rattle.std.proofs.lemmas.List.{at_drop_more, at_drop_all}
use Rattle.hexadecimal.specs.declared.error.HexError.{HexError}
use Rattle.hexadecimal.specs.declared.error.HexError.TheVariants.{NotADigit, Odd}
use Rattle.hexadecimal.specs.Text.{digit_of, digits, paired, next, before, octets_of, letter_of, text_of}

abbrev pub opened : Option ℕ → List ℕ → List ℕ
opened None ds = ds
opened (Some h) ds = h ∷ ds

abbrev pub going_by : List ℕ → Option ℕ → Result (List ℕ) HexError → Result (List ℕ) HexError
going_by done high rest = next rest (λ ds. next (paired (opened high ds)) (λ os. Ok (done ++ os)))

abbrev pub going : List ℕ → Option ℕ → ℕ → List ℕ → Result (List ℕ) HexError
going done high i cs = going_by done high (digits i cs)

-- the digits from a place on, by its character
pub one_more : (text : List ℕ) (i : ℕ) → i < length text
    → digits i (drop i text) ≡ cond (eqb (get_or text i 0) 32) (digits (i + 1) (drop (i + 1) text)) (before (digit_of (get_or text i 0)) i (digits (i + 1) (drop (i + 1) text)))
one_more text i h = at_drop_more (digits i) text i 0 h

at_space : (c i : ℕ) (rest : Result (List ℕ) HexError) → c ≡ 32 → cond (eqb c 32) rest (before (digit_of c) i rest) ≡ rest
at_space c i rest e = rw e

at_other : (c i : ℕ) (o : Option ℕ) (rest : Result (List ℕ) HexError) → (c ≡ 32 → ⊥) → o ≡ digit_of c
    → cond (eqb c 32) rest (before (digit_of c) i rest) ≡ before o i rest
at_other c i o rest ne e = rw (ne_eqb c 32 ne, e)

-- a space is skipped
pub space : (done : List ℕ) (high : Option ℕ) (text : List ℕ) (i : ℕ) (whole : Result (List ℕ) HexError) → i < length text → get_or text i 0 ≡ 32
    → going done high i (drop i text) ≡ whole → going done high (i + 1) (drop (i + 1) text) ≡ whole
space done high text i whole h e w = sym (ap (going_by done high) (one_more text i h ∙ at_space _ i _ e)) ∙ w

-- a character that is no digit ends it
pub bad : (done : List ℕ) (high : Option ℕ) (text : List ℕ) (i : ℕ) (whole : Result (List ℕ) HexError) → i < length text → (get_or text i 0 ≡ 32 → ⊥) → None ≡ digit_of (get_or text i 0)
    → going done high i (drop i text) ≡ whole → whole ≡ Err (NotADigit i)
bad done high text i whole h ne e w = sym w ∙ ap (going_by done high) (one_more text i h ∙ at_other _ i None _ ne e)

opening : (done : List ℕ) (d : ℕ) (rest : Result (List ℕ) HexError) → going_by done (Some d) rest ≡ going_by done None (next rest (λ ds. Ok (d ∷ ds)))
opening done d (Ok ds) = refl
opening done d (Err e) = refl

-- the first digit of an octet waits
pub first : (done : List ℕ) (text : List ℕ) (i d : ℕ) (whole : Result (List ℕ) HexError) → i < length text → (get_or text i 0 ≡ 32 → ⊥) → Some d ≡ digit_of (get_or text i 0)
    → going done None i (drop i text) ≡ whole → going done (Some d) (i + 1) (drop (i + 1) text) ≡ whole
first done text i d whole h ne e w = opening done d (digits (i + 1) (drop (i + 1) text)) ∙ sym (ap (going_by done None) (one_more text i h ∙ at_other _ i (Some d) _ ne e)) ∙ w

behind : (done : List ℕ) (o : ℕ) (rest : Result (List ℕ) HexError)
    → next rest (λ os. Ok ((done ++ (o ∷ [])) ++ os)) ≡ next (next rest (λ os. Ok (o ∷ os))) (λ os. Ok (done ++ os))
behind done o (Err e) = refl
behind done o (Ok os) = rw append_assoc

closing : (done : List ℕ) (h d : ℕ) (rest : Result (List ℕ) HexError)
    → going_by (done ++ ((16 * h + d) ∷ [])) None rest ≡ going_by done (Some h) (next rest (λ ds. Ok (d ∷ ds)))
closing done h d (Err e) = refl
closing done h d (Ok ds) = behind done (16 * h + d) (paired ds)

-- the second digit makes the octet
pub second : (done : List ℕ) (text : List ℕ) (i h d : ℕ) (whole : Result (List ℕ) HexError) → i < length text → (get_or text i 0 ≡ 32 → ⊥) → Some d ≡ digit_of (get_or text i 0)
    → going done (Some h) i (drop i text) ≡ whole → going (done ++ ((16 * h + d) ∷ [])) None (i + 1) (drop (i + 1) text) ≡ whole
second done text i h d whole l ne e w = closing done h d (digits (i + 1) (drop (i + 1) text)) ∙ sym (ap (going_by done (Some h)) (one_more text i l ∙ at_other _ i (Some d) _ ne e)) ∙ w

-- at the end nothing may wait
pub ended : (done : List ℕ) (text : List ℕ) (i : ℕ) (whole : Result (List ℕ) HexError) → length text ≤ i
    → going done None i (drop i text) ≡ whole → whole ≡ Ok done
ended done text i whole l w = sym w ∙ at_drop_all (going done None i) text i l ∙ rw append-nil

pub half : (done : List ℕ) (text : List ℕ) (i h : ℕ) (whole : Result (List ℕ) HexError) → length text ≤ i
    → going done (Some h) i (drop i text) ≡ whole → whole ≡ Err Odd
half done text i h whole l w = sym w ∙ at_drop_all (going done (Some h) i) text i l

-- the same for values that are known by equations
abbrev pub Reads : List ℕ → Option ℕ → ℕ → List ℕ → Type 0
Reads done high i text = (going done high i (drop i text) ≡ octets_of text) × IfSome high (λ h. h < 16)

pub first_again : (done done' : List ℕ) (high high' : Option ℕ) (text : List ℕ) (i d : ℕ) → i < length text → (get_or text i 0 ≡ 32 → ⊥) → Some d ≡ digit_of (get_or text i 0) → d < 16
    → done' ≡ done → high ≡ None → high' ≡ Some d → Reads done high i text → Reads done' high' (i + 1) text
first_again done done' high high' text i d l ne e small p q r w =
    rw (p, r) (first done text i d _ l ne e (rw q at w.0), small)

pub second_again : (done done' : List ℕ) (high high' : Option ℕ) (text : List ℕ) (i h d : ℕ) → i < length text → (get_or text i 0 ≡ 32 → ⊥) → Some d ≡ digit_of (get_or text i 0)
    → done' ≡ done ++ ((16 * h + d) ∷ []) → high ≡ Some h → high' ≡ None → Reads done high i text → Reads done' high' (i + 1) text
second_again done done' high high' text i h d l ne e p q r w =
    rw (p, r) (second done text i h d _ l ne e (rw q at w.0), tt)

-- its two letters stand behind what was written
pub octet_more : (was : List ℕ) (octets : List ℕ) (i : ℕ) (whole : List ℕ) → i < length octets → was ++ text_of (drop i octets) ≡ whole
    → (was ++ (letter_of (get_or octets i 0 / 16) ∷ letter_of (get_or octets i 0 % 16) ∷ [])) ++ text_of (drop (i + 1) octets) ≡ whole
octet_more was octets i whole lt w = append_assoc was _ _ ∙ sym (at_drop_more (λ os. was ++ text_of os) octets i 0 lt) ∙ w

-- the letters of four octets likewise, where there are four
pub four_more : (was : List ℕ) (os : List ℕ) (whole : List ℕ) → 4 ≤ length os → was ++ text_of os ≡ whole
    → (was ++ text_of (get_or os 0 0 ∷ (get_or os 1 0 ∷ (get_or os 2 0 ∷ (get_or os 3 0 ∷ []))))) ++ text_of (take (length os - 4) (drop 4 os)) ≡ whole
four_more was [] whole enough w = absurd (omega (arith, enough))
four_more was (a ∷ []) whole enough w = absurd (omega (arith, enough))
four_more was (a ∷ (b ∷ [])) whole enough w = absurd (omega (arith, enough))
four_more was (a ∷ (b ∷ (c ∷ []))) whole enough w = absurd (omega (arith, enough))
four_more was (a ∷ (b ∷ (c ∷ (d ∷ rest)))) whole enough w =
    let left : length (a ∷ (b ∷ (c ∷ (d ∷ rest)))) - 4 ≡ length rest = omega arith in
    ap (λ (k : ℕ). (was ++ text_of (a ∷ (b ∷ (c ∷ (d ∷ []))))) ++ text_of (take k rest)) left
    ∙ ap (λ (r : List ℕ). (was ++ text_of (a ∷ (b ∷ (c ∷ (d ∷ []))))) ++ text_of r) (take-length rest)
    ∙ append_assoc was (text_of (a ∷ (b ∷ (c ∷ (d ∷ []))))) (text_of rest)
    ∙ w

-- eight letters are ASCII, and so are text
pub eight_text : (a b c d e f g h : ℕ) → a < 128 → b < 128 → c < 128 → d < 128 → e < 128 → f < 128 → g < 128 → h < 128
    → IsUtf8 (a ∷ (b ∷ (c ∷ (d ∷ (e ∷ (f ∷ (g ∷ (h ∷ []))))))))
eight_text a b c d e f g h pa pb pc pd pe pf pg ph = IsUtf8-from_ascii _ each where
  each : IsAscii (a ∷ (b ∷ (c ∷ (d ∷ (e ∷ (f ∷ (g ∷ (h ∷ []))))))))
  each zero = pa
  each (suc zero) = pb
  each (suc (suc zero)) = pc
  each (suc (suc (suc zero))) = pd
  each (suc (suc (suc (suc zero)))) = pe
  each (suc (suc (suc (suc (suc zero))))) = pf
  each (suc (suc (suc (suc (suc (suc zero)))))) = pg
  each (suc (suc (suc (suc (suc (suc (suc zero))))))) = ph
  each (suc (suc (suc (suc (suc (suc (suc (suc i)))))))) = omega arith
