-- A word at the front of a text is cut off whole.
use Rattle.std.proofs.Common.{◌≡◌, ℕ, ◌+◌, ◌<◌, Bool, true, false, cond, not, eqb, ltb, List, [], ◌∷◌, ◌++◌, length, take, drop, sym, refl, ap, ◌∙◌, append-nil, one-add, arith}
use Rattle.std.proofs.lemmas.List.{take_at, drop_at}
use Rattle.std.proofs.lemmas.Bool.{and_parts}
use Rattle.std.proofs.lemmas.Bool.Decides.{nat_tests}
use Rattle.std.specs.List.{list_all, prefix_len}
use Rattle.words.specs.Words.{is_space, word_length, trimmed, word_of, rest_of}

-- a character that leaves ink, and so no space
abbrev pub inked : ℕ → Bool
inked c = ltb 32 c

no_space : (c : ℕ) → inked c ≡ true → eqb c 32 ≡ false
no_space c e = grind (arith, nat_tests)

counted : (b : Bool) (n : ℕ) → b ≡ false → cond (not b) (1 + n) 0 ≡ 1 + n
counted b n e = rw e

-- the run of the word's characters, and then that of the rest
run : (w rest : List ℕ) → list_all inked w ≡ true → prefix_len (is_space false) rest ≡ 0 → word_length (w ++ rest) ≡ length w
run [] rest ink stop = stop
run (c ∷ cs) rest ink stop =
    let parts = and_parts (inked c) (list_all inked cs) ink in
    counted (eqb c 32) (prefix_len (is_space false) (cs ++ rest)) (no_space c parts.0) ∙ ap (λ n. 1 + n) (run cs rest parts.1 stop) ∙ one-add (length cs)

at_once : (w rest : List ℕ) → list_all inked w ≡ true → 0 < length w → trimmed (w ++ rest) ≡ w ++ rest
at_once [] rest ink some = let absurd_here : ⊥ = omega arith in absurd absurd_here
at_once (c ∷ cs) rest ink some = rw (no_space c (and_parts (inked c) (list_all inked cs) ink).0)

module _ (w rest : List ℕ) (ink : list_all inked w ≡ true) (some : 0 < length w) (stop : prefix_len (is_space false) rest ≡ 0) where
  pub word_first : word_of (w ++ rest) ≡ w
  word_first =
      ap (λ t. take (word_length t) t) (at_once w rest ink some)
      ∙ take_at w rest (word_length (w ++ rest)) (sym (run w rest ink stop))

  pub rest_first : rest_of (w ++ rest) ≡ rest
  rest_first =
      ap (λ t. drop (word_length t) t) (at_once w rest ink some)
      ∙ drop_at w rest (word_length (w ++ rest)) (sym (run w rest ink stop))

-- a space at the front does not count
past_space : (text : List ℕ) → trimmed (32 ∷ text) ≡ trimmed text
past_space text = ap (λ n. drop n (32 ∷ text)) (one-add (prefix_len (is_space true) text))

pub word_after : (text : List ℕ) → word_of (32 ∷ text) ≡ word_of text
word_after text = ap (λ t. take (word_length t) t) (past_space text)

pub rest_after : (text : List ℕ) → rest_of (32 ∷ text) ≡ rest_of text
rest_after text = ap (λ t. drop (word_length t) t) (past_space text)

pub word_alone : (w : List ℕ) → list_all inked w ≡ true → 0 < length w → word_of (32 ∷ w) ≡ w
word_alone w ink some = ap (λ t. word_of (32 ∷ t)) (sym (append-nil w)) ∙ word_after (w ++ []) ∙ word_first w [] ink some refl

pub rest_alone : (w : List ℕ) → list_all inked w ≡ true → 0 < length w → rest_of (32 ∷ w) ≡ []
rest_alone w ink some = ap (λ t. rest_of (32 ∷ t)) (sym (append-nil w)) ∙ rest_after (w ++ []) ∙ rest_first w [] ink some refl
