-- Walks along a line, one character at a time.
use Rattle.std.proofs.Common.{◌≡◌, ℕ, ◌+◌, ◌<◌, ◌≤◌, Bool, true, false, cond, ◌&&◌, ◌⊎◌, List, [], ◌∷◌, length, get_or, drop, sym, refl, ap, ◌∙◌, inl, inr, ne_eqb}
use Rattle.std.specs.Str.{bytes_eq}
use Rattle.std.proofs.lemmas.List.{at_drop_more, at_drop_all}
use Rattle.request.specs.Lines.{bare}

and_false : (a b : Bool) → a ≡ false → (a && b) ≡ false
and_false a b e = rw e

-- what is left is a dash, or nothing once a dash was seen
abbrev pub dash_from : Bool → List ℕ → Bool
dash_from seen text = bytes_eq (bare text) (cond seen [] (45 ∷ []))

bare_space : (c : ℕ) (cs : List ℕ) → c ≡ 32 → bare (c ∷ cs) ≡ bare cs
bare_space c cs e = rw e

bare_other : (c : ℕ) (cs : List ℕ) → (c ≡ 32 → ⊥) → bare (c ∷ cs) ≡ c ∷ bare cs
bare_other c cs ne = rw (ne_eqb c 32 ne)

pub dash_space : (text : List ℕ) (i : ℕ) (seen w : Bool) → i < length text → get_or text i 0 ≡ 32 → dash_from seen (drop i text) ≡ w → dash_from seen (drop (i + 1) text) ≡ w
dash_space text i seen w l e h = sym (ap (λ b. bytes_eq b (cond seen [] (45 ∷ []))) (at_drop_more bare text i 0 l ∙ bare_space (get_or text i 0) (drop (i + 1) text) e)) ∙ h

first_dash : (c : ℕ) (cs : List ℕ) → c ≡ 45 → bytes_eq (c ∷ cs) (45 ∷ []) ≡ bytes_eq cs []
first_dash c cs e = rw e

pub dash_goes : (text : List ℕ) (i : ℕ) (seen w : Bool) → i < length text → (get_or text i 0 ≡ 32 → ⊥) → seen ≡ false → get_or text i 0 ≡ 45 → dash_from seen (drop i text) ≡ w → dash_from true (drop (i + 1) text) ≡ w
dash_goes text i seen w l ne s e h =
    sym (ap (λ b. bytes_eq b (45 ∷ [])) (at_drop_more bare text i 0 l ∙ bare_other (get_or text i 0) (drop (i + 1) text) ne) ∙ first_dash (get_or text i 0) (bare (drop (i + 1) text)) e) ∙ rw s at h

not_dash : (c : ℕ) (cs : List ℕ) (seen : Bool) → (seen ≡ true) ⊎ (c ≡ 45 → ⊥) → bytes_eq (c ∷ cs) (cond seen [] (45 ∷ [])) ≡ false
not_dash c cs seen (inl s) = rw s
not_dash c cs true (inr ne) = refl
not_dash c cs false (inr ne) = and_false _ _ (ne_eqb c 45 ne)

pub dash_stops : (text : List ℕ) (i : ℕ) (seen w : Bool) → i < length text → (get_or text i 0 ≡ 32 → ⊥) → (seen ≡ true) ⊎ (get_or text i 0 ≡ 45 → ⊥) → dash_from seen (drop i text) ≡ w → false ≡ w
dash_stops text i seen w l ne o h =
    sym (ap (λ b. bytes_eq b (cond seen [] (45 ∷ []))) (at_drop_more bare text i 0 l ∙ bare_other (get_or text i 0) (drop (i + 1) text) ne) ∙ not_dash (get_or text i 0) (bare (drop (i + 1) text)) seen o) ∙ h

dash_none : (seen : Bool) → dash_from seen [] ≡ seen
dash_none true = refl
dash_none false = refl

pub dash_ends : (text : List ℕ) (i : ℕ) (seen w : Bool) → length text ≤ i → dash_from seen (drop i text) ≡ w → seen ≡ w
dash_ends text i seen w l h = sym (at_drop_all (dash_from seen) text i l ∙ dash_none seen) ∙ h
