-- Digits that are read one after the other.
use Rattle.std.proofs.Common.{◌≡◌, ℕ, ◌+◌, ◌<◌, ◌≤◌, List, length, get_or, drop, Some, None, Option, sym, ap, ◌∙◌}
use Rattle.std.proofs.lemmas.List.{at_drop_more, at_drop_all}
use Rattle.words.specs.Numbers.{longer, onward, value_of}

one_more : (digits : List ℕ) (i n : ℕ) (o w : Option ℕ) → i < length digits → o ≡ longer n (get_or digits i 0) → value_of n (drop i digits) ≡ w → onward o (λ m. value_of m (drop (i + 1) digits)) ≡ w
one_more digits i n o w l e h = ap (λ p. onward p (λ m. value_of m (drop (i + 1) digits))) e ∙ sym (at_drop_more (value_of n) digits i 0 l) ∙ h

pub value_goes : (digits : List ℕ) (i n m : ℕ) (w : Option ℕ) → i < length digits → Some m ≡ longer n (get_or digits i 0) → value_of n (drop i digits) ≡ w → value_of m (drop (i + 1) digits) ≡ w
value_goes digits i n m w l e h = one_more digits i n (Some m) w l e h

pub value_stops : (digits : List ℕ) (i n : ℕ) (w : Option ℕ) → i < length digits → None ≡ longer n (get_or digits i 0) → value_of n (drop i digits) ≡ w → None ≡ w
value_stops digits i n w l e h = one_more digits i n None w l e h

pub value_ends : (digits : List ℕ) (i n : ℕ) (w : Option ℕ) → length digits ≤ i → value_of n (drop i digits) ≡ w → Some n ≡ w
value_ends digits i n w l h = sym (at_drop_all (value_of n) digits i l) ∙ h
