-- The sixteen places of thirty-two counts: how many, what stands at each, and when two are the same.
use Rattle.std.proofs.Common.{◌≡◌, ℕ, ◌+◌, ◌*◌, ◌<◌, ◌≤◌, ◌≢◌, List, length, set, sym, ap, ◌∙◌, ⊎_elim, arith, length-set}
use lib.ListN.{get_or-replicate}
use Rattle.std.proofs.lemmas.List.FromFn.{length-map-range_with_len, get_or-map-range_with_len}
use Rattle.std.proofs.lemmas.List.{ext_get_or, get_or_past, get_or-set_same, get_or-set_other}
use Rattle.std.proofs.lemmas.Bool.{cases_eq, cases_lt}
use Rattle.bank.specs.declared.counts.Counts.{Counts}
use Rattle.bank.specs.Meaning.{none, place_of, empty, Within}
use Rattle.bank.specs.Slots.{pair_at, places}

pub length-places : (f : ℕ → ℕ) → length (places f) ≡ 16
unfolding places
length-places f = length-map-range_with_len (pair_at f) 0 16

pub at_places : (f : ℕ → ℕ) (p : ℕ) → p < 16 → place_of (places f) p ≡ pair_at f p
unfolding places
at_places f p h = get_or-map-range_with_len (pair_at f) 0 16 p p none h (omega arith)

-- a ceiling of every slot is one of every place
pub within_places : (top : ℕ) (f : ℕ → ℕ) → ((k : ℕ) → f k ≤ top) → Within top (places f)
within_places top f low p =
    let up = low (2 * p) in
    let down = low (2 * p + 1) in
    ⊎_elim (λ h. let e = at_places f p h in (grind arith, grind arith))
    (λ h. let e = get_or_past (places f) p none (omega (arith, length-places f)) in (grind arith, grind arith))
    (cases_lt p 16)

-- sixteen counts that are those of the slots are the places
pub places_are : (f : ℕ → ℕ) (cs : List Counts) → length cs ≡ 16 → ((p : ℕ) → p < 16 → place_of cs p ≡ pair_at f p) → places f ≡ cs
places_are f cs l same =
    ext_get_or none (places f) cs (length-places f ∙ sym l)
    (λ p h. let b : p < 16 = omega (arith, length-places f) in at_places f p b ∙ sym (same p b))

-- sixteen places with nothing counted
pub all_empty : (cs : List Counts) → length cs ≡ 16 → ((p : ℕ) → p < 16 → place_of cs p ≡ none) → cs ≡ empty
all_empty cs l each =
    ext_get_or none cs empty l (λ p h. let b : p < 16 = omega (arith, l) in each p b ∙ sym (get_or-replicate 16 p none none b))

pub places_empty : (f : ℕ → ℕ) → ((k : ℕ) → k < 32 → f k ≡ 0) → places f ≡ empty
places_empty f zero =
    all_empty (places f) (length-places f)
    (λ p h. at_places f p h ∙ let up = zero (2 * p) (omega arith) in let down = zero (2 * p + 1) (omega arith) in grind arith)

-- where the slots of one place alone differ, the places differ in that place alone
pub places_set : (f g : ℕ → ℕ) (p : ℕ) (c : Counts) → p ≤ 15 → c ≡ pair_at g p
    → ((k : ℕ) → k < 32 → k ≢ 2 * p → k ≢ 2 * p + 1 → g k ≡ f k) → places g ≡ set (places f) p c
places_set f g p c h e same =
    places_are g (set (places f) p c) (length-set (places f) p c ∙ length-places f)
    (λ q b. ⊎_elim
    (λ i. ap (place_of (set (places f) p c)) i ∙ get_or-set_same (places f) p c none (omega (arith, length-places f)) ∙ e ∙ ap (pair_at g) (sym i))
    (λ i. get_or-set_other (places f) p q c none i ∙ at_places f q b ∙
    let up = same (2 * q) (omega arith) (omega arith) (omega arith) in let down = same (2 * q + 1) (omega arith) (omega arith) (omega arith) in grind arith)
    (cases_eq q p))
