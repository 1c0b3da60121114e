-- What a call does to the meaning of the words that it writes.
use Rattle.std.proofs.Common.{◌≡◌, ℕ, ◌+◌, ◌<◌, ◌≤◌, min, List, length, get_or, set, replicate, Ok, Err, ap, ◌∙◌, arith, length-set}
use lib.ListN.{get_or-replicate}
use Rattle.std.proofs.lemmas.List.{get_or-set_same, get_or-set_other}
use Rattle.fault.specs.declared.Code.TheVariants.{Ceiling}
use Rattle.fault.specs.Numbers.{call_fault}
use Rattle.bank.specs.Calls.{added, taken_out}
use Rattle.bank.specs.Meaning.{empty}
use Rattle.bank.specs.Slots.{slot_of}
use Rattle.bank.proofs.Places.{places_empty}
use Rattle.bank.proofs.Steps.{slot_found, add_past, add_raises, take_clears}
use Rattle.word_bank.specs.Words.{count_at, counts_of, meant}

-- words that are not above the ceiling count what they hold
pub past : (ws : List ℕ) (p d n k : ℕ) → ((slot : ℕ) → get_or ws slot 0 ≤ 1099511627775) → slot_of p d ≡ Ok k
    → 1099511627775 < get_or ws k 0 + n → added 1099511627775 (meant ws) p d n ≡ (meant ws, Err (call_fault Ceiling 0))
past ws p d n k low found over =
    let here = low k in
    add_past 1099511627775 (count_at ws) p d n k found (omega (arith, here, over))

pub raises : (ws : List ℕ) (p d n k : ℕ) → length ws ≡ 32 → slot_of p d ≡ Ok k → get_or ws k 0 + n ≤ 1099511627775
    → added 1099511627775 (meant ws) p d n ≡ (meant (set ws k (get_or ws k 0 + n)), Ok tt)
raises ws p d n k all found fits =
    let s = slot_found p d k found in
    let v = get_or ws k 0 + n in
    add_raises 1099511627775 (count_at ws) (count_at (set ws k v)) p d n k found (omega (arith, fits))
    (λ j b other. ap (λ w. min w 1099511627775) (get_or-set_other ws k j v 0 other))
    (ap (λ w. min w 1099511627775) (get_or-set_same ws k v 0 (omega (arith, all, s.place, s.way, s.slot))) ∙ omega (arith, fits))

pub clears : (ws : List ℕ) (p k : ℕ) → length ws ≡ 32 → slot_of p 0 ≡ Ok k
    → taken_out (meant ws) p ≡ (meant (set (set ws k 0) (k + 1) 0), Ok (counts_of ws k))
clears ws p k all found =
    let s = slot_found p 0 k found in
    let low : k + 1 < length ws = omega (arith, all, s.place, s.slot) in
    let one = set ws k 0 in
    let both = set one (k + 1) 0 in
    take_clears (count_at ws) (count_at both) p k found
    (λ j b other next. ap (λ w. min w 1099511627775) (get_or-set_other one (k + 1) j 0 0 next ∙ get_or-set_other ws k j 0 0 other))
    (ap (λ w. min w 1099511627775) (get_or-set_other one (k + 1) k 0 0 (omega arith) ∙ get_or-set_same ws k 0 0 (omega arith)))
    (ap (λ w. min w 1099511627775) (get_or-set_same one (k + 1) 0 0 (omega (arith, length-set ws k 0))))

-- cleared words count nothing
pub cleared : meant (replicate 32 0) ≡ empty
cleared = places_empty (count_at (replicate 32 0)) (λ k h. ap (λ w. min w 1099511627775) (get_or-replicate 32 k 0 0 h))
