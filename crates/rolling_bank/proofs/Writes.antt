-- What a call does to the meaning of the words that it writes.
use Rattle.std.proofs.Common.{◌≡◌, ℕ, ◌+◌, ◌%◌, ◌<◌, ◌≤◌, ◌≢◌, List, length, get_or, set, Ok, sym, ap, ◌∙◌, arith, length-set}
use Rattle.std.proofs.lemmas.List.{get_or-set_same, get_or-set_other, take-set-le}
use Rattle.bank.specs.Calls.{added, taken_out}
use Rattle.bank.specs.Slots.{slot_of}
use Rattle.bank.proofs.Steps.{slot_found, add_raises, take_clears}
use Rattle.rolling_bank.specs.Rolling.{gone, count_at, counters, counts_of, meant, advanced, marked}

-- a write to another slot's counter or mark leaves a count
keeps : (ws : List ℕ) (i v j : ℕ) → j ≢ i → 32 + j ≢ i → count_at (set ws i v) j ≡ count_at ws j
keeps ws i v j a b =
    ap (λ c. gone c (get_or (set ws i v) (32 + j) 0)) (get_or-set_other ws i j v 0 a) ∙ ap (gone (get_or ws j 0)) (get_or-set_other ws i (32 + j) v 0 b)

-- a mark that stands at its counter counts nothing
level : (ws : List ℕ) (k : ℕ) → get_or ws (32 + k) 0 ≡ get_or ws k 0 → count_at ws k ≡ 0
level ws k e = omega arith

-- a counter that goes on, modulo 2^32, raises its count
pub raises : (ws : List ℕ) (p d n k : ℕ) → length ws ≡ 64 → slot_of p d ≡ Ok k → get_or ws (32 + k) 0 < 4294967296
    → count_at ws k + n ≤ 4294967295 → added 4294967295 (meant ws) p d n ≡ (meant (advanced ws k n), Ok tt)
raises ws p d n k all found mark fits =
    let s = slot_found p d k found in
    let low : k < 32 = omega (arith, s.place, s.way, s.slot) in
    let v = (get_or ws k 0 + n) % 4294967296 in
    let counter = get_or-set_same ws k v 0 (omega arith) in
    let same = get_or-set_other ws k (32 + k) v 0 (omega arith) in
    add_raises 4294967295 (count_at ws) (count_at (advanced ws k n)) p d n k found fits
    (λ j b other. keeps ws k v j other (omega arith))
    (ap (λ c. gone c (get_or (advanced ws k n) (32 + k) 0)) counter ∙ ap (gone v) same ∙ omega arith)

-- a mark that was moved to its counter leaves the next counter to be read
pub moved : (ws : List ℕ) (k : ℕ) → set (set ws (32 + k) (get_or ws k 0)) (33 + k) (get_or (set ws (32 + k) (get_or ws k 0)) (k + 1) 0) ≡ marked ws k
moved ws k = ap (set (set ws (32 + k) (get_or ws k 0)) (33 + k)) (get_or-set_other ws (32 + k) (k + 1) (get_or ws k 0) 0 (omega arith))

-- no counter moves with a mark
pub counters_stay : (ws : List ℕ) (k : ℕ) → counters (marked ws k) ≡ counters ws
counters_stay ws k =
    take-set-le 32 (set ws (32 + k) (get_or ws k 0)) (33 + k) _ (omega arith) ∙ take-set-le 32 ws (32 + k) _ (omega arith)

-- marks that are moved to their counters clear their counts
pub clears : (ws : List ℕ) (p k : ℕ) → length ws ≡ 64 → slot_of p 0 ≡ Ok k → taken_out (meant ws) p ≡ (meant (marked ws k), Ok (counts_of ws k))
clears ws p k all found =
    let s = slot_found p 0 k found in
    let low : k + 1 < 32 = omega (arith, s.place, s.slot) in
    let u = get_or ws k 0 in
    let d = get_or ws (k + 1) 0 in
    let one = set ws (32 + k) u in
    let size = length-set ws (32 + k) u in
    take_clears (count_at ws) (count_at (marked ws k)) p k found
    (λ j b other next. keeps one (33 + k) d j (omega arith) (omega arith) ∙ keeps ws (32 + k) u j (omega arith) (omega arith))
    (keeps one (33 + k) d k (omega arith) (omega arith)
    ∙ level one k (get_or-set_same ws (32 + k) u 0 (omega arith) ∙ sym (get_or-set_other ws (32 + k) k u 0 (omega arith))))
    (level (marked ws k) (k + 1)
    (ap (λ i. get_or (marked ws k) i 0) (omega arith) ∙ get_or-set_same one (33 + k) d 0 (omega arith)
    ∙ sym (get_or-set_other one (33 + k) (k + 1) d 0 (omega arith) ∙ get_or-set_other ws (32 + k) (k + 1) u 0 (omega arith))))
