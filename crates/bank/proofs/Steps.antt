-- From slots to calls: what a call does, where a bank keeps its thirty-two counts in a row.
use Rattle.std.proofs.Common.{◌≡◌, ℕ, ◌+◌, ◌*◌, ◌<◌, ◌≤◌, ◌≢◌, List, set, Ok, Err, ap, ◌∙◌, ⊎_elim, arith}
use Rattle.std.proofs.lemmas.Bool.{cases_eq}
use Rattle.std.proofs.lemmas.Bool.Decides.{nat_tests}
use Rattle.fault.specs.declared.Code.TheVariants.{Ceiling}
use Rattle.fault.specs.declared.Fault.{Fault}
use Rattle.fault.specs.Numbers.{call_fault}
use Rattle.bank.specs.declared.counts.Counts.{Counts}
use Rattle.bank.specs.Meaning.{none, place_of, count_of, raised}
use Rattle.bank.specs.Calls.{added, taken_out, counts_at}
use Rattle.bank.specs.Slots.{slot_of, pair_at, places}
use Rattle.bank.proofs.Places.{at_places, places_set}

-- a slot is that of a place and a direction
pub record Slot (p d k : ℕ) : Type 0 where
  pub place : p ≤ 15
  pub way : d ≤ 1
  pub slot : k ≡ 2 * p + d

pub slot_found : (p d k : ℕ) → slot_of p d ≡ Ok k → Slot p d k
slot_found p d k e = record { place = grind (arith, nat_tests); way = grind (arith, nat_tests); slot = grind (arith, nat_tests) }

-- no slot: the call is refused as the slot is, and leaves the counts
pub add_nowhere : (top : ℕ) (cs : List Counts) (p d n : ℕ) (e : Fault) → slot_of p d ≡ Err e → added top cs p d n ≡ (cs, Err e)
add_nowhere top cs p d n e h = grind (arith, nat_tests)

pub take_nowhere : (cs : List Counts) (p : ℕ) (e : Fault) → slot_of p 0 ≡ Err e → taken_out cs p ≡ (cs, Err e)
take_nowhere cs p e h = grind (arith, nat_tests)

pub read_nowhere : (cs : List Counts) (p : ℕ) (e : Fault) → slot_of p 0 ≡ Err e → counts_at cs p ≡ Err e
read_nowhere cs p e h = grind (arith, nat_tests)

-- what the answer to an add tells
pub record Done (top : ℕ) (cs : List Counts) (p d n : ℕ) : Type 0 where
  pub place : p ≤ 15
  pub way : d ≤ 1
  pub fits : count_of (place_of cs p) d + n ≤ top
  pub leaves : (added top cs p d n).0 ≡ set cs p (raised (place_of cs p) d n)

pub add_done : (top : ℕ) (cs : List Counts) (p d n : ℕ) → (added top cs p d n).1 ≡ Ok tt → Done top cs p d n
add_done top cs p d n e =
    record { place = grind (arith, nat_tests); way = grind (arith, nat_tests); fits = grind (arith, nat_tests); leaves = grind (arith, nat_tests) }

-- one of the counts at a place is the one at its slot
pub count_found : (f : ℕ → ℕ) (p d k : ℕ) → slot_of p d ≡ Ok k → count_of (place_of (places f) p) d ≡ f k
count_found f p d k found =
    let s = slot_found p d k found in
    let here = at_places f p (omega (arith, s.place)) in
    let way = s.way in
    let slot = s.slot in
    ap (λ c. count_of c d) here ∙ ⊎_elim (λ e. grind (arith, nat_tests)) (λ e. grind (arith, nat_tests)) (cases_eq d 0)

-- the sum would pass the ceiling
pub add_past : (top : ℕ) (f : ℕ → ℕ) (p d n k : ℕ) → slot_of p d ≡ Ok k → top < f k + n
    → added top (places f) p d n ≡ (places f, Err (call_fault Ceiling 0))
add_past top f p d n k found past =
    let s = slot_found p d k found in
    let place = s.place in
    let way = s.way in
    let here = count_found f p d k found in
    grind (arith, nat_tests)

-- a count that was raised at its slot is raised at its place
pub add_raises : (top : ℕ) (f g : ℕ → ℕ) (p d n k : ℕ) → slot_of p d ≡ Ok k → f k + n ≤ top
    → ((j : ℕ) → j < 32 → j ≢ k → g j ≡ f j) → g k ≡ f k + n → added top (places f) p d n ≡ (places g, Ok tt)
add_raises top f g p d n k found fits same more =
    let s = slot_found p d k found in
    let place = s.place in
    let way = s.way in
    let slot = s.slot in
    let here = at_places f p (omega arith) in
    let count = count_found f p d k found in
    let other = same (2 * p) (omega arith) in
    let next = same (2 * p + 1) (omega arith) in
    let c : raised (place_of (places f) p) d n ≡ pair_at g p =
    ap (λ c. raised c d n) here ∙ ⊎_elim (λ e. let o = next (omega arith) in grind (arith, nat_tests)) (λ e. let o = other (omega arith) in grind (arith, nat_tests)) (cases_eq d 0) in
    let after = places_set f g p (raised (place_of (places f) p) d n) place c (λ j b u v. same j b (⊎_elim (λ e. omega arith) (λ e. omega arith) (cases_eq d 0))) in
    grind (arith, nat_tests)

-- counts that were cleared at their slots are cleared at their place
pub take_clears : (f g : ℕ → ℕ) (p k : ℕ) → slot_of p 0 ≡ Ok k
    → ((j : ℕ) → j < 32 → j ≢ k → j ≢ k + 1 → g j ≡ f j) → g k ≡ 0 → g (k + 1) ≡ 0
    → taken_out (places f) p ≡ (places g, Ok (record { uplink = f k; downlink = f (k + 1) }))
take_clears f g p k found same up down =
    let s = slot_found p 0 k found in
    let place = s.place in
    let slot : k ≡ 2 * p = omega (arith, s.slot) in
    let here = at_places f p (omega arith) in
    let after = places_set f g p none place (grind arith) (λ j b u v. same j b (omega arith) (omega arith)) in
    grind (arith, nat_tests)

pub read_finds : (f : ℕ → ℕ) (p k : ℕ) → slot_of p 0 ≡ Ok k → counts_at (places f) p ≡ Ok (record { uplink = f k; downlink = f (k + 1) })
read_finds f p k found =
    let s = slot_found p 0 k found in
    let place = s.place in
    let slot : k ≡ 2 * p = omega (arith, s.slot) in
    let here = at_places f p (omega arith) in
    grind (arith, nat_tests)
