-- Two additions at a place and a take out, in a row.
use Rattle.std.proofs.Common.{◌≡◌, ℕ, List, length, set, Ok, ap, ◌∙◌, arith}
use Rattle.std.proofs.lemmas.List.{get_or-set_same, set-set}
use Rattle.std.proofs.lemmas.Bool.Decides.{nat_tests}
use Rattle.bank.specs.declared.counts.Counts.{Counts}
use Rattle.bank.specs.Calls.{added, taken_out}
use Rattle.bank.specs.Meaning.{none, place_of, raised}
use Rattle.bank.proofs.Steps.{add_done}
use Rattle.either_bank.specs.Passed.{passed, sum}

pub passes : (top : ℕ) (cs one two : List Counts) (p : ℕ) (more : Counts) → length cs ≡ 16
    → (added top cs p 0 more.uplink).1 ≡ Ok tt → one ≡ (added top cs p 0 more.uplink).0
    → (added top one p 1 more.downlink).1 ≡ Ok tt → two ≡ (added top one p 1 more.downlink).0
    → taken_out two p ≡ passed top cs p more
passes top cs one two p more l up e down f =
    let a = add_done top cs p 0 more.uplink up in
    let b = add_done top one p 1 more.downlink down in
    let place = a.place in
    let x = raised (place_of cs p) 0 more.uplink in
    let y = sum (place_of cs p) more in
    let first : one ≡ set cs p x = e ∙ a.leaves in
    let there : place_of one p ≡ x = ap (λ cs'. place_of cs' p) first ∙ get_or-set_same cs p x none (omega (arith, l, place)) in
    let second : two ≡ set cs p y = f ∙ b.leaves ∙ ap (λ c. set one p (raised c 1 more.downlink)) there ∙ ap (λ cs'. set cs' p y) first ∙ set-set cs p x y in
    let here : place_of two p ≡ y = ap (λ cs'. place_of cs' p) second ∙ get_or-set_same cs p y none (omega (arith, l, place)) in
    let gone : set two p none ≡ set cs p none = ap (λ cs'. set cs' p none) second ∙ set-set cs p y none in
    let fits = a.fits in
    let fits' = b.fits in
    grind (arith, nat_tests)
