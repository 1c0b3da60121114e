-- What an AVP holds and what follows it are shorter than what it stands in.
use Rattle.std.proofs.Common.{◌≡◌, ℕ, ◌-◌, ◌<◌, min, List, length, take, drop, Ok, arith}
use Rattle.std.proofs.lemmas.List.{length-drop, length-take}
use Rattle.std.proofs.lemmas.Bool.Decides.{nat_tests}
use Rattle.avp.specs.Octets.{padded}
use Rattle.avp.specs.Header.{Parsed, first_avp, flags_of, header_length, stated}

pub rest_shorter : (at : ℕ) (bs : List ℕ) (a : Parsed) → first_avp at bs ≡ Ok a → length a.rest.octets < length bs
rest_shorter at bs a e =
    let shorter : length (drop (padded (stated bs)) bs) ≡ length bs - padded (stated bs) = length-drop _ bs in
    grind (arith, nat_tests)

pub body_shorter : (at : ℕ) (bs : List ℕ) (a : Parsed) → first_avp at bs ≡ Ok a → length a.body.octets < length bs
body_shorter at bs a e =
    let h = header_length (flags_of bs) in
    let held : length (take (stated bs - h) (drop h bs)) ≡ min (stated bs - h) (length (drop h bs)) = length-take _ (drop h bs) in
    let shorter : length (drop h bs) ≡ length bs - h = length-drop _ bs in
    grind (arith, nat_tests)
