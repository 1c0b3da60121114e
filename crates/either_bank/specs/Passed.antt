-- Octets that are added to both counts of a place and taken out again, with what stood there before.
use Rattle.std.specs.Prelude.{ℕ, ◌+◌, cond, ◌||◌, List, Ok, Err, Result, nat_lt, slice_set}
use Rattle.fault.specs.declared.Code.TheVariants.{Ceiling, Range}
use Rattle.fault.specs.declared.Fault.{Fault}
use Rattle.fault.specs.Numbers.{call_fault}
use Rattle.bank.specs.declared.counts.Counts.{Counts}
use Rattle.bank.specs.Meaning.{none, place_of}

abbrev pub sum : Counts → Counts → Counts
sum a b = record { uplink = a.uplink + b.uplink; downlink = a.downlink + b.downlink }

-- both sums are answered and the place is empty, or nothing is changed
abbrev pub passed : ℕ → List Counts → ℕ → Counts → List Counts × Result Counts Fault
passed top cs p more =
    cond (nat_lt 15 p) (cs, Err (call_fault Range 0))
    (cond (nat_lt top (sum (place_of cs p) more).uplink || nat_lt top (sum (place_of cs p) more).downlink) (cs, Err (call_fault Ceiling 0))
    (slice_set cs p none, Ok (sum (place_of cs p) more)))
