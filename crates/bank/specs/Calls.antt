-- What the three calls of a bank do, for any counts and any arguments: the counts that they leave, and the answer.
use Rattle.std.specs.Prelude.{ℕ, ◌+◌, cond, List, Ok, Err, Result, nat_lt, slice_set}
use Rattle.fault.specs.declared.Code.TheVariants.{Ceiling, Range}
use Rattle.fault.specs.declared.Fault.{Fault}
use Rattle.fault.specs.Numbers.{call_fault}
use Rattle.bank.specs.declared.counts.Counts.{Counts}
use Rattle.bank.specs.Meaning.{none, place_of, count_of, raised}

-- add: code 5 comes before code 19; a refusal leaves every count
abbrev pub added : ℕ → List Counts → ℕ → ℕ → ℕ → List Counts × Result (Unit {0}) Fault
added top cs p d n =
    cond (nat_lt 15 p) (cs, Err (call_fault Range 0))
    (cond (nat_lt 1 d) (cs, Err (call_fault Range 0))
    (cond (nat_lt top (count_of (place_of cs p) d + n)) (cs, Err (call_fault Ceiling 0))
    (slice_set cs p (raised (place_of cs p) d n), Ok tt)))

-- take out: both counts are answered, and are 0 from then on
abbrev pub taken_out : List Counts → ℕ → List Counts × Result Counts Fault
taken_out cs p = cond (nat_lt 15 p) (cs, Err (call_fault Range 0)) (slice_set cs p none, Ok (place_of cs p))

-- read: both counts are answered, and nothing is altered
abbrev pub counts_at : List Counts → ℕ → Result Counts Fault
counts_at cs p = cond (nat_lt 15 p) (Err (call_fault Range 0)) (Ok (place_of cs p))
