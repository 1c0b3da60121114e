-- Thirty-two counts in a row: place p has its uplink at slot 2 * p, and its downlink at the next.
use Rattle.std.specs.Prelude.{ℕ, ◌+◌, ◌*◌, cond, List, map, Ok, Err, Result, nat_lt}
use Rattle.std.specs.List.{range_with_len}
use Rattle.fault.specs.declared.Code.TheVariants.{Range}
use Rattle.fault.specs.declared.Fault.{Fault}
use Rattle.fault.specs.Numbers.{call_fault}
use Rattle.bank.specs.declared.counts.Counts.{Counts}

-- the slot of a place and a direction
abbrev pub slot_of : ℕ → ℕ → Result ℕ Fault
slot_of p d = cond (nat_lt 15 p) (Err (call_fault Range 0)) (cond (nat_lt 1 d) (Err (call_fault Range 0)) (Ok (2 * p + d)))

-- the counts of a place, where each slot's count is given
abbrev pub pair_at : (ℕ → ℕ) → ℕ → Counts
pair_at count p = record { uplink = count (2 * p); downlink = count (2 * p + 1) }

-- the sixteen places, where each slot's count is given
unfoldable pub places : (ℕ → ℕ) → List Counts
places count = map (pair_at count) (range_with_len 0 16)
