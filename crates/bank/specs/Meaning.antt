-- What a bank means: a list of counts, one element a place.
use Rattle.std.specs.Prelude.{ℕ, ◌+◌, ◌≤◌, cond, List, replicate, ◌==◌, slice_index_or}
use Rattle.bank.specs.declared.counts.Counts.{Counts}

-- nothing counted
abbrev pub none : Counts
none = record { uplink = 0; downlink = 0 }

-- the counts of a place
abbrev pub place_of : List Counts → ℕ → Counts
place_of cs p = slice_index_or cs p none

-- one of a place's counts: 0 is the uplink
abbrev pub count_of : Counts → ℕ → ℕ
count_of c d = cond (d == 0) c.uplink c.downlink

-- the same counts with one of them raised
abbrev pub raised : Counts → ℕ → ℕ → Counts
raised c d n =
    cond (d == 0) (record { uplink = c.uplink + n; downlink = c.downlink })
    (record { uplink = c.uplink; downlink = c.downlink + n })

-- a new bank
abbrev pub empty : List Counts
empty = replicate 16 none

-- no count passes the ceiling
abbrev pub Within : ℕ → List Counts → Type 0
Within top cs = (p : ℕ) → ((place_of cs p).uplink ≤ top) × ((place_of cs p).downlink ≤ top)
