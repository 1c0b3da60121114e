-- What thirty-two words count. A word holds its count; a word that held more than the ceiling would count the ceiling, so
-- that the words mean a bank whatever they hold.
use Rattle.std.specs.Prelude.{ℕ, ◌+◌, min, List, slice_index}
use Rattle.bank.specs.declared.counts.Counts.{Counts}
use Rattle.bank.specs.Slots.{places}

-- the count at a slot
abbrev pub count_at : List ℕ → ℕ → ℕ
count_at words k = min (slice_index words k) 1099511627775

-- the counts at a slot and at the next
abbrev pub counts_of : List ℕ → ℕ → Counts
counts_of words k = record { uplink = count_at words k; downlink = count_at words (k + 1) }

-- what the bank means
abbrev pub meant : List ℕ → List Counts
meant words = places (count_at words)
