-- Thirty-two counters that only count up, modulo 4,294,967,296, and then thirty-two marks. The counter of slot k is word k,
-- its mark is word 32 + k.
use Rattle.std.specs.Prelude.{ℕ, ◌+◌, ◌-◌, ◌%◌, List, take, slice_index, slice_set}
use Rattle.bank.specs.declared.counts.Counts.{Counts}
use Rattle.bank.specs.Slots.{places}

-- how far a counter has gone past its mark
abbrev pub gone : ℕ → ℕ → ℕ
gone counter mark = (counter + 4294967296 - mark) % 4294967296

-- the count at a slot
abbrev pub count_at : List ℕ → ℕ → ℕ
count_at words k = gone (slice_index words k) (slice_index words (32 + k))

-- the counts at a slot and at the next
abbrev pub counts_of : List ℕ → ℕ → Counts
counts_of words k = record { uplink = count_at words k; downlink = count_at words (k + 1) }

-- what the bank means
abbrev pub meant : List ℕ → List Counts
meant words = places (count_at words)

-- what the user plane owns
abbrev pub counters : List ℕ → List ℕ
counters words = take 32 words

-- the words after one counter has gone on by so many octets
abbrev pub advanced : List ℕ → ℕ → ℕ → List ℕ
advanced words k n = slice_set words k ((slice_index words k + n) % 4294967296)

-- the words after the marks of a slot and of the next were moved to their counters
abbrev pub marked : List ℕ → ℕ → List ℕ
marked words k = slice_set (slice_set words (32 + k) (slice_index words k)) (33 + k) (slice_index words (k + 1))
