-- What the rolling bank owes in each of its states. These are proofs; they stand here since a ghost member cites no others.
use Rattle.std.specs.Prelude.{◌≡◌, ℕ, ◌+◌, ◌-◌, List, length, slice_index}
use Rattle.std.proofs.Common.{lit<}
use Rattle.std.proofs.Math.Nat.{mod-lt, le-pred_of_lt}
use Rattle.bank.specs.Meaning.{Within}
use Rattle.bank.proofs.Places.{length-places, within_places}
use Rattle.rolling_bank.specs.Rolling.{count_at, meant}

pub sixteen_counts : (words : List ℕ) → length (meant words) ≡ 16
sixteen_counts words = length-places (count_at words)

pub within_ceiling : (words : List ℕ) → Within 4294967295 (meant words)
within_ceiling words =
    within_places 4294967295 (count_at words)
    (λ k. le-pred_of_lt (mod-lt (slice_index words k + 4294967296 - slice_index words (32 + k)) {m = 4294967296} (lit< tt)))
