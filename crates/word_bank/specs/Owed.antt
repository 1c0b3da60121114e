-- What the word bank owes in each of its states. These are proofs; they stand here since a ghost member cites no others.
use Rattle.std.specs.Prelude.{◌≡◌, ℕ, List, length, slice_index}
use Rattle.std.proofs.Math.Nat.{min-le_right}
use Rattle.bank.specs.Meaning.{Within}
use Rattle.bank.proofs.Places.{length-places, within_places}
use Rattle.word_bank.specs.Words.{count_at, meant}

pub sixteen_counts : (words : List ℕ) → length (meant words) ≡ 16
sixteen_counts words = length-places (count_at words)

pub within_ceiling : (words : List ℕ) → Within 1099511627775 (meant words)
within_ceiling words = within_places 1099511627775 (count_at words) (λ k. min-le_right (slice_index words k) 1099511627775)
