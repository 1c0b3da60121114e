-- Words in which each mark stands at its counter.
use Rattle.std.proofs.Common.{◌≡◌, ℕ, ◌+◌, List, ◌++◌, length, arith}
use Rattle.std.proofs.lemmas.List.{get_or_append_left, get_or-append_right}
use Rattle.bank.specs.Meaning.{empty}
use Rattle.bank.proofs.Places.{places_empty}
use Rattle.rolling_bank.specs.Rolling.{count_at, meant}

-- every count is 0
pub twice_empty : (cs ms : List ℕ) → length cs ≡ 32 → ms ≡ cs → meant (cs ++ ms) ≡ empty
twice_empty cs ms size same =
    places_empty (count_at (cs ++ ms))
    (λ k h. let counter = get_or_append_left cs ms 0 k (omega arith) in let mark = get_or-append_right cs ms 32 (32 + k) 0 size (omega arith) in grind arith)
