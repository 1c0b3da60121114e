-- The first check of a store that is lent, and what is made of a store that passed it.
use Rattle.std.specs.Prelude.{◌≡◌, ℕ, cond, Ok, Err, Result, MatchResult, ◌==◌, ◌≢◌}
use Rattle.fault.specs.declared.Code.TheVariants.{Range}
use Rattle.fault.specs.declared.Fault.{Fault}
use Rattle.fault.specs.Numbers.{call_fault}

-- a store of so many words, where n are wanted
abbrev pub checked : ℕ → ℕ → Result (Unit {0}) Fault
checked n words = cond (words == n) (Ok tt) (Err (call_fault Range 0))

-- what was made over such a store, with a fact of it; or the refusal, exactly where the check refuses
abbrev pub Accepted : {B : Type 0} → ℕ → ℕ → (B → Type 0) → Result B Fault → Type 0
Accepted n words Fact r = MatchResult r (λ b. (words ≡ n) × Fact b) (λ e. (e ≡ call_fault Range 0) × (words ≢ n))
