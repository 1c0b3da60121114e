-- The counts of a run: one of them rises with each message.
use Rattle.std.specs.Prelude.{ℕ, ◌+◌, ◌-◌, ◌^◌, min}
use Rattle.cli.specs.declared.tally.Tally.{Tally}
use Rattle.cli.specs.declared.tally.Outcome.{Outcome}
use Rattle.cli.specs.declared.tally.Outcome.TheVariants.{Sound, Refused, Error}

-- one more, up to the most that a count holds
abbrev pub more : ℕ → ℕ
more n = min (n + 1) (2 ^ 64 - 1)

abbrev pub counted : Tally → Outcome → Tally
counted t Sound = record { sound = more t.sound; refused = t.refused; errors = t.errors }
counted t Refused = record { sound = t.sound; refused = more t.refused; errors = t.errors }
counted t Error = record { sound = t.sound; refused = t.refused; errors = more t.errors }
