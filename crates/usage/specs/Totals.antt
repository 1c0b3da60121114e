-- The five totals under a key.
use Rattle.std.specs.Prelude.{ℕ, ◌+◌, Bool, cond, List, [], ◌∷◌, is_some, Some, None, Option, nat_lt}
use Rattle.key.specs.declared.key.Key.{Key}
use Rattle.key.specs.Keys.{same_key}
use Rattle.information.specs.declared.values.ReportGroup.{ReportGroup}
use Rattle.message.specs.Numbered.{Message}
use Rattle.usage.specs.Slots.{Slot, has_key, holds, octets_at}
use Rattle.usage.specs.declared.values.Account.{Account}
use Rattle.usage.specs.Answers.{Amount}
use Rattle.usage.specs.Ledger.{account_of}
use Rattle.usage.specs.Takes.{held}
use Rattle.usage.specs.Runs.{World}

-- the octets that went under a key
abbrev pub under : Key → List Amount → ℕ
under k [] = 0
under k (x ∷ xs) = cond (same_key x.key k) x.octets 0 + under k xs

-- what accepted traffic added for the key
abbrev pub counted : Key → World → ℕ
counted k w = under k w.counted

-- what was pending whenever an answer freed its place for want of a threshold
abbrev pub discarded : Key → World → ℕ
discarded k w = under k w.discarded

abbrev pub pending_in : Key → List Slot → ℕ
pending_in k [] = 0
pending_in k (s ∷ ss) = cond (holds (has_key k) s) (octets_at s) (pending_in k ss)

-- what the bank counted at its place, uplink plus downlink; 0 with no place
abbrev pub pending : Key → World → ℕ
pending k w = pending_in k w.meter.slots

abbrev pub latest_of : List (Message ReportGroup) → List ReportGroup
latest_of [] = []
latest_of (r ∷ []) = r.groups
latest_of (r ∷ (s ∷ rs)) = latest_of (s ∷ rs)

-- what the latest report holds of it; 0 with no report, or once it was taken
abbrev pub untaken : Key → World → ℕ
untaken k w = cond (nat_lt w.ledger.last w.meter.latest) (held k (latest_of w.made)) 0

-- what several reports hold of it, each once
abbrev pub reported : Key → List (Message ReportGroup) → ℕ
reported k [] = 0
reported k (r ∷ rs) = held k r.groups + reported k rs

-- whether the ledger's table has the key
abbrev pub known : Key → World → Bool
known k w = is_some (account_of k w.ledger.accounts)

abbrev pub deducted_in : Option Account → ℕ
deducted_in None = 0
deducted_in (Some a) = a.deducted

-- its allowance less what remaining answers
abbrev pub deducted : Key → World → ℕ
deducted k w = deducted_in (account_of k w.ledger.accounts)
