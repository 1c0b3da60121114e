-- The balance: what holds after every run.
use Rattle.std.specs.Prelude.{◌≡◌, ℕ, ◌+◌, ◌≤◌, Bool, true, false, ◌&&◌, ◌||◌, ◌⊎◌, List, [], length, take, pos, ◌-ℤ◌, Some, None, Ok, Err, Option, Result}
use Rattle.std.specs.List.{slice_get, AllByRecursion, list_any}
use Rattle.fault.specs.declared.Code.TheVariants as code
use Rattle.fault.specs.declared.Fault.{Fault}
use Rattle.fault.specs.Numbers.{call_fault}
use Rattle.key.specs.declared.key.Key.{Key}
use Rattle.key.specs.Keys.{key_of}
use Rattle.information.specs.declared.values.ReportGroup.{ReportGroup}
use Rattle.message.specs.Numbered.{Message, read_answer, read_report}
use Rattle.wire.specs.Octets.{report_data, report_octets}
use Rattle.trip.specs.Back.{located, report_at}
use Rattle.usage.specs.declared.values.Account.{Account}
use Rattle.usage.specs.declared.values.Place.{Place}
use Rattle.usage.specs.declared.values.Rule.{Rule}
use Rattle.usage.specs.Forms.{met}
use Rattle.usage.specs.Slots.{Slot, counts, due, holds, in_report}
use Rattle.usage.specs.Rules.{rule_of}
use Rattle.usage.specs.Traffic.{takes, traffic}
use Rattle.usage.specs.Ledger.{Row, account_of, remaining, rows_added}
use Rattle.usage.specs.Runs.{Call, World, run, start}
use Rattle.usage.specs.Totals.{counted, deducted, discarded, known, pending, reported, untaken}

abbrev pub Noticed : Slot → Type 0
Noticed s = (p : Place) → s.place ≡ Some p → counts p ≡ true → met p.thresholds s.counts ≡ true → (due p || in_report p) ≡ true

-- a place that the rule's packets count at, and that is at or above its threshold
abbrev pub reached_by : Option Rule → ℕ → Slot → Bool
reached_by None d s = false
reached_by (Some r) d s = holds (λ p. takes r.key d p && met p.thresholds s.counts) s

-- what lies on the link as a report is one of those that were made
pub record Reported (made : List (Message ReportGroup)) (bs : List ℕ) : Type 0 where
  pub place : ℕ
  pub report : Message ReportGroup
  pub stands : slice_get made place ≡ Some report
  pub octets : bs ≡ report_octets report
  pub reads : read_report bs ≡ Ok (located report_at report_data report)

-- messages of one number are the same octets
abbrev pub OneByNumber : {V : Type 0} → (List ℕ → Result (Message V) Fault) → List (List ℕ) → Type 0
OneByNumber {V} reads messages =
    (i j : ℕ) (bs cs : List ℕ) (q r : Message V) → slice_get messages i ≡ Some bs → slice_get messages j ≡ Some cs →
    reads bs ≡ Ok q → reads cs ≡ Ok r → q.number ≡ r.number → bs ≡ cs

pub record Balance (ceiling : ℕ) (w : World) : Type 0 where
  -- under each key of the ledger, every octet that was counted is deducted, untaken, pending or discarded, and is so once
  pub total : (k : Key) → known k w ≡ true → counted k w ≡ deducted k w + untaken k w + pending k w + discarded k w
  -- deducted is what the reports 1 to the last hold of the key, each report once
  pub each_once : (k : Key) → known k w ≡ true → deducted k w ≡ reported k (take w.ledger.last w.made)
  -- remaining answers the allowance less what was deducted
  pub remains : (ks : List ℕ) (k : Key) (a : Account) → key_of ks ≡ Some k → account_of k w.ledger.accounts ≡ Some a → remaining w.ledger ks ≡ Ok (pos a.allowance -ℤ pos (deducted k w))
  -- the reports that were made have the numbers 1, 2 and so on, up to the latest
  pub numbers : (n : ℕ) (r : Message ReportGroup) → slice_get w.made n ≡ Some r → r.number ≡ n + 1
  pub latest : w.meter.latest ≡ length w.made
  -- the ledger's last number is the meter's latest or one less
  pub close : (w.meter.latest ≡ w.ledger.last) ⊎ (w.meter.latest ≡ w.ledger.last + 1)
  -- a key that counts and is at or above its threshold is due, or stands in the unanswered report
  pub noticed : AllByRecursion Noticed w.meter.slots
  -- the ceiling stops a packet only if a key that it counts for is at or above its threshold
  pub room : (n d x : ℕ) → (traffic ceiling w.meter n d x).1 ≡ Err (call_fault code.Ceiling 0) → list_any (reached_by (rule_of n w.meter.rules) d) w.meter.slots ≡ true
  -- each report that was written reads back as one that was made; written again, it has the same octets
  pub written : AllByRecursion (Reported w.made) w.reports
  pub again : OneByNumber read_report w.reports
  -- all replies to one report say the same
  pub agreed : OneByNumber read_answer w.replies

-- over any bank, and with any rows that a ledger accepts
abbrev pub Balanced : Type 0
Balanced =
    (ceiling : ℕ) → 65535 ≤ ceiling → ceiling ≤ 1099511627775 → (rows : List Row) (xs : List Account) → rows_added [] rows ≡ Ok xs →
    (calls : List Call) → Balance ceiling (run ceiling (start xs) calls)
