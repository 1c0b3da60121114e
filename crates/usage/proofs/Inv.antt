-- What each call keeps true of both ends and the link. Assumes nothing.
use Rattle.std.proofs.Common.{◌≡◌, ℕ, suc, ◌+◌, ◌≤◌, true, cond, ◌||◌, List, [], ◌∷◌, length, take, Some, None, Ok, Option}
use Rattle.std.specs.List.{slice_get, AllByRecursion}
use Rattle.key.specs.declared.key.Key.{Key}
use Rattle.units.specs.declared.values.RequestType.{RequestType}
use Rattle.units.specs.declared.values.Units.{Units}
use Rattle.units.specs.declared.values.Units.TheVariants.{Total, Uplink, Downlink, Both}
use Rattle.information.specs.declared.values.AnswerGroup.{AnswerGroup}
use Rattle.information.specs.declared.values.ReportGroup.{ReportGroup}
use Rattle.message.specs.Numbered.{Message, read_answer}
use Rattle.wire.specs.Octets.{answer_octets}
use Rattle.bank.specs.declared.counts.Counts.{Counts}
use Rattle.usage.specs.declared.values.Account.{Account}
use Rattle.usage.specs.declared.values.Place.{Place}
use Rattle.usage.specs.declared.values.Sent.{Sent}
use Rattle.usage.specs.Forms.{met}
use Rattle.usage.specs.Tables.{tally}
use Rattle.usage.specs.Slots.{Slot, closing, counts, due, has_key, holds, in_report, octets_at}
use Rattle.usage.specs.Ledger.{Ledger}
use Rattle.usage.specs.Reports.{sent_groups}
use Rattle.usage.specs.Takes.{fixed_answer}
use Rattle.usage.specs.Balance.{Reported}
use Rattle.usage.specs.Runs.{World}
use Rattle.usage.specs.Totals.{reported, under}

-- A SLOT

-- what the form does not cover is 0
abbrev pub Covered : Units → Counts → Type 0
Covered (Total t) c = Unit {0}
Covered (Uplink u) c = c.downlink ≡ 0
Covered (Downlink v) c = c.uplink ≡ 0
Covered (Both u v) c = Unit {0}

-- below the ceiling there is room for a packet
abbrev pub Low : ℕ → Units → Type 0
Low ceiling (Total t) = t + 65534 ≤ ceiling
Low ceiling (Uplink u) = u + 65534 ≤ ceiling
Low ceiling (Downlink v) = v + 65534 ≤ ceiling
Low ceiling (Both u v) = (u + 65534 ≤ ceiling) × (v + 65534 ≤ ceiling)

-- what was noted as closing counts no more
pub record Noted (p : Place) (c : Counts) : Type 0 where
  pub shut : closing p.reason ≡ true
  pub none : c.uplink + c.downlink ≡ 0

pub record PlaceOk (ceiling : ℕ) (p : Place) (c : Counts) : Type 0 where
  pub covered : Covered p.thresholds c
  pub low : Low ceiling p.thresholds
  pub noticed : counts p ≡ true → met p.thresholds c ≡ true → (due p || in_report p) ≡ true
  pub noted : (x : Sent) → p.sent ≡ Some x → x.closing ≡ true → Noted p c

abbrev pub SlotAt : ℕ → Option Place → Counts → Type 0
SlotAt ceiling None c = c.uplink + c.downlink ≡ 0
SlotAt ceiling (Some p) c = PlaceOk ceiling p c

abbrev pub SlotOk : ℕ → Slot → Type 0
SlotOk ceiling s = SlotAt ceiling s.place s.counts

pub record SlotsOk (ceiling : ℕ) (ss : List Slot) : Type 0 where
  pub wide : length ss ≡ 16
  pub each : AllByRecursion (SlotOk ceiling) ss
  -- no two places have one key
  pub apart : (k : Key) → tally (holds (has_key k)) ss ≤ 1

-- what all slots counted under a key
abbrev pub pending_sum : Key → List Slot → ℕ
pending_sum k [] = 0
pending_sum k (s ∷ ss) = cond (holds (has_key k) s) (octets_at s) 0 + pending_sum k ss

-- THE LINK

-- each number has one answer, ever
pub record Replied (answers : ℕ → List ℕ) (last : ℕ) (bs : List ℕ) : Type 0 where
  pub answer : Message AnswerGroup
  pub reads : read_answer bs ≡ Ok answer
  pub known : answer.number ≤ last
  pub octets : bs ≡ answers answer.number

pub record Numbered (n : ℕ) (r : Message ReportGroup) : Type 0 where
  pub number : r.number ≡ n + 1
  pub few : length r.groups ≤ 16

pub record LinkOk (made : List (Message ReportGroup)) (l : Ledger) (reports replies : List (List ℕ)) : Type 0 where
  pub numbers : (n : ℕ) (r : Message ReportGroup) → slice_get made n ≡ Some r → Numbered n r
  pub reported : AllByRecursion (Reported made) reports
  pub answers : ℕ → List ℕ
  pub current : answer_octets (fixed_answer l) ≡ answers l.last
  pub replied : AllByRecursion (Replied answers l.last) replies

-- THE UNANSWERED REPORT

pub record Unanswered (made : List (Message ReportGroup)) (last latest : ℕ) (t : RequestType) (sent : List ReportGroup) : Type 0 where
  pub before : ℕ
  pub next : latest ≡ suc before
  pub stands : slice_get made before ≡ Some (record { number = latest; type = t; groups = sent })
  pub least : before ≤ last
  pub most : last ≤ latest

pub record Answered (last latest : ℕ) (sent : List ReportGroup) : Type 0 where
  pub level : last ≡ latest
  pub none : sent ≡ []

abbrev pub Waits : List (Message ReportGroup) → ℕ → ℕ → Option RequestType → List ReportGroup → Type 0
Waits made last latest None sent = Answered last latest sent
Waits made last latest (Some t) sent = Unanswered made last latest t sent

-- BOTH ENDS

abbrev pub Deducted : List (Message ReportGroup) → ℕ → Account → Type 0
Deducted made last a = a.deducted ≡ reported a.key (take last made)

pub record LedgerOk (made : List (Message ReportGroup)) (last : ℕ) (xs : List Account) (fixed : List AnswerGroup) : Type 0 where
  pub each : AllByRecursion (Deducted made last) xs
  pub few : length fixed ≤ 16

pub record Inv (ceiling : ℕ) (w : World) : Type 0 where
  pub slots : SlotsOk ceiling w.meter.slots
  pub latest : w.meter.latest ≡ length w.made
  pub waits : Waits w.made w.ledger.last w.meter.latest w.meter.unanswered (sent_groups w.meter.slots)
  pub ledger : LedgerOk w.made w.ledger.last w.ledger.accounts w.ledger.fixed
  pub link : LinkOk w.made w.ledger w.reports w.replies
  pub balances : (k : Key) → under k w.counted ≡ reported k w.made + pending_sum k w.meter.slots + under k w.discarded
