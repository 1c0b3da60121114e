-- The totals, from what every call keeps. Assumes nothing.
use Rattle.std.proofs.Common.{◌≡◌, ℕ, suc, ◌+◌, ◌<◌, ◌≤◌, Bool, true, false, cond, ◌⊎◌, List, [], ◌∷◌, take, pos, ◌-ℤ◌, is_some, Some, None, Ok, Err, Option, Result, sym, refl, ap, ◌∙◌, subst, inl, inr, arith}
use Rattle.std.specs.List.{slice_get, AllByRecursion}
use Rattle.std.proofs.lemmas.List.{take_all}
use Rattle.std.proofs.lemmas.Bool.{cases_lt, false≢true, le-ltb, lt-ltb}
use Rattle.key.specs.declared.key.Key.{Key}
use Rattle.fault.specs.declared.Fault.{Fault}
use Rattle.key.specs.Keys.{key_of, same_key}
use Rattle.units.specs.declared.values.RequestType.{RequestType}
use Rattle.information.specs.declared.values.ReportGroup.{ReportGroup}
use Rattle.message.specs.Numbered.{Message, read_answer, read_report}
use Rattle.wire.specs.Octets.{report_data, report_octets}
use Rattle.trip.specs.Back.{located, report_at}
use Rattle.trip.specs.Laws.Keys.{same_key_lem}
use Rattle.usage.specs.declared.values.Account.{Account}
use Rattle.usage.specs.Tables.{tally}
use Rattle.usage.specs.Slots.{Slot, has_key, holds, octets_at}
use Rattle.usage.specs.Ledger.{account_of, of, remaining, remaining_in, remaining_of}
use Rattle.usage.specs.Reports.{sent_groups}
use Rattle.usage.specs.Takes.{held}
use Rattle.usage.specs.Runs.{World}
use Rattle.usage.specs.Totals.{counted, deducted, deducted_in, discarded, known, latest_of, pending, pending_in, reported, untaken}
use Rattle.usage.specs.Balance.{OneByNumber, Reported}
use Rattle.usage.proofs.Archive.{all_nth}
use Rattle.usage.proofs.Inv.{Deducted, Inv, Replied, Unanswered, Waits, pending_sum}
use Rattle.usage.proofs.Sums.{latest_is, reported_next}

-- with no two places for one key, the first place has all that is pending
pending_first : (k : Key) (ss : List Slot) → tally (holds (has_key k)) ss ≤ 1 → pending_in k ss ≡ pending_sum k ss
pending_first k [] few = refl
pending_first k (s ∷ ss) few = go (holds (has_key k) s) few (λ h. pending_first k ss h)
  where
    none : (ts : List Slot) → tally (holds (has_key k)) ts ≡ 0 → pending_sum k ts ≡ 0
    none [] e = refl
    none (t ∷ ts) e = at_slot (holds (has_key k) t) e (λ h. none ts h)
      where
        at_slot : (b : Bool) → cond b 1 0 + tally (holds (has_key k)) ts ≡ 0 → (tally (holds (has_key k)) ts ≡ 0 → pending_sum k ts ≡ 0) → cond b (octets_at t) 0 + pending_sum k ts ≡ 0
        at_slot true e ih = absurd (omega arith)
        at_slot false e ih = omega (arith, ih (omega arith))

    go : (b : Bool) → cond b 1 0 + tally (holds (has_key k)) ss ≤ 1 → (tally (holds (has_key k)) ss ≤ 1 → pending_in k ss ≡ pending_sum k ss) → cond b (octets_at s) (pending_in k ss) ≡ cond b (octets_at s) 0 + pending_sum k ss
    go true few ih = omega (arith, none ss (omega arith))
    go false few ih = omega (arith, ih (omega arith))

-- an account that is found is one of them, and has the key
account_found : (P : Account → Type 0) (k : Key) (xs : List Account) (a : Account) → AllByRecursion P xs → account_of k xs ≡ Some a → P a × (same_key a.key k ≡ true)
account_found P k [] a h e = absurd (false≢true (ap is_some e))
account_found P k (x ∷ xs) a h e = go (of k x) refl e (λ f. account_found P k xs a h.1 f)
  where
    is : Option Account → Type 0
    is None = ⊥
    is (Some y) = P y × (same_key y.key k ≡ true)

    go : (b : Bool) → of k x ≡ b → cond b (Some x) (account_of k xs) ≡ Some a → (account_of k xs ≡ Some a → P a × (same_key a.key k ≡ true)) → P a × (same_key a.key k ≡ true)
    go true same f ih = subst is f (h.0, same)
    go false same f ih = ih f

module _ (ceiling : ℕ) (w : World) (inv : Inv ceiling w) where
  pub close : (w.meter.latest ≡ w.ledger.last) ⊎ (w.meter.latest ≡ w.ledger.last + 1)
  close = go w.meter.unanswered inv.waits
    where
      either : (n last latest : ℕ) → latest ≡ suc n → n ≤ last → last ≤ latest → (latest ≡ last) ⊎ (latest ≡ last + 1)
      either n last latest e a b = by (cases_lt n last)
        where
          by : (n < last) ⊎ (last ≤ n) → (latest ≡ last) ⊎ (latest ≡ last + 1)
          by (inl h) = inl (omega arith)
          by (inr h) = inr (omega arith)

      go : (o : Option RequestType) → Waits w.made w.ledger.last w.meter.latest o (sent_groups w.meter.slots) → (w.meter.latest ≡ w.ledger.last) ⊎ (w.meter.latest ≡ w.ledger.last + 1)
      go None h = inl (sym h.level)
      go (Some t) h = either h.before w.ledger.last w.meter.latest h.next h.least h.most

  module _ (k : Key) where
    -- what was reported is taken, or untaken
    taken_or_not : reported k w.made ≡ reported k (take w.ledger.last w.made) + untaken k w
    taken_or_not = go w.meter.unanswered inv.waits
      where
        all_taken : w.ledger.last ≡ w.meter.latest → reported k w.made ≡ reported k (take w.ledger.last w.made) + untaken k w
        all_taken e =
            let whole = take_all w.ledger.last w.made (omega (arith, e, inv.latest)) in
            let none : untaken k w ≡ 0 = ap (λ b. cond b (held k (latest_of w.made)) 0) (le-ltb w.ledger.last w.meter.latest (omega (arith, e))) in
            omega (arith, none, ap (reported k) whole)

        one_left : (t : RequestType) (h : Unanswered w.made w.ledger.last w.meter.latest t (sent_groups w.meter.slots)) → w.ledger.last ≤ h.before → reported k w.made ≡ reported k (take w.ledger.last w.made) + untaken k w
        one_left t h low =
            let same : h.before ≡ w.ledger.last = omega (arith, h.least, low) in
            let more = reported_next k w.made h.before _ h.stands in
            let whole = take_all (suc h.before) w.made (omega (arith, inv.latest, h.next)) in
            let before : reported k (take h.before w.made) ≡ reported k (take w.ledger.last w.made) = ap (λ n. reported k (take n w.made)) same in
            let groups = latest_is w.made h.before _ (sym inv.latest ∙ h.next) h.stands in
            let left : untaken k w ≡ held k (latest_of w.made) = ap (λ b. cond b (held k (latest_of w.made)) 0) (lt-ltb w.ledger.last w.meter.latest (omega (arith, h.next, low))) in
            omega (arith, more, ap (reported k) whole, before, left, ap (held k) groups)

        go : (o : Option RequestType) → Waits w.made w.ledger.last w.meter.latest o (sent_groups w.meter.slots) → reported k w.made ≡ reported k (take w.ledger.last w.made) + untaken k w
        go None h = all_taken h.level
        go (Some t) h = by (cases_lt h.before w.ledger.last)
          where
            by : (h.before < w.ledger.last) ⊎ (w.ledger.last ≤ h.before) → reported k w.made ≡ reported k (take w.ledger.last w.made) + untaken k w
            by (inl more) = all_taken (omega (arith, h.next, h.most))
            by (inr low) = one_left t h low

    deducted_in_lem : (o : Option Account) → account_of k w.ledger.accounts ≡ o → is_some o ≡ true → deducted_in o ≡ reported k (take w.ledger.last w.made)
    deducted_in_lem None e some = absurd (false≢true some)
    deducted_in_lem (Some a) e some =
        let f = account_found (Deducted w.made w.ledger.last) k w.ledger.accounts a inv.ledger.each e in
        f.0 ∙ ap (λ j. reported j (take w.ledger.last w.made)) (same_key_lem a.key k f.1)

    pub each_once : known k w ≡ true → deducted k w ≡ reported k (take w.ledger.last w.made)
    each_once some = deducted_in_lem (account_of k w.ledger.accounts) refl some

    pub total : known k w ≡ true → counted k w ≡ deducted k w + untaken k w + pending k w + discarded k w
    total some = omega (arith, inv.balances k, each_once some, taken_or_not, pending_first k w.meter.slots (inv.slots.apart k))

    pub remains : (ks : List ℕ) (a : Account) → key_of ks ≡ Some k → account_of k w.ledger.accounts ≡ Some a → remaining w.ledger ks ≡ Ok (pos a.allowance -ℤ pos (deducted k w))
    remains ks a key found =
        ap (λ o. remaining_of o w.ledger) key ∙ ap remaining_in found
        ∙ sym (ap (λ o. Ok (pos a.allowance -ℤ pos (deducted_in o))) found)

-- REPORTS AND REPLIES OF ONE NUMBER

abbrev number_in : {V : Type 0} → Result (Message V) Fault → ℕ
number_in (Ok m) = m.number
number_in (Err f) = 0

same_number : {V : Type 0} (bs : List ℕ) (reads : List ℕ → Result (Message V) Fault) (q r : Message V) → reads bs ≡ Ok q → reads bs ≡ Ok r → q.number ≡ r.number
same_number bs reads q r e f = ap number_in (sym e ∙ f)

module _ (ceiling : ℕ) (w : World) (inv : Inv ceiling w) where
  pub again : OneByNumber read_report w.reports
  again i j bs cs q r there here e f same =
      let a = all_nth (Reported w.made) w.reports i bs inv.link.reported there in
      let b = all_nth (Reported w.made) w.reports j cs inv.link.reported here in
      let x = same_number bs read_report q (located report_at report_data a.report) e a.reads in
      let y = same_number cs read_report r (located report_at report_data b.report) f b.reads in
      let places : a.place ≡ b.place = omega (arith, x, y, same, (inv.link.numbers a.place a.report a.stands).number, (inv.link.numbers b.place b.report b.stands).number) in
      let one : Some a.report ≡ Some b.report = sym a.stands ∙ ap (slice_get w.made) places ∙ b.stands in
      a.octets ∙ ap octets_in one ∙ sym b.octets
    where
      octets_in : Option (Message ReportGroup) → List ℕ
      octets_in None = []
      octets_in (Some m) = report_octets m

  pub agreed : OneByNumber read_answer w.replies
  agreed i j bs cs q r there here e f same =
      let a = all_nth (Replied inv.link.answers w.ledger.last) w.replies i bs inv.link.replied there in
      let b = all_nth (Replied inv.link.answers w.ledger.last) w.replies j cs inv.link.replied here in
      let x = same_number bs read_answer q a.answer e a.reads in
      let y = same_number cs read_answer r b.answer f b.reads in
      a.octets ∙ ap inv.link.answers (sym x ∙ same ∙ y) ∙ sym b.octets
