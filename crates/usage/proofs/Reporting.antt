-- Reports: what they take out, under each key. Assumes nothing.
use Rattle.std.proofs.Common.{◌≡◌, ℕ, ◌+◌, ◌≤◌, Bool, true, false, cond, List, [], ◌∷◌, ◌++◌, map, length, Some, None, Option, sym, refl, ap, ◌∙◌, inl, arith, length-append}
use Rattle.std.specs.List.{AllByRecursion}
use Rattle.std.proofs.ByRecursion.{All-weaker}
use Rattle.std.proofs.lemmas.Bool.{or_right}
use Rattle.key.specs.declared.key.Key.{Key}
use Rattle.units.specs.declared.values.Units.{Units}
use Rattle.units.specs.declared.values.Units.TheVariants.{Total, Uplink, Downlink, Both}
use Rattle.bank.specs.declared.counts.Counts.{Counts}
use Rattle.bank.specs.Meaning.{none as nothing}
use Rattle.usage.specs.declared.values.Place.{Place}
use Rattle.usage.specs.declared.values.Reason.{Reason}
use Rattle.usage.specs.declared.values.Sent.{Sent}
use Rattle.usage.specs.Forms.{octets_in, used_in}
use Rattle.usage.specs.Slots.{Slot, changed_in, closing, due, has_key, holds, octets_at, passes}
use Rattle.usage.specs.Reports.{group_sent, reported_at, sent, sent_at, sent_groups, still_closing}
use Rattle.usage.specs.Takes.{held}
use Rattle.usage.proofs.Inv.{Covered, PlaceOk, SlotAt, SlotOk, SlotsOk, pending_sum}
use Rattle.usage.proofs.Each.{Kept, each_map, key_in, slots_ok}
use Rattle.usage.proofs.Judging.{none_covered}
use Rattle.usage.proofs.Sums.{held_append}

used_octets : (u : Units) (c : Counts) → Covered u c → octets_in (used_in u c) ≡ c.uplink + c.downlink
used_octets (Total t) c h = refl
used_octets (Uplink u) c h = omega arith
used_octets (Downlink v) c h = omega arith
used_octets (Both u v) c h = refl

still_closing_lem : (r : Option Reason) → closing r ≡ true → closing (still_closing r) ≡ true
still_closing_lem r e = ap (λ b. closing (cond b r None)) e ∙ e

abbrev closing_in : Option Sent → Bool
closing_in None = false
closing_in (Some x) = x.closing

module _ (c : Counts) where
  -- the slot afterwards
  abbrev after : Option Place → Bool → Slot
  after o b = cond b (record { place = changed_in (sent c) o; counts = nothing }) (record { place = o; counts = c })

  after_ok : (ceiling : ℕ) (p : Place) (b : Bool) → PlaceOk ceiling p c → SlotOk ceiling (after (Some p) b)
  after_ok ceiling p true ok =
      record {
        covered = none_covered p.thresholds nothing refl;
        low = ok.low;
        noticed = λ a m. or_right (due (sent c p)) true refl;
        noted = λ x e n. record { shut = still_closing_lem p.reason (ap closing_in e ∙ n); none = refl };
      }
  after_ok ceiling p false ok = ok

  after_key : (p : Place) (b : Bool) → key_in (after (Some p) b).place ≡ Some p.key
  after_key p true = refl
  after_key p false = refl

  -- what a slot had is reported, or still there
  after_octets : (j : Key) (p : Place) (b : Bool) → Covered p.thresholds c → group_sent p p.sent ≡ [] → cond (has_key j p) (c.uplink + c.downlink) 0 ≡ cond (holds (has_key j) (after (Some p) b)) (octets_at (after (Some p) b)) 0 + held j (sent_at (after (Some p) b).place)
  after_octets j p true covered none = go (has_key j p)
    where
      go : (b : Bool) → cond b (c.uplink + c.downlink) 0 ≡ cond b 0 0 + (cond b (octets_in (used_in p.thresholds c)) 0 + 0)
      go true = omega (arith, used_octets p.thresholds c covered)
      go false = omega arith
  after_octets j p false covered none = omega (arith, ap (held j) none)

module _ (ceiling : ℕ) where
  reported_kept : (s : Slot) → SlotOk ceiling s → Kept ceiling s (reported_at s)
  reported_kept s ok = go s.place refl ok
    where
      go : (o : Option Place) → s.place ≡ o → SlotAt ceiling o s.counts → Kept ceiling s (after s.counts o (passes due o))
      go None is h = record { ok = h; key = inl (sym (ap key_in is)) }
      go (Some p) is h = record { ok = after_ok s.counts ceiling p (due p) h; key = inl (after_key s.counts p (due p) ∙ sym (ap key_in is)) }

  pub reported_ok : (ss : List Slot) → SlotsOk ceiling ss → SlotsOk ceiling (map reported_at ss)
  reported_ok ss ok = slots_ok ceiling ss _ ok (each_map (Kept ceiling) reported_at ss (All-weaker (SlotOk ceiling) _ reported_kept ss ok.each))

  pub reported_pending : (j : Key) (ss : List Slot) → AllByRecursion (SlotOk ceiling) ss → sent_groups ss ≡ [] → pending_sum j ss ≡ pending_sum j (map reported_at ss) + held j (sent_groups (map reported_at ss))
  reported_pending j [] h none = omega arith
  reported_pending j (s ∷ ss) h none =
      let parts = append_none (sent_at s.place) (sent_groups ss) none in
      omega (arith, go s.place h.0 parts.0, reported_pending j ss h.1 parts.1, held_append j (sent_at (reported_at s).place) (sent_groups (map reported_at ss)))
    where
      append_none : {X : Type 0} (xs ys : List X) → xs ++ ys ≡ [] → (xs ≡ []) × (ys ≡ [])
      append_none [] ys e = (refl, e)
      append_none (x ∷ xs) ys e = absurd (omega (arith, ap length e))

      go : (o : Option Place) → SlotAt ceiling o s.counts → sent_at o ≡ [] → cond (passes (has_key j) o) (s.counts.uplink + s.counts.downlink) 0 ≡ cond (holds (has_key j) (after s.counts o (passes due o))) (octets_at (after s.counts o (passes due o))) 0 + held j (sent_at (after s.counts o (passes due o)).place)
      go None ok none = omega arith
      go (Some p) ok none = after_octets s.counts j p (due p) ok.covered none

-- at most one group to a slot
pub few_sent : (ss : List Slot) → length (sent_groups ss) ≤ length ss
few_sent [] = omega arith
few_sent (s ∷ ss) = omega (arith, go s.place, few_sent ss, length-append (sent_at s.place) (sent_groups ss))
  where
    one : (p : Place) (o : Option Sent) → length (group_sent p o) ≤ 1
    one p None = omega arith
    one p (Some x) = omega arith

    go : (o : Option Place) → length (sent_at o) ≤ 1
    go None = omega arith
    go (Some p) = one p p.sent
