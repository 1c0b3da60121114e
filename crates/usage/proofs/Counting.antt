-- Traffic: what it adds, under each key. Assumes nothing.
use Rattle.std.proofs.Common.{◌≡◌, ℕ, ◌+◌, Bool, true, false, cond, not, eqb, List, [], ◌∷◌, ◌++◌, map, Some, None, Option, sym, refl, ap, ◌∙◌, ap₂, inl, arith, flat_map}
use Rattle.std.proofs.ByRecursion.{All-weaker}
use Rattle.std.proofs.lemmas.Bool.{and_parts, eqb-true, false≢true}
use Rattle.key.specs.declared.key.Key.{Key}
use Rattle.key.specs.Keys.{same_key}
use Rattle.units.specs.declared.values.Units.{Units}
use Rattle.units.specs.declared.values.Units.TheVariants.{Total, Uplink, Downlink, Both}
use Rattle.bank.specs.declared.counts.Counts.{Counts}
use Rattle.bank.specs.Meaning.{raised}
use Rattle.usage.specs.declared.values.Place.{Place}
use Rattle.usage.specs.Forms.{covers, met}
use Rattle.usage.specs.Slots.{Slot, changed_in, closing, counts, has_key, holds, in_report, judged, octets_at, passes, reached_if, with_reason}
use Rattle.usage.specs.Traffic.{raised_at, takes}
use Rattle.usage.specs.Reports.{sent_at, sent_groups}
use Rattle.usage.specs.Runs.{amount_at}
use Rattle.usage.specs.Totals.{under}
use Rattle.usage.proofs.Inv.{Covered, PlaceOk, SlotAt, SlotOk, SlotsOk, pending_sum}
use Rattle.usage.proofs.Each.{Kept, each_map, key_at, key_in, slots_ok}
use Rattle.usage.proofs.Judging.{judged_ok}
use Rattle.usage.proofs.Orders.{Alike, alike_sent}
use Rattle.usage.proofs.Sums.{under_append}

pub judged_alike : (c : Counts) (p : Place) → Alike p (judged c p)
judged_alike c p = go (in_report p)
  where
    go : (b : Bool) → Alike p (cond b p (with_reason p (reached_if (met p.thresholds c) p.reason)))
    go true = record { key = refl; level = refl; sent = refl }
    go false = record { key = refl; level = refl; sent = refl }

more_octets : (d x : ℕ) (c : Counts) → (raised c d x).uplink + (raised c d x).downlink ≡ c.uplink + c.downlink + x
more_octets d x c = go (eqb d 0)
  where
    go : (b : Bool) → (cond {A = Counts} b (record { uplink = c.uplink + x; downlink = c.downlink }) (record { uplink = c.uplink; downlink = c.downlink + x })).uplink + (cond {A = Counts} b (record { uplink = c.uplink + x; downlink = c.downlink }) (record { uplink = c.uplink; downlink = c.downlink + x })).downlink ≡ c.uplink + c.downlink + x
    go true = omega arith
    go false = omega arith

uplink_more : (d x : ℕ) (c : Counts) → eqb d 0 ≡ true → (raised c d x).downlink ≡ c.downlink
uplink_more d x c e = ap (λ b. (cond {A = Counts} b (record { uplink = c.uplink + x; downlink = c.downlink }) (record { uplink = c.uplink; downlink = c.downlink + x })).downlink) e

downlink_more : (d x : ℕ) (c : Counts) → d ≡ 1 → (raised c d x).uplink ≡ c.uplink
downlink_more d x c e = ap (λ n. (raised c n x).uplink) e

covers_covered : (u : Units) (d x : ℕ) (c : Counts) → covers u d ≡ true → Covered u c → Covered u (raised c d x)
covers_covered (Total t) d x c e h = tt
covers_covered (Uplink u) d x c e h = uplink_more d x c e ∙ h
covers_covered (Downlink v) d x c e h = downlink_more d x c (eqb-true d 1 e) ∙ h
covers_covered (Both u v) d x c e h = tt

not_closing : (b : Bool) → not b ≡ true → b ≡ true → ⊥
not_closing true a e = false≢true a
not_closing false a e = false≢true e

module _ (k : Option Key) (d x : ℕ) (c : Counts) where
  -- the slot afterwards
  abbrev after : Option Place → Bool → Slot
  after o b = cond b (record { place = changed_in (judged (raised c d x)) o; counts = raised c d x }) (record { place = o; counts = c })

  module _ (ceiling : ℕ) where
    after_ok : (p : Place) (b : Bool) → takes k d p ≡ b → PlaceOk ceiling p c → SlotOk ceiling (after (Some p) b)
    after_ok p true e ok =
        let parts = and_parts (counts p) _ e in
        let covered = covers_covered p.thresholds d x c (and_parts (covers p.thresholds d) _ parts.1).0 ok.covered in
        judged_ok ceiling p (raised c d x) covered ok.low (λ y is n. absurd (not_closing (closing p.reason) parts.0 (ok.noted y is n).shut))
    after_ok p false e ok = ok

  after_key : (p : Place) (b : Bool) → key_at (after (Some p) b) ≡ Some p.key
  after_key p true = ap Some (judged_alike (raised c d x) p).key
  after_key p false = refl

  after_sent : (p : Place) (b : Bool) → sent_at (after (Some p) b).place ≡ sent_at (Some p)
  after_sent p true = alike_sent p (judged (raised c d x) p) (judged_alike (raised c d x) p)
  after_sent p false = refl

  -- a slot has what it had, and what was added
  after_octets : (j : Key) (p : Place) (b : Bool) → cond (holds (has_key j) (after (Some p) b)) (octets_at (after (Some p) b)) 0 ≡ cond (has_key j p) (c.uplink + c.downlink) 0 + under j (cond b (record { key = p.key; octets = x } ∷ []) [])
  after_octets j p true = go (has_key j p) (has_key j (judged (raised c d x) p)) (ap (λ i. same_key i j) (judged_alike (raised c d x) p).key)
    where
      go : (a b : Bool) → b ≡ a → cond b ((raised c d x).uplink + (raised c d x).downlink) 0 ≡ cond a (c.uplink + c.downlink) 0 + (cond a x 0 + 0)
      go true true e = omega (arith, more_octets d x c)
      go true false e = absurd (false≢true e)
      go false true e = absurd (false≢true (sym e))
      go false false e = omega arith
  after_octets j p false = omega arith

module _ (ceiling : ℕ) (k : Option Key) (d x : ℕ) where
  raised_kept : (s : Slot) → SlotOk ceiling s → Kept ceiling s (raised_at k d x s)
  raised_kept s ok = go s.place refl ok
    where
      at_place : (p : Place) → s.place ≡ Some p → PlaceOk ceiling p s.counts → (b : Bool) → takes k d p ≡ b → Kept ceiling s (after k d x s.counts (Some p) b)
      at_place p is h b e = record { ok = after_ok k d x s.counts ceiling p b e h; key = inl (after_key k d x s.counts p b ∙ sym (ap key_in is)) }

      go : (o : Option Place) → s.place ≡ o → SlotAt ceiling o s.counts → Kept ceiling s (after k d x s.counts o (passes (takes k d) o))
      go None is h = record { ok = h; key = inl (sym (ap key_in is)) }
      go (Some p) is h = at_place p is h (takes k d p) refl

  pub raised_ok : (ss : List Slot) → SlotsOk ceiling ss → SlotsOk ceiling (map (raised_at k d x) ss)
  raised_ok ss ok = slots_ok ceiling ss _ ok (each_map (Kept ceiling) (raised_at k d x) ss (All-weaker (SlotOk ceiling) _ raised_kept ss ok.each))

module _ (k : Option Key) (d x : ℕ) where
  pub raised_sent : (ss : List Slot) → sent_groups (map (raised_at k d x) ss) ≡ sent_groups ss
  raised_sent [] = refl
  raised_sent (s ∷ ss) = ap₂ ◌++◌ (go s.place) (raised_sent ss)
    where
      go : (o : Option Place) → sent_at (after k d x s.counts o (passes (takes k d) o)).place ≡ sent_at o
      go None = refl
      go (Some p) = after_sent k d x s.counts p (takes k d p)

  pub raised_pending : (j : Key) (ss : List Slot) → pending_sum j (map (raised_at k d x) ss) ≡ pending_sum j ss + under j (flat_map (λ s. amount_at k d x s.place) ss)
  raised_pending j [] = omega arith
  raised_pending j (s ∷ ss) =
      omega (arith, go s.place, raised_pending j ss, under_append j (amount_at k d x s.place) (flat_map (λ s. amount_at k d x s.place) ss))
    where
      go : (o : Option Place) → cond (holds (has_key j) (after k d x s.counts o (passes (takes k d) o))) (octets_at (after k d x s.counts o (passes (takes k d) o))) 0 ≡ cond (passes (has_key j) o) (s.counts.uplink + s.counts.downlink) 0 + under j (amount_at k d x o)
      go None = omega arith
      go (Some p) = after_octets k d x s.counts j p (takes k d p)
