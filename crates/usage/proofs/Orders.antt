-- Calls that count and report nothing: install, remove, command, terminate. Assumes nothing.
use Rattle.std.proofs.Common.{◌≡◌, ℕ, Bool, true, false, cond, not, ◌&&◌, List, [], ◌∷◌, map, is_some, Some, None, Option, sym, refl, ap, ◌∙◌}
use Rattle.std.specs.List.{AllByRecursion, list_any}
use Rattle.std.proofs.ByRecursion.{All-weaker}
use Rattle.std.proofs.lemmas.Bool.{false≢true}
use Rattle.key.specs.declared.key.Key.{Key}
use Rattle.bank.specs.declared.counts.Counts.{Counts}
use Rattle.usage.specs.declared.values.Place.{Place}
use Rattle.usage.specs.declared.values.Reason.{Reason}
use Rattle.usage.specs.declared.values.Reason.TheVariants as reason
use Rattle.usage.specs.declared.values.Rule.{Rule}
use Rattle.usage.specs.declared.values.Sent.{Sent}
use Rattle.usage.specs.Tables.{at_first}
use Rattle.usage.specs.Slots.{Slot, changed, changed_in, closing, counts, has_key, holds, is_session, with_reason}
use Rattle.usage.specs.Rules.{after_rule, carries, unruled}
use Rattle.usage.specs.Orders.{disabled, requested, requested_if}
use Rattle.usage.specs.Reports.{group_sent, sent_at}
use Rattle.usage.specs.Traffic.{over}
use Rattle.usage.proofs.Inv.{PlaceOk, SlotAt, SlotOk, SlotsOk}
use Rattle.usage.proofs.Each.{Quiet, Same, each_first, each_map, key_at, same_by_quiet, same_itself}
use Rattle.usage.proofs.Judging.{reasoned}

-- ONE PLACE

-- of one key and level, and in the report alike
pub record Alike (p q : Place) : Type 0 where
  pub key : q.key ≡ p.key
  pub level : q.level ≡ p.level
  pub sent : q.sent ≡ p.sent

group_alike : (p q : Place) → q.key ≡ p.key → q.level ≡ p.level → (o : Option Sent) → group_sent q o ≡ group_sent p o
group_alike p q e f None = refl
group_alike p q e f (Some x) = λ i. record { place = 0; key = e i; level = f i; used = x.used } ∷ []

pub alike_sent : (p q : Place) → Alike p q → group_sent q q.sent ≡ group_sent p p.sent
alike_sent p q a = ap (group_sent q) a.sent ∙ group_alike p q a.key a.level p.sent

module _ (ceiling : ℕ) where
  pub quiet_itself : (s : Slot) → SlotOk ceiling s → Quiet ceiling s s
  quiet_itself s ok = record { ok = ok; key = refl; octets = refl; sent = refl }

  pub quiet_place : (s : Slot) (p q : Place) → s.place ≡ Some p → PlaceOk ceiling q s.counts → Alike p q → Quiet ceiling s (record { place = Some q; counts = s.counts })
  quiet_place s p q is ok a =
      record {
        ok = ok;
        key = ap Some a.key ∙ sym (ap (λ o. key_at (record { place = o; counts = s.counts })) is);
        octets = refl;
        sent = alike_sent p q a ∙ sym (ap sent_at is);
      }

  -- a change of places
  pub quiet_change : (f : Place → Place) → ((p : Place) (c : Counts) → PlaceOk ceiling p c → PlaceOk ceiling (f p) c) → ((p : Place) → Alike p (f p)) → (s : Slot) → SlotOk ceiling s → Quiet ceiling s (changed f s)
  quiet_change f keeps alike s ok = go s.place refl ok
    where
      go : (o : Option Place) → s.place ≡ o → SlotAt ceiling o s.counts → Quiet ceiling s (record { place = changed_in f o; counts = s.counts })
      go None is h = record { ok = h; key = sym (ap (λ o. key_at (record { place = o; counts = s.counts })) is); octets = refl; sent = sym (ap sent_at is) }
      go (Some p) is h = quiet_place s p (f p) is (keeps p s.counts h) (alike p)

  pub all_quiet : (ss : List Slot) → AllByRecursion (SlotOk ceiling) ss → AllByRecursion (λ s. Quiet ceiling s s) ss
  all_quiet ss h = All-weaker (SlotOk ceiling) (λ s. Quiet ceiling s s) quiet_itself ss h

  module _ (f : Place → Place) (keeps : (p : Place) (c : Counts) → PlaceOk ceiling p c → PlaceOk ceiling (f p) c) (alike : (p : Place) → Alike p (f p)) (ss : List Slot) (ok : SlotsOk ceiling ss) where
    pub same_map : Same ceiling ss (map (changed f) ss)
    same_map = same_by_quiet ceiling ss _ ok (each_map (Quiet ceiling) (changed f) ss (All-weaker (SlotOk ceiling) _ (quiet_change f keeps alike) ss ok.each))

    pub same_first : (p : Slot → Bool) → Same ceiling ss (at_first p (changed f) ss)
    same_first p =
        same_by_quiet ceiling ss _ ok
        (each_first (Quiet ceiling) p (changed f) ss (all_quiet ss ok.each) (All-weaker (SlotOk ceiling) _ (λ s h _. quiet_change f keeps alike s h) ss ok.each))

  -- REASONS

  unruled_ok : (p : Place) (c : Counts) → PlaceOk ceiling p c → PlaceOk ceiling (unruled p) c
  unruled_ok p c ok = go (not (is_session p.level) && counts p)
    where
      go : (b : Bool) → PlaceOk ceiling (cond b (with_reason p (Some reason.Removed)) p) c
      go true = reasoned ceiling p c (Some reason.Removed) refl (λ _. refl) ok
      go false = ok

  unruled_alike : (p : Place) → Alike p (unruled p)
  unruled_alike p = go (not (is_session p.level) && counts p)
    where
      go : (b : Bool) → Alike p (cond b (with_reason p (Some reason.Removed)) p)
      go true = record { key = refl; level = refl; sent = refl }
      go false = record { key = refl; level = refl; sent = refl }

  over_ok : (p : Place) (c : Counts) → PlaceOk ceiling p c → PlaceOk ceiling (over p) c
  over_ok p c ok = go (closing p.reason)
    where
      go : (b : Bool) → PlaceOk ceiling (cond b p (with_reason p (Some reason.Ended))) c
      go true = ok
      go false = reasoned ceiling p c (Some reason.Ended) refl (λ _. refl) ok

  over_alike : (p : Place) → Alike p (over p)
  over_alike p = go (closing p.reason)
    where
      go : (b : Bool) → Alike p (cond b p (with_reason p (Some reason.Ended)))
      go true = record { key = refl; level = refl; sent = refl }
      go false = record { key = refl; level = refl; sent = refl }

  requested_reason : (r : Option Reason) → is_some (requested_if r) ≡ true
  requested_reason None = refl
  requested_reason (Some r) = refl

  requested_closing : (r : Option Reason) → closing r ≡ true → closing (requested_if r) ≡ true
  requested_closing None e = absurd (false≢true e)
  requested_closing (Some r) e = e

  pub requested_ok : (p : Place) (c : Counts) → PlaceOk ceiling p c → PlaceOk ceiling (requested p) c
  requested_ok p c ok = reasoned ceiling p c (requested_if p.reason) (requested_reason p.reason) (requested_closing p.reason) ok

  pub disabled_ok : (p : Place) (c : Counts) → PlaceOk ceiling p c → PlaceOk ceiling (disabled p) c
  disabled_ok p c ok = reasoned ceiling p c (Some reason.Disabled) refl (λ _. refl) ok

  -- REMOVE AND TERMINATE

  pub rule_gone : (k : Option Key) (others : List (Option Rule)) (ss : List Slot) → SlotsOk ceiling ss → Same ceiling ss (after_rule k others ss)
  rule_gone None others ss ok = same_itself ceiling ss ok
  rule_gone (Some k) others ss ok = go (list_any (carries k) others)
    where
      go : (b : Bool) → Same ceiling ss (cond b ss (at_first (holds (has_key k)) (changed unruled) ss))
      go true = same_itself ceiling ss ok
      go false = same_first unruled unruled_ok unruled_alike ss ok (holds (has_key k))

  pub session_over : (ss : List Slot) → SlotsOk ceiling ss → Same ceiling ss (map (changed over) ss)
  session_over ss ok = same_map over over_ok over_alike ss ok
