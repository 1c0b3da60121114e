-- A place whose thresholds or reason change, and one that is judged by its counts. Assumes nothing.
use Rattle.std.proofs.Common.{◌≡◌, ℕ, ◌+◌, ◌≤◌, Bool, true, false, cond, ◌||◌, is_some, Some, None, Option, sym, refl, ap, ◌∙◌, arith}
use Rattle.std.proofs.lemmas.Bool.{false≢true, or_right}
use Rattle.units.specs.declared.values.Units.{Units}
use Rattle.units.specs.declared.values.Units.TheVariants.{Total, Uplink, Downlink, Both}
use Rattle.bank.specs.declared.counts.Counts.{Counts}
use Rattle.usage.specs.declared.values.Place.{Place}
use Rattle.usage.specs.declared.values.Reason.{Reason}
use Rattle.usage.specs.declared.values.Reason.TheVariants as reason
use Rattle.usage.specs.declared.values.Sent.{Sent}
use Rattle.usage.specs.Forms.{clamped, met, same_form}
use Rattle.usage.specs.Slots.{closing, due, in_report, judged, reached_if, with_reason}
use Rattle.usage.proofs.Inv.{Covered, Low, Noted, PlaceOk}

-- FORMS

pub clamped_low : (ceiling : ℕ) (u : Units) → 65535 ≤ ceiling → Low ceiling (clamped ceiling u)
clamped_low ceiling (Total t) h = omega arith
clamped_low ceiling (Uplink u) h = omega arith
clamped_low ceiling (Downlink v) h = omega arith
clamped_low ceiling (Both u v) h = (omega arith, omega arith)

pub same_covered : (a b : Units) (c : Counts) → same_form a b ≡ true → Covered a c → Covered b c
same_covered (Total t) (Total s) c e h = tt
same_covered (Total t) (Uplink u) c e h = absurd (false≢true e)
same_covered (Total t) (Downlink v) c e h = absurd (false≢true e)
same_covered (Total t) (Both u v) c e h = tt
same_covered (Uplink s) (Total t) c e h = tt
same_covered (Uplink s) (Uplink u) c e h = h
same_covered (Uplink s) (Downlink v) c e h = absurd (false≢true e)
same_covered (Uplink s) (Both u v) c e h = tt
same_covered (Downlink s) (Total t) c e h = tt
same_covered (Downlink s) (Uplink u) c e h = absurd (false≢true e)
same_covered (Downlink s) (Downlink v) c e h = h
same_covered (Downlink s) (Both u v) c e h = tt
same_covered (Both r s) (Total t) c e h = tt
same_covered (Both r s) (Uplink u) c e h = absurd (false≢true e)
same_covered (Both r s) (Downlink v) c e h = absurd (false≢true e)
same_covered (Both r s) (Both u v) c e h = tt

pub clamped_covered : (ceiling : ℕ) (u : Units) (c : Counts) → Covered u c → Covered (clamped ceiling u) c
clamped_covered ceiling (Total t) c h = h
clamped_covered ceiling (Uplink u) c h = h
clamped_covered ceiling (Downlink v) c h = h
clamped_covered ceiling (Both u v) c h = h

pub none_covered : (u : Units) (c : Counts) → c.uplink + c.downlink ≡ 0 → Covered u c
none_covered (Total t) c h = tt
none_covered (Uplink u) c h = omega arith
none_covered (Downlink v) c h = omega arith
none_covered (Both u v) c h = tt

-- REASONS

-- a reason that is there, and closes what was closing
pub reasoned : (ceiling : ℕ) (p : Place) (c : Counts) (r : Option Reason) → is_some r ≡ true → (closing p.reason ≡ true → closing r ≡ true) → PlaceOk ceiling p c → PlaceOk ceiling (with_reason p r) c
reasoned ceiling p c r is shuts ok =
    record {
      covered = ok.covered;
      low = ok.low;
      noticed = λ a m. ap (λ b. b || in_report p) is;
      noted = λ x e n. let h = ok.noted x e n in record { shut = shuts h.shut; none = h.none };
    }

reached_due : (b : Bool) (r : Option Reason) → b ≡ true → is_some (reached_if b r) ≡ true
reached_due true None e = refl
reached_due true (Some reason.Reached) e = refl
reached_due true (Some reason.Requested) e = refl
reached_due true (Some reason.Removed) e = refl
reached_due true (Some reason.Disabled) e = refl
reached_due true (Some reason.Ended) e = refl
reached_due false r e = absurd (false≢true e)

-- what is judged is noticed
pub judged_ok : (ceiling : ℕ) (p : Place) (c : Counts) → Covered p.thresholds c → Low ceiling p.thresholds → ((x : Sent) → p.sent ≡ Some x → x.closing ≡ true → Noted p c) → PlaceOk ceiling (judged c p) c
judged_ok ceiling p c covered low noted = go p.sent refl
  where
    go : (o : Option Sent) → p.sent ≡ o → PlaceOk ceiling (cond (is_some o) p (with_reason p (reached_if (met p.thresholds c) p.reason))) c
    go None e =
        record {
          covered = covered;
          low = low;
          noticed = λ a m. ap (λ b. b || in_report p) (reached_due (met p.thresholds c) p.reason m);
          noted = λ x f n. absurd (false≢true (ap is_some (sym e ∙ f)));
        }
    go (Some y) e =
        record {
          covered = covered;
          low = low;
          noticed = λ a m. or_right (due p) (in_report p) (ap is_some e);
          noted = noted;
        }
