-- Answers: what they discard, under each key. Assumes nothing.
use Rattle.std.proofs.Common.{◌≡◌, ℕ, ◌+◌, ◌≤◌, Bool, true, false, cond, not, ◌&&◌, ◌||◌, eqb, List, [], ◌∷◌, ◌++◌, map, is_some, Some, None, Option, sym, refl, ap, ◌∙◌, ap₂, inl, inr, arith}
use Rattle.std.specs.List.{AllByRecursion}
use Rattle.std.specs.Str.{bytes_eq}
use Rattle.std.proofs.ByRecursion.{All-weaker}
use Rattle.std.proofs.lemmas.Slice.Eq.{bytes_eq-Decides}
use Rattle.std.proofs.lemmas.Bool.{eq-eqb, false≢true}
use Rattle.fault.specs.declared.Code.{Code}
use Rattle.fault.specs.declared.Code.TheVariants as code
use Rattle.key.specs.declared.key.Key.{Key}
use Rattle.key.specs.Keys.{same_key}
use Rattle.units.specs.declared.values.Units.{Units}
use Rattle.information.specs.declared.values.AnswerGroup.{AnswerGroup}
use Rattle.trip.specs.Laws.Keys.{same_key_lem}
use Rattle.usage.specs.declared.values.Place.{Place}
use Rattle.usage.specs.declared.values.Sent.{Sent}
use Rattle.usage.specs.Forms.{clamped, same_form}
use Rattle.usage.specs.Tables.{tally}
use Rattle.usage.specs.Slots.{Slot, closing, going_on, has_key, holds, octets_at, passes, place_of, same_level}
use Rattle.usage.specs.Answers.{answer_misfit, continued, discarded, discarded_at, discards, form_fits, kept, lost, misfit, misfit_at, or_next, settled, settled_at, terms_for}
use Rattle.usage.specs.Reports.{group_sent, sent_at, sent_groups}
use Rattle.usage.specs.Totals.{under}
use Rattle.usage.proofs.Inv.{PlaceOk, SlotAt, SlotOk, SlotsOk, pending_sum}
use Rattle.usage.proofs.Each.{Kept, each_map, key_in, slots_ok}
use Rattle.usage.proofs.Judging.{clamped_covered, clamped_low, judged_ok, same_covered}
use Rattle.usage.proofs.Sums.{under_append}

pub key_itself : (k : Key) → same_key k k ≡ true
key_itself k = go (eqb k.size k.size) (eq-eqb k.size k.size refl)
  where
    go : (b : Bool) → b ≡ true → (b && bytes_eq k.octets k.octets) ≡ true
    go true e = (bytes_eq-Decides k.octets k.octets).1 refl
    go false e = absurd (false≢true e)

-- EACH PLACE IS THE FIRST WITH ITS KEY

found_tally : (k : Key) (ss : List Slot) (p : Place) → place_of k ss ≡ Some p → 1 ≤ tally (holds (has_key k)) ss
found_tally k [] p e = absurd (false≢true (ap is_some e))
found_tally k (s ∷ ss) p e = go s.place (λ h. found_tally k ss p h) e
  where
    here : (q : Place) (b : Bool) → (place_of k ss ≡ Some p → 1 ≤ tally (holds (has_key k)) ss) → cond b (Some q) (place_of k ss) ≡ Some p → 1 ≤ cond b 1 0 + tally (holds (has_key k)) ss
    here q true ih h = omega arith
    here q false ih h = omega (arith, ih h)

    go : (o : Option Place) → (place_of k ss ≡ Some p → 1 ≤ tally (holds (has_key k)) ss) → place_of k (record { place = o; counts = s.counts } ∷ ss) ≡ Some p → 1 ≤ tally (holds (has_key k)) (record { place = o; counts = s.counts } ∷ ss)
    go None ih h = omega (arith, ih h)
    go (Some q) ih h = here q (has_key k q) ih h

abbrev pub Found : List Slot → Slot → Type 0
Found ss s = (p : Place) → s.place ≡ Some p → place_of p.key ss ≡ Some p

pub all_found : (ss : List Slot) → ((k : Key) → tally (holds (has_key k)) ss ≤ 1) → AllByRecursion (Found ss) ss
all_found [] apart = tt
all_found (s ∷ ss) apart = (first, All-weaker (Found ss) (Found (s ∷ ss)) later ss (all_found ss (λ k. omega (arith, apart k))))
  where
    at_first_lem : (p : Place) (o : Option Place) → o ≡ Some p → place_of p.key (record { place = o; counts = s.counts } ∷ ss) ≡ Some p
    at_first_lem p o e = ap (λ o. place_of p.key (record { place = o; counts = s.counts } ∷ ss)) e ∙ ap (λ b. cond b (Some p) (place_of p.key ss)) (key_itself p.key)

    first : (p : Place) → s.place ≡ Some p → place_of p.key (s ∷ ss) ≡ Some p
    first p e = at_first_lem p s.place e

    passed : (p q : Place) (b : Bool) → cond b 1 0 + tally (holds (has_key p.key)) ss ≤ 1 → place_of p.key ss ≡ Some p → cond b (Some q) (place_of p.key ss) ≡ Some p
    passed p q true few found = absurd (omega (arith, found_tally p.key ss p found))
    passed p q false few found = found

    go : (p : Place) (o : Option Place) → tally (holds (has_key p.key)) (record { place = o; counts = s.counts } ∷ ss) ≤ 1 → place_of p.key ss ≡ Some p → place_of p.key (record { place = o; counts = s.counts } ∷ ss) ≡ Some p
    go p None few found = found
    go p (Some q) few found = passed p q (has_key p.key q) few found

    later : (t : Slot) → Found ss t → Found (s ∷ ss) t
    later t found p e = go p s.place (apart p.key) (found p e)

-- THE ANSWER FITS

module _ (ss : List Slot) (p : Place) (x : Sent) (u : Units) (sent : p.sent ≡ Some x) (found : place_of p.key ss ≡ Some p) where
  group_fits : (g : AnswerGroup) → same_key g.key p.key ≡ true → misfit_at g (place_of g.key ss) ≡ None → g.granted ≡ Some u → same_form p.thresholds u ≡ true
  group_fits g same fits is =
      go (same_level p.level g.level) (form_fits p g.granted) refl
      (sym (ap (λ o. misfit g o p) sent) ∙ sym (ap (misfit_at g) (ap (λ k. place_of k ss) (same_key_lem g.key p.key same) ∙ found)) ∙ fits)
    where
      go : (a b : Bool) → form_fits p g.granted ≡ b → cond (a && b) None (Some code.Differs) ≡ None → same_form p.thresholds u ≡ true
      go true true e h = sym (ap (form_fits p) is) ∙ e
      go true false e h = absurd (false≢true (sym (ap is_some h)))
      go false b e h = absurd (false≢true (sym (ap is_some h)))

  terms_fit : (gs : List AnswerGroup) → answer_misfit ss gs ≡ None → terms_for p.key gs ≡ Some u → same_form p.thresholds u ≡ true
  terms_fit [] fits e = absurd (false≢true (ap is_some e))
  terms_fit (g ∷ gs) fits e = go (same_key g.key p.key) refl (misfit_at g (place_of g.key ss)) refl fits e (λ f t. terms_fit gs f t)
    where
      go : (b : Bool) → same_key g.key p.key ≡ b → (m : Option Code) → misfit_at g (place_of g.key ss) ≡ m → or_next g m (answer_misfit ss gs) ≡ None → cond b g.granted (terms_for p.key gs) ≡ Some u → (answer_misfit ss gs ≡ None → terms_for p.key gs ≡ Some u → same_form p.thresholds u ≡ true) → same_form p.thresholds u ≡ true
      go b same (Some c) is bad t ih = absurd (false≢true (sym (ap is_some bad)))
      go true same None is ok t ih = group_fits g same is t
      go false same None is ok t ih = ih ok t

-- ONE SLOT

module _ (ceiling : ℕ) (enough : 65535 ≤ ceiling) (gs : List AnswerGroup) where
  abbrev after : Slot → Option Place → Slot
  after s o = settled_at ceiling gs s o

  module _ (s : Slot) (p : Place) (is : s.place ≡ Some p) (ok : PlaceOk ceiling p s.counts) where
    continued_kept : (o : Option Units) → ((u : Units) → o ≡ Some u → same_form p.thresholds u ≡ true) → Kept ceiling s (continued ceiling s p o)
    continued_kept None fits = record { ok = refl; key = inr refl }
    continued_kept (Some u) fits =
        record {
          ok = judged_ok ceiling (going_on p (clamped ceiling u)) s.counts (clamped_covered ceiling u s.counts (same_covered p.thresholds u s.counts (fits u refl) ok.covered)) (clamped_low ceiling u enough) (λ x e n. absurd (false≢true (ap is_some e)));
          key = inl (sym (ap key_in is));
        }

    settled_kept : (x : Sent) → p.sent ≡ Some x → ((u : Units) → terms_for p.key gs ≡ Some u → same_form p.thresholds u ≡ true) → (a b : Bool) → x.closing ≡ a → closing p.reason ≡ b → Kept ceiling s (cond a (record { place = None; counts = s.counts }) (cond b (record { place = Some (kept p); counts = s.counts }) (continued ceiling s p (terms_for p.key gs))))
    settled_kept x sent fits true b noted shut = record { ok = (ok.noted x sent noted).none; key = inr refl }
    settled_kept x sent fits false true noted shut =
        record {
          ok = record {
            covered = ok.covered;
            low = ok.low;
            noticed = λ a m. absurd (false≢true (ap not (sym shut) ∙ a));
            noted = λ y e n. absurd (false≢true (ap is_some e));
          };
          key = inl (sym (ap key_in is));
        }
    settled_kept x sent fits false false noted shut = continued_kept (terms_for p.key gs) fits

  module _ (ss : List Slot) (fits : answer_misfit ss gs ≡ None) where
    slot_kept : (s : Slot) → SlotOk ceiling s → Found ss s → Kept ceiling s (after s s.place)
    slot_kept s ok found = go s.place refl ok
      where
        in_report_lem : (p : Place) → s.place ≡ Some p → PlaceOk ceiling p s.counts → (o : Option Sent) → p.sent ≡ o → Kept ceiling s (settled ceiling gs s p o)
        in_report_lem p is h None sent = record { ok = ok; key = inl refl }
        in_report_lem p is h (Some x) sent = settled_kept s p is h x sent (λ u t. terms_fit ss p x u sent (found p is) gs fits t) x.closing (closing p.reason) refl refl

        go : (o : Option Place) → s.place ≡ o → SlotAt ceiling o s.counts → Kept ceiling s (after s o)
        go None is h = record { ok = ok; key = inl refl }
        go (Some p) is h = in_report_lem p is h p.sent refl

    pub settled_ok : SlotsOk ceiling ss → SlotsOk ceiling (map (λ s. after s s.place) ss)
    settled_ok ok = slots_ok ceiling ss _ ok (each_map (Kept ceiling) (λ s. after s s.place) ss (both ss ok.each (all_found ss ok.apart)))
      where
        both : (ts : List Slot) → AllByRecursion (SlotOk ceiling) ts → AllByRecursion (Found ss) ts → AllByRecursion (λ s. Kept ceiling s (after s s.place)) ts
        both [] h f = tt
        both (t ∷ ts) h f = (slot_kept t h.0 f.0, both ts h.1 f.1)

  -- no place stands in a report any more
  pub settled_sent : (ss : List Slot) → sent_groups (map (λ s. after s s.place) ss) ≡ []
  settled_sent [] = refl
  settled_sent (s ∷ ss) = ap₂ ◌++◌ (go s.place refl) (settled_sent ss)
    where
      going : (p : Place) (o : Option Units) → sent_at (continued ceiling s p o).place ≡ []
      going p None = refl
      going p (Some u) = refl

      closing_or_not : (p : Place) (a b : Bool) → sent_at (cond a (record { place = None; counts = s.counts }) (cond b (record { place = Some (kept p); counts = s.counts }) (continued ceiling s p (terms_for p.key gs)))).place ≡ []
      closing_or_not p true b = refl
      closing_or_not p false true = refl
      closing_or_not p false false = going p (terms_for p.key gs)

      in_report_lem : (p : Place) → s.place ≡ Some p → (o : Option Sent) → p.sent ≡ o → sent_at (settled ceiling gs s p o).place ≡ []
      in_report_lem p is None sent = ap sent_at is ∙ ap (group_sent p) sent
      in_report_lem p is (Some x) sent = closing_or_not p x.closing (closing p.reason)

      go : (o : Option Place) → s.place ≡ o → sent_at (after s o).place ≡ []
      go None is = ap sent_at is
      go (Some p) is = in_report_lem p is p.sent refl

  -- what was there is discarded, or still there
  pub settled_pending : (j : Key) (ss : List Slot) → AllByRecursion (SlotOk ceiling) ss → pending_sum j ss ≡ pending_sum j (map (λ s. after s s.place) ss) + under j (discards gs ss)
  settled_pending j [] h = omega arith
  settled_pending j (s ∷ ss) h =
      omega (arith, go s.place refl h.0, settled_pending j ss h.1, under_append j (discarded_at gs s s.place) (discards gs ss))
    where
      share : Slot → ℕ
      share t = cond (holds (has_key j) t) (octets_at t) 0

      split : (b : Bool) (n : ℕ) → cond b n 0 ≡ 0 + (cond b n 0 + 0)
      split true n = omega arith
      split false n = omega arith

      none : (b : Bool) (n : ℕ) → n ≡ 0 → cond b n 0 ≡ 0
      none true n e = e
      none false n e = refl

      going : (p : Place) (o : Option Units) → cond (has_key j p) (octets_at s) 0 ≡ share (continued ceiling s p o) + under j (lost s p o)
      going p None = split (has_key j p) (octets_at s)
      going p (Some u) = omega arith

      closing_or_not : (p : Place) (x : Sent) → PlaceOk ceiling p s.counts → p.sent ≡ Some x → (a b : Bool) → x.closing ≡ a → cond (has_key j p) (octets_at s) 0 ≡ share (cond a (record { place = None; counts = s.counts }) (cond b (record { place = Some (kept p); counts = s.counts }) (continued ceiling s p (terms_for p.key gs)))) + under j (cond (a || b) [] (lost s p (terms_for p.key gs)))
      closing_or_not p x ok sent true b noted = omega (arith, none (has_key j p) (octets_at s) (ok.noted x sent noted).none)
      closing_or_not p x ok sent false true noted = omega arith
      closing_or_not p x ok sent false false noted = going p (terms_for p.key gs)

      in_report_lem : (p : Place) → s.place ≡ Some p → PlaceOk ceiling p s.counts → (o : Option Sent) → p.sent ≡ o → cond (has_key j p) (octets_at s) 0 ≡ share (settled ceiling gs s p o) + under j (discarded gs s p o)
      in_report_lem p is ok None sent = omega (arith, ap (λ o. cond (passes (has_key j) o) (octets_at s) 0) is)
      in_report_lem p is ok (Some x) sent = closing_or_not p x ok sent x.closing (closing p.reason) refl

      go : (o : Option Place) → s.place ≡ o → SlotAt ceiling o s.counts → cond (passes (has_key j) o) (octets_at s) 0 ≡ share (after s o) + under j (discarded_at gs s o)
      go None is ok = omega (arith, ap (λ o. cond (passes (has_key j) o) (octets_at s) 0) is)
      go (Some p) is ok = in_report_lem p is ok p.sent refl
