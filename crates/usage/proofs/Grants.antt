-- Commands: what each group leaves of the slots. Assumes nothing.
use Rattle.std.proofs.Common.{◌≡◌, ℕ, suc, ◌+◌, ◌≤◌, Bool, true, false, cond, not, ◌&&◌, List, [], ◌∷◌, ◌++◌, length, is_some, Some, None, Ok, Err, Option, Result, sym, refl, ap, ◌∙◌, subst, arith}
use Rattle.std.specs.List.{AllByRecursion, list_any}
use Rattle.std.proofs.lemmas.Bool.{false≢true}
use Rattle.fault.specs.declared.Code.TheVariants as code
use Rattle.fault.specs.declared.Fault.{Fault}
use Rattle.fault.specs.Numbers.{call_fault}
use Rattle.group.specs.Walk.{then}
use Rattle.key.specs.declared.key.Key.{Key}
use Rattle.key.specs.Keys.{same_key}
use Rattle.units.specs.declared.values.Level.{Level}
use Rattle.units.specs.declared.values.Units.{Units}
use Rattle.information.specs.declared.values.CommandGroup.{CommandGroup}
use Rattle.information.specs.declared.values.Order.{Order}
use Rattle.information.specs.declared.values.Order.TheVariants.{Grant, Disable, Request}
use Rattle.trip.specs.Laws.Keys.{same_key_lem}
use Rattle.bank.specs.declared.counts.Counts.{Counts}
use Rattle.usage.specs.declared.values.Place.{Place}
use Rattle.usage.specs.Forms.{clamped, same_form}
use Rattle.usage.specs.Tables.{at_first, tally}
use Rattle.usage.specs.Slots.{Slot, changed, changed_in, closing, going_on, has_key, holds, in_report, is_session, judged, octets_at, place_of, same_level, vacant}
use Rattle.usage.specs.Orders.{counts_session, disabled, given, grant, granted_again, named, new_place, obeyed, obeyed_all, placed, regranted, requested}
use Rattle.usage.specs.Reports.{sent_at, sent_groups}
use Rattle.usage.proofs.Inv.{Low, PlaceOk, SlotAt, SlotOk, SlotsOk, pending_sum}
use Rattle.usage.proofs.Each.{Quiet, Same, each_keyed, same_by_quiet, same_itself, same_then}
use Rattle.usage.proofs.Judging.{clamped_low, judged_ok, none_covered, same_covered}
use Rattle.usage.proofs.Orders.{Alike, all_quiet, disabled_ok, quiet_place, requested_ok, same_first, same_map}

-- what an accepted group leaves
abbrev pub Fine : ℕ → List Slot → Result (List Slot) Fault → Type 0
Fine ceiling ss (Ok ts) = Same ceiling ss ts
Fine ceiling ss (Err f) = Unit {0}

pub not_some : {X : Type 0} (o : Option X) → is_some o ≡ false → o ≡ None
not_some None e = refl
not_some (Some x) e = absurd (false≢true (sym e))

-- A KEY THAT GETS A PLACE

-- the place of a key that has none yet
abbrev settled : Key → Level → Units → Counts → Place
settled k l u c = judged c (new_place k l u)

length_first : (p : Slot → Bool) (f : Slot → Slot) (ss : List Slot) → length (at_first p f ss) ≡ length ss
length_first p f [] = refl
length_first p f (s ∷ ss) = go (p s) (length_first p f ss)
  where
    go : (b : Bool) → length (at_first p f ss) ≡ length ss → length (cond b (f s ∷ ss) (s ∷ at_first p f ss)) ≡ suc (length ss)
    go true ih = refl
    go false ih = ap suc ih

none_tally : (k : Key) (ss : List Slot) → place_of k ss ≡ None → tally (holds (has_key k)) ss ≡ 0
none_tally k [] e = refl
none_tally k (s ∷ ss) e = go s.place (λ h. none_tally k ss h) e
  where
    at_place : (p : Place) (b : Bool) → (place_of k ss ≡ None → tally (holds (has_key k)) ss ≡ 0) → cond b (Some p) (place_of k ss) ≡ None → cond b 1 0 + tally (holds (has_key k)) ss ≡ 0
    at_place p true ih h = absurd (false≢true (sym (ap is_some h)))
    at_place p false ih h = omega (arith, ih h)

    go : (o : Option Place) → (place_of k ss ≡ None → tally (holds (has_key k)) ss ≡ 0) → place_of k (record { place = o; counts = s.counts } ∷ ss) ≡ None → tally (holds (has_key k)) (record { place = o; counts = s.counts } ∷ ss) ≡ 0
    go None ih h = omega (arith, ih h)
    go (Some p) ih h = at_place p (has_key k p) ih h

module _ (k : Key) (l : Level) (u : Units) where
  abbrev gets : List Slot → List Slot
  gets ss = at_first vacant (given (new_place k l u)) ss

  gets_tally : (j : Key) (ss : List Slot) → tally (holds (has_key j)) (gets ss) ≤ tally (holds (has_key j)) ss + cond (same_key k j) 1 0
  gets_tally j [] = omega arith
  gets_tally j (s ∷ ss) = go s.place (gets_tally j ss)
    where
      go : (o : Option Place) → tally (holds (has_key j)) (gets ss) ≤ tally (holds (has_key j)) ss + cond (same_key k j) 1 0 → tally (holds (has_key j)) (gets (record { place = o; counts = s.counts } ∷ ss)) ≤ tally (holds (has_key j)) (record { place = o; counts = s.counts } ∷ ss) + cond (same_key k j) 1 0
      go None ih = omega arith
      go (Some p) ih = omega arith

  gets_sent : (ss : List Slot) → sent_groups (gets ss) ≡ sent_groups ss
  gets_sent [] = refl
  gets_sent (s ∷ ss) = go s.place (gets_sent ss)
    where
      go : (o : Option Place) → sent_groups (gets ss) ≡ sent_groups ss → sent_groups (gets (record { place = o; counts = s.counts } ∷ ss)) ≡ sent_groups (record { place = o; counts = s.counts } ∷ ss)
      go None ih = refl
      go (Some p) ih = ap (◌++◌ (sent_at (Some p))) ih

  module _ (ceiling : ℕ) where
    gets_pending : (j : Key) (ss : List Slot) → AllByRecursion (SlotOk ceiling) ss → pending_sum j (gets ss) ≡ pending_sum j ss
    gets_pending j [] h = refl
    gets_pending j (s ∷ ss) h = go s.place h.0 (gets_pending j ss h.1)
      where
        nothing_there : (b : Bool) (n : ℕ) → n ≡ 0 → cond b n 0 ≡ 0
        nothing_there true n e = e
        nothing_there false n e = refl

        go : (o : Option Place) → SlotAt ceiling o s.counts → pending_sum j (gets ss) ≡ pending_sum j ss → pending_sum j (gets (record { place = o; counts = s.counts } ∷ ss)) ≡ pending_sum j (record { place = o; counts = s.counts } ∷ ss)
        go None ok ih = ap (λ n. n + pending_sum j ss) (nothing_there (has_key j (settled k l u s.counts)) (octets_at s) ok)
        go (Some p) ok ih = ap (λ n. cond (has_key j p) (octets_at s) 0 + n) ih

    gets_ok : Low ceiling u → (ss : List Slot) → AllByRecursion (SlotOk ceiling) ss → AllByRecursion (SlotOk ceiling) (gets ss)
    gets_ok low [] h = tt
    gets_ok low (s ∷ ss) h = go s.place refl h.0 (gets_ok low ss h.1)
      where
        go : (o : Option Place) → s.place ≡ o → SlotAt ceiling o s.counts → AllByRecursion (SlotOk ceiling) (gets ss) → AllByRecursion (SlotOk ceiling) (gets (record { place = o; counts = s.counts } ∷ ss))
        go None is ok ih = (judged_ok ceiling (new_place k l u) s.counts (none_covered u s.counts ok) low (λ x e n. absurd (false≢true (ap is_some e))), h.1)
        go (Some p) is ok ih = (ok, ih)

    pub same_gets : Low ceiling u → (ss : List Slot) → SlotsOk ceiling ss → place_of k ss ≡ None → Same ceiling ss (gets ss)
    same_gets low ss ok none =
        record {
          ok = record {
            wide = length_first vacant (given (new_place k l u)) ss ∙ ok.wide;
            each = gets_ok low ss ok.each;
            apart = λ j. apart j (same_key k j) refl;
          };
          pending = λ j. gets_pending j ss ok.each;
          sent = gets_sent ss;
        }
      where
        apart : (j : Key) (b : Bool) → same_key k j ≡ b → tally (holds (has_key j)) (gets ss) ≤ 1
        apart j true e =
            let none_there = subst (λ i. tally (holds (has_key i)) ss ≡ 0) (same_key_lem k j e) (none_tally k ss none) in
            omega (arith, gets_tally j ss, ap (λ b. cond {A = ℕ} b 1 0) e)
        apart j false e = omega (arith, gets_tally j ss, ok.apart j, ap (λ b. cond {A = ℕ} b 1 0) e)

-- A KEY THAT HAS A PLACE

module _ (ceiling : ℕ) (ss : List Slot) (ok : SlotsOk ceiling ss) (at : ℕ) (k : Key) where
  regrant : (u : Units) (p : Place) → Low ceiling u → in_report p ≡ false → same_form p.thresholds u ≡ true → (s : Slot) → s.place ≡ Some p → Quiet ceiling s s → Quiet ceiling s (regranted u s)
  regrant u p low out form s is quiet =
      let there : PlaceOk ceiling p s.counts = subst (λ o. SlotAt ceiling o s.counts) is quiet.ok in
      let covered = same_covered p.thresholds u s.counts form there.covered in
      let q : Place = judged s.counts (going_on p u) in
      let fine : PlaceOk ceiling q s.counts = judged_ok ceiling (going_on p u) s.counts covered low (λ x e n. absurd (false≢true (ap is_some e))) in
      let alike : Alike p q = record { key = refl; level = refl; sent = sym (not_some p.sent out) } in
      subst (λ o. Quiet ceiling s (record { place = changed_in (judged s.counts) (changed_in (λ p. going_on p u) o); counts = s.counts })) (sym is) (quiet_place ceiling s p q is fine alike)

  again_fine : (l : Level) (u : Units) (p : Place) → Low ceiling u → place_of k ss ≡ Some p → Fine ceiling ss (granted_again ss at k l u p)
  again_fine l u p low found = go (closing p.reason) (in_report p) refl (same_level p.level l) (same_form p.thresholds u) refl
    where
      go : (a b : Bool) → in_report p ≡ b → (d e : Bool) → same_form p.thresholds u ≡ e → Fine ceiling ss (cond a (Err (call_fault code.Closing at)) (cond b (Err (call_fault code.Unanswered at)) (cond (not (d && e)) (Err (call_fault code.Differs at)) (Ok (at_first (holds (has_key k)) (regranted u) ss)))))
      go true b out d e form = tt
      go false true out d e form = tt
      go false false out false e form = tt
      go false false out true false form = tt
      go false false out true true form = same_by_quiet ceiling ss _ ok (each_keyed (Quiet ceiling) k (regranted u) p (regrant u p low out form) ss (all_quiet ceiling ss ok.each) found)

  first_fine : (l : Level) (u : Units) → Low ceiling u → place_of k ss ≡ None → Fine ceiling ss (placed ss at (new_place k l u))
  first_fine l u low none = go (not (list_any vacant ss)) (is_session l && list_any (holds counts_session) ss)
    where
      go : (a b : Bool) → Fine ceiling ss (cond a (Err (call_fault code.Full at)) (cond b (Err (call_fault code.SessionKey at)) (Ok (at_first vacant (given (new_place k l u)) ss))))
      go true b = tt
      go false true = tt
      go false false = same_gets k l u ceiling low ss ok none

  grant_fine : (l : Level) (u : Units) → Low ceiling u → (o : Option Place) → place_of k ss ≡ o → Fine ceiling ss (grant ss at k l u o)
  grant_fine l u low None e = first_fine l u low e
  grant_fine l u low (Some p) e = again_fine l u p low e

  named_fine : (f : Place → Place) → ((p : Place) (c : Counts) → PlaceOk ceiling p c → PlaceOk ceiling (f p) c) → ((p : Place) → Alike p (f p)) → (o : Option Place) → Fine ceiling ss (named ss at k f o)
  named_fine f keeps alike None = tt
  named_fine f keeps alike (Some p) = go (closing p.reason)
    where
      go : (b : Bool) → Fine ceiling ss (cond b (Err (call_fault code.Closing at)) (Ok (at_first (holds (has_key k)) (changed f) ss)))
      go true = tt
      go false = same_first ceiling f keeps alike ss ok (holds (has_key k))

module _ (ceiling : ℕ) (enough : 65535 ≤ ceiling) where
  obeyed_fine : (ss : List Slot) → SlotsOk ceiling ss → (at : ℕ) (o : Order) → Fine ceiling ss (obeyed ceiling ss at o)
  obeyed_fine ss ok at (Grant k l u) = grant_fine ceiling ss ok at k l (clamped ceiling u) (clamped_low ceiling u enough) (place_of k ss) refl
  obeyed_fine ss ok at (Disable k) = named_fine ceiling ss ok at k disabled (disabled_ok ceiling) (λ p. record { key = refl; level = refl; sent = refl }) (place_of k ss)
  obeyed_fine ss ok at (Request (Some k)) = named_fine ceiling ss ok at k requested (requested_ok ceiling) (λ p. record { key = refl; level = refl; sent = refl }) (place_of k ss)
  obeyed_fine ss ok at (Request None) = same_map ceiling requested (requested_ok ceiling) (λ p. record { key = refl; level = refl; sent = refl }) ss ok

  -- groups one after the other
  pub command_fine : (gs : List CommandGroup) (ss : List Slot) → SlotsOk ceiling ss → Fine ceiling ss (obeyed_all ceiling ss gs)
  command_fine [] ss ok = same_itself ceiling ss ok
  command_fine (g ∷ gs) ss ok = go (obeyed ceiling ss g.place g.order) (obeyed_fine ss ok g.place g.order) (λ ts more. command_fine gs ts more)
    where
      after : (ts : List Slot) → Same ceiling ss ts → (r : Result (List Slot) Fault) → Fine ceiling ts r → Fine ceiling ss r
      after ts first (Ok us) next = same_then ceiling ss ts us first next
      after ts first (Err f) next = tt

      go : (r : Result (List Slot) Fault) → Fine ceiling ss r → ((ts : List Slot) → SlotsOk ceiling ts → Fine ceiling ts (obeyed_all ceiling ts gs)) → Fine ceiling ss (then r (λ ts. obeyed_all ceiling ts gs))
      go (Ok ts) first more = after ts first (obeyed_all ceiling ts gs) (more ts first.ok)
      go (Err f) first more = tt
