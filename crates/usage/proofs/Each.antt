-- Changes of slots one by one, and of the first that passes a test. Assumes nothing.
use Rattle.std.proofs.Common.{◌≡◌, ℕ, suc, ◌+◌, ◌≤◌, Bool, true, false, cond, ◌⊎◌, List, [], ◌∷◌, ◌++◌, map, length, Some, None, Option, sym, refl, ap, ◌∙◌, ap₂, inl, inr, arith}
use Rattle.std.specs.List.{AllByRecursion}
use Rattle.key.specs.declared.key.Key.{Key}
use Rattle.usage.specs.declared.values.Place.{Place}
use Rattle.usage.specs.Tables.{at_first, tally}
use Rattle.usage.specs.Rules.{is_key}
use Rattle.usage.specs.Slots.{Slot, has_key, holds, octets_at, place_of}
use Rattle.usage.specs.Reports.{sent_at, sent_groups}
use Rattle.usage.proofs.Inv.{SlotOk, SlotsOk, pending_sum}

-- slots one by one
abbrev pub Each : (Slot → Slot → Type 0) → List Slot → List Slot → Type 0
Each R [] [] = Unit {0}
Each R [] (t ∷ ts) = ⊥
Each R (s ∷ ss) [] = ⊥
Each R (s ∷ ss) (t ∷ ts) = R s t × Each R ss ts

module _ (R : Slot → Slot → Type 0) where
  pub each_map : (f : Slot → Slot) (ss : List Slot) → AllByRecursion (λ s. R s (f s)) ss → Each R ss (map f ss)
  each_map f [] h = tt
  each_map f (s ∷ ss) h = (h.0, each_map f ss h.1)

  pub each_same : (ss : List Slot) → AllByRecursion (λ s. R s s) ss → Each R ss ss
  each_same [] same = tt
  each_same (s ∷ ss) same = (same.0, each_same ss same.1)

  pub each_first : (p : Slot → Bool) (f : Slot → Slot) (ss : List Slot) → AllByRecursion (λ s. R s s) ss → AllByRecursion (λ s. p s ≡ true → R s (f s)) ss → Each R ss (at_first p f ss)
  each_first p f [] same h = tt
  each_first p f (s ∷ ss) same h = go (each_first p f ss same.1 h.1) (p s) refl
    where
      go : Each R ss (at_first p f ss) → (b : Bool) → p s ≡ b → Each R (s ∷ ss) (cond b (f s ∷ ss) (s ∷ at_first p f ss))
      go more true e = (h.0 e, each_same ss same.1)
      go more false e = (same.0, more)

  -- the first slot that has a key is the one of its place
  pub each_keyed : (k : Key) (f : Slot → Slot) (p : Place) → ((s : Slot) → s.place ≡ Some p → R s s → R s (f s)) → (ss : List Slot) → AllByRecursion (λ s. R s s) ss → place_of k ss ≡ Some p → Each R ss (at_first (holds (has_key k)) f ss)
  each_keyed k f p h [] same e = tt
  each_keyed k f p h (s ∷ ss) same e = go (λ found. each_keyed k f p h ss same.1 found) s.place refl e
    where
      here : (place_of k ss ≡ Some p → Each R ss (at_first (holds (has_key k)) f ss)) → (q : Place) → s.place ≡ Some q → (b : Bool) → cond b (Some q) (place_of k ss) ≡ Some p → Each R (s ∷ ss) (cond b (f s ∷ ss) (s ∷ at_first (holds (has_key k)) f ss))
      here more q is true found = (h s (is ∙ found) same.0, each_same ss same.1)
      here more q is false found = (same.0, more found)

      go : (place_of k ss ≡ Some p → Each R ss (at_first (holds (has_key k)) f ss)) → (o : Option Place) → s.place ≡ o → place_of k (record { place = o; counts = s.counts } ∷ ss) ≡ Some p → Each R (s ∷ ss) (cond (holds (has_key k) (record { place = o; counts = s.counts })) (f s ∷ ss) (s ∷ at_first (holds (has_key k)) f ss))
      go more None is found = (same.0, more found)
      go more (Some q) is found = here more q is (has_key k q) found

-- SLOTS THAT STAY SOUND

abbrev pub key_in : Option Place → Option Key
key_in None = None
key_in (Some p) = Some p.key

abbrev pub key_at : Slot → Option Key
key_at s = key_in s.place

pub holds_key : (k : Key) (s : Slot) → holds (has_key k) s ≡ is_key (key_at s) k
holds_key k s = go s.place
  where
    go : (o : Option Place) → holds (has_key k) (record { place = o; counts = s.counts }) ≡ is_key (key_in o) k
    go None = refl
    go (Some p) = refl

pub same_holds : (k : Key) (s t : Slot) → key_at t ≡ key_at s → holds (has_key k) t ≡ holds (has_key k) s
same_holds k s t e = holds_key k t ∙ ap (λ j. is_key j k) e ∙ sym (holds_key k s)

pub freed_holds : (k : Key) (t : Slot) → key_at t ≡ None → holds (has_key k) t ≡ false
freed_holds k t e = holds_key k t ∙ ap (λ j. is_key j k) e

-- a slot keeps its key, or is freed
pub record Kept (ceiling : ℕ) (s t : Slot) : Type 0 where
  pub ok : SlotOk ceiling t
  pub key : (key_at t ≡ key_at s) ⊎ (key_at t ≡ None)

module _ (ceiling : ℕ) where
  each_wide : (R : Slot → Slot → Type 0) (ss ts : List Slot) → Each R ss ts → length ts ≡ length ss
  each_wide R [] [] h = refl
  each_wide R [] (t ∷ ts) h = absurd h
  each_wide R (s ∷ ss) [] h = absurd h
  each_wide R (s ∷ ss) (t ∷ ts) h = ap suc (each_wide R ss ts h.1)

  each_ok : (ss ts : List Slot) → Each (Kept ceiling) ss ts → AllByRecursion (SlotOk ceiling) ts
  each_ok [] [] h = tt
  each_ok [] (t ∷ ts) h = absurd h
  each_ok (s ∷ ss) [] h = absurd h
  each_ok (s ∷ ss) (t ∷ ts) h = (h.0.ok, each_ok ss ts h.1)

  fewer : (k : Key) (s t : Slot) → (key_at t ≡ key_at s) ⊎ (key_at t ≡ None) → cond (holds (has_key k) t) 1 0 ≤ cond (holds (has_key k) s) 1 0
  fewer k s t (inl e) = let h : cond (holds (has_key k) t) 1 0 ≡ cond {A = ℕ} (holds (has_key k) s) 1 0 = ap (λ b. cond b 1 0) (same_holds k s t e) in omega arith
  fewer k s t (inr e) = let h : cond {A = ℕ} (holds (has_key k) t) 1 0 ≡ 0 = ap (λ b. cond b 1 0) (freed_holds k t e) in omega arith

  each_tally : (k : Key) (ss ts : List Slot) → Each (Kept ceiling) ss ts → tally (holds (has_key k)) ts ≤ tally (holds (has_key k)) ss
  each_tally k [] [] h = omega arith
  each_tally k [] (t ∷ ts) h = absurd h
  each_tally k (s ∷ ss) [] h = absurd h
  each_tally k (s ∷ ss) (t ∷ ts) h = omega (arith, fewer k s t h.0.key, each_tally k ss ts h.1)

  pub slots_ok : (ss ts : List Slot) → SlotsOk ceiling ss → Each (Kept ceiling) ss ts → SlotsOk ceiling ts
  slots_ok ss ts ok h =
      record {
        wide = each_wide (Kept ceiling) ss ts h ∙ ok.wide;
        each = each_ok ss ts h;
        apart = λ k. omega (arith, ok.apart k, each_tally k ss ts h);
      }

-- CHANGES THAT COUNT AND REPORT NOTHING

pub record Quiet (ceiling : ℕ) (s t : Slot) : Type 0 where
  pub ok : SlotOk ceiling t
  pub key : key_at t ≡ key_at s
  pub octets : octets_at t ≡ octets_at s
  pub sent : sent_at t.place ≡ sent_at s.place

pub record Same (ceiling : ℕ) (ss ts : List Slot) : Type 0 where
  pub ok : SlotsOk ceiling ts
  pub pending : (k : Key) → pending_sum k ts ≡ pending_sum k ss
  pub sent : sent_groups ts ≡ sent_groups ss

module _ (ceiling : ℕ) where
  kept_by_quiet : (ss ts : List Slot) → Each (Quiet ceiling) ss ts → Each (Kept ceiling) ss ts
  kept_by_quiet [] [] h = tt
  kept_by_quiet [] (t ∷ ts) h = absurd h
  kept_by_quiet (s ∷ ss) [] h = absurd h
  kept_by_quiet (s ∷ ss) (t ∷ ts) h = (record { ok = h.0.ok; key = inl h.0.key }, kept_by_quiet ss ts h.1)

  quiet_pending : (k : Key) (ss ts : List Slot) → Each (Quiet ceiling) ss ts → pending_sum k ts ≡ pending_sum k ss
  quiet_pending k [] [] h = refl
  quiet_pending k [] (t ∷ ts) h = absurd h
  quiet_pending k (s ∷ ss) [] h = absurd h
  quiet_pending k (s ∷ ss) (t ∷ ts) h =
      ap₂ ◌+◌ (ap₂ (λ b n. cond b n 0) (same_holds k s t h.0.key) h.0.octets) (quiet_pending k ss ts h.1)

  quiet_sent : (ss ts : List Slot) → Each (Quiet ceiling) ss ts → sent_groups ts ≡ sent_groups ss
  quiet_sent [] [] h = refl
  quiet_sent [] (t ∷ ts) h = absurd h
  quiet_sent (s ∷ ss) [] h = absurd h
  quiet_sent (s ∷ ss) (t ∷ ts) h = ap₂ ◌++◌ h.0.sent (quiet_sent ss ts h.1)

  pub same_by_quiet : (ss ts : List Slot) → SlotsOk ceiling ss → Each (Quiet ceiling) ss ts → Same ceiling ss ts
  same_by_quiet ss ts ok h =
      record {
        ok = slots_ok ceiling ss ts ok (kept_by_quiet ss ts h);
        pending = λ k. quiet_pending k ss ts h;
        sent = quiet_sent ss ts h;
      }

  pub same_then : (ss ts us : List Slot) → Same ceiling ss ts → Same ceiling ts us → Same ceiling ss us
  same_then ss ts us g h = record { ok = h.ok; pending = λ k. h.pending k ∙ g.pending k; sent = h.sent ∙ g.sent }

  pub same_itself : (ss : List Slot) → SlotsOk ceiling ss → Same ceiling ss ss
  same_itself ss ok = record { ok = ok; pending = λ k. refl; sent = refl }
