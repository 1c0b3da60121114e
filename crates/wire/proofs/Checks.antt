-- Checks over groups, one group after the other.
use Rattle.std.proofs.Common.{◌≡◌, ℕ, ◌<◌, Bool, true, false, cond, ◌&&◌, List, [], ◌∷◌, ◌++◌, length, get_or, take, Option, sym, ap, ◌∙◌, refl, arith, append_assoc, append-nil, zero, suc, MatchBool}
use Rattle.std.specs.List.{AllWithin, HoldsAt, list_all}
use Rattle.std.proofs.lemmas.Bool.{cond-true, cond-false}
use Rattle.key.specs.declared.key.Key.{Key}
use Rattle.message.specs.Keyed.{has_key}
use Rattle.wire.specs.Sound.{distinct, distinct_after}

module _ {V : Type 0} (p : V → Bool) where
  every_all : (vs : List V) → AllWithin (λ v. p v ≡ true) vs 0 (length vs) → list_all p vs ≡ true
  every_all [] h = refl
  every_all (v ∷ vs) h = (λ i. h 0 v (omega arith) (omega arith) i && every_all vs (λ k d a b. h (suc k) d (omega arith) (omega arith)) i)

  every_not : (vs : List V) (k : ℕ) → k < length vs → HoldsAt (λ v. p v ≡ false) vs k → list_all p vs ≡ false
  every_not [] k lt h = absurd (omega arith)
  every_not (v ∷ vs) zero lt h = ap (λ b. b && list_all p vs) (h v)
  every_not (v ∷ vs) (suc k) lt h = ap (λ b. p v && b) (every_not vs k (omega arith) h) ∙ last (p v)
    where
      last : (b : Bool) → (b && false) ≡ false
      last true = refl
      last false = refl

  pub every_by : (vs : List V) (r : Bool) → MatchBool r (AllWithin (λ v. p v ≡ true) vs 0 (length vs)) ((k : ℕ) × (k < length vs) × HoldsAt (λ v. p v ≡ false) vs k) → r ≡ list_all p vs
  every_by vs true h = sym (every_all vs h)
  every_by vs false h = sym (every_not vs h.0 h.1 h.2)

module _ {V : Type 0} (keyed : V → Option Key) where
  -- the key of the group at k, among the groups before it
  abbrev pub again : List V → ℕ → V → Bool
  again vs k d = has_key keyed (keyed (get_or vs k d)) (take k vs)

  abbrev after : List V → List V → ℕ → V → Bool
  after before vs k d = has_key keyed (keyed (get_or vs k d)) (before ++ take k vs)

  -- one group further
  moved : (before vs : List V) (v : V) (k : ℕ) (d : V) → after before (v ∷ vs) (suc k) d ≡ after (before ++ v ∷ []) vs k d
  moved before vs v k d = ap (has_key keyed (keyed (get_or vs k d))) (sym (append_assoc before (v ∷ []) (take k vs)))

  here : (before vs : List V) (v : V) → after before (v ∷ vs) 0 v ≡ has_key keyed (keyed v) before
  here before vs v = ap (has_key keyed (keyed v)) (append-nil before)

  apart : (before vs : List V) → ((k : ℕ) (d : V) → k < length vs → after before vs k d ≡ false) → distinct_after keyed before vs ≡ true
  apart before [] h = refl
  apart before (v ∷ vs) h =
      cond-false _ _ _ (sym (here before vs v) ∙ h 0 v (omega arith))
      ∙ apart (before ++ v ∷ []) vs (λ k d lt. sym (moved before vs v k d) ∙ h (suc k) d (omega arith))

  repeats : (before vs : List V) (k : ℕ) → k < length vs → ((d : V) → after before vs k d ≡ true) → distinct_after keyed before vs ≡ false
  repeats before [] k lt h = absurd (omega arith)
  repeats before (v ∷ vs) zero lt h = cond-true _ _ _ (sym (here before vs v) ∙ h v)
  repeats before (v ∷ vs) (suc k) lt h =
      either (has_key keyed (keyed v) before) _ (repeats (before ++ v ∷ []) vs k (omega arith) (λ d. sym (moved before vs v k d) ∙ h d))
    where
      either : (b c : Bool) → c ≡ false → cond b false c ≡ false
      either true c e = refl
      either false c e = e

  pub distinct_by : (vs : List V) (r : Bool) → MatchBool r ((k : ℕ) (d : V) → k < length vs → again vs k d ≡ false) ((k : ℕ) × (k < length vs) × ((d : V) → again vs k d ≡ true)) → r ≡ distinct keyed vs
  distinct_by vs true h = sym (apart [] vs h)
  distinct_by vs false h = sym (repeats [] vs h.0 h.1 h.2)
