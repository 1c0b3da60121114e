-- The AVPs of octets, one at a time, and what is gathered from them.
use Rattle.std.proofs.Common.{◌≡◌, ℕ, zero, suc, ◌-◌, ◌<◌, ◌≤◌, Bool, true, false, cond, eqb, List, length, drop, Ok, Err, Result, sym, refl, ap, ◌∙◌, arith}
use Rattle.std.proofs.lemmas.List.{length-drop}
use Rattle.std.proofs.lemmas.Bool.{cond-true, cond-false, eq-eqb, ne_eqb}
use Rattle.std.proofs.lemmas.Bool.Decides.{nat_tests}
use Rattle.fault.specs.declared.Fault.{Fault}
use Rattle.avp.specs.Octets.{padded}
use Rattle.avp.specs.Header.{Span, Parsed, stated, first_avp}
use Rattle.group.specs.Walk.{Avps, End, Next, avps, avps_by, linked, then, gather}
use Rattle.group.specs.Members.{Rules, member, ended, read_group}

-- an AVP takes octets
pub further : (at : ℕ) (bs : List ℕ) (a : Parsed) → first_avp at bs ≡ Ok a → length a.rest.octets < length bs
further at bs a e =
    let shorter : length (drop (padded (stated bs)) bs) ≡ length bs - padded (stated bs) = length-drop _ bs in
    grind (arith, nat_tests)

linked_same : (r : Result Parsed Fault) (f h : Span → Avps) → ((a : Parsed) → r ≡ Ok a → f a.rest ≡ h a.rest) → linked r f ≡ linked r h
linked_same (Ok a) f h same = ap (Next a) (same a refl)
linked_same (Err x) f h same = refl

none : (s : Span) (more : Avps) → length s.octets ≤ 0 → End ≡ cond (eqb (length s.octets) 0) End more
none s more h = sym (cond-true (eqb (length s.octets) 0) End more (eq-eqb (length s.octets) 0 (omega arith)))

-- how many turns there are does not matter, if there are enough
enough : (j k : ℕ) (s : Span) → length s.octets ≤ j → length s.octets ≤ k → avps_by j s ≡ avps_by k s
enough zero zero s p q = refl
enough zero (suc k) s p q = none s _ p
enough (suc j) zero s p q = sym (none s _ q)
enough (suc j) (suc k) s p q =
    ap (cond (eqb (length s.octets) 0) End)
    (linked_same (first_avp s.place s.octets) (avps_by j) (avps_by k) (λ a e. enough j k a.rest (omega (arith, further s.place s.octets a e)) (omega (arith, further s.place s.octets a e))))

by_all : (n : ℕ) (s : Span) → length s.octets ≡ suc n → avps_by (suc n) s ≡ linked (first_avp s.place s.octets) avps
unfolding avps
by_all n s e =
    cond-false (eqb (length s.octets) 0) _ _ (ne_eqb (length s.octets) 0 (λ z. omega arith))
    ∙ linked_same (first_avp s.place s.octets) (avps_by n) (λ t. avps_by (length t.octets) t) (λ a f. enough n _ a.rest (omega (arith, further s.place s.octets a f)) (omega arith))

step_at : (n : ℕ) (s : Span) → length s.octets ≡ n → 0 < n → avps_by n s ≡ linked (first_avp s.place s.octets) avps
step_at zero s e h = absurd (omega arith)
step_at (suc n) s e h = by_all n s e

-- octets that are left hold an AVP, then the others, or end the walk with a fault
pub avps_step : (s : Span) → 0 < length s.octets → avps s ≡ linked (first_avp s.place s.octets) avps
unfolding avps
avps_step s h = step_at (length s.octets) s refl h

pub avps_end : (s : Span) → length s.octets ≡ 0 → avps s ≡ End
unfolding avps
avps_end s e = enough (length s.octets) 0 s (omega arith) (omega arith)

pub some_left : (n : ℕ) (none : Bool) → none ≡ eqb n 0 → none ≡ false → 0 < n
some_left n none is e = grind (arith, nat_tests)

pub none_left : (n : ℕ) (none : Bool) → none ≡ eqb n 0 → none ≡ true → n ≡ 0
none_left n none is e = grind (arith, nat_tests)

pub gather_ends : {S : Type 0} (step : S → Parsed → Result S Fault) (s : Span) (x : S) → length s.octets ≡ 0 → gather step x (avps s) ≡ Ok x
gather_ends step s x e = ap (gather step x) (avps_end s e)

-- a group is what was gathered from its octets, at its end
pub read_through : {S V : Type 0} (r : Rules S V) (g : Span) (s : S) (x : Result S Fault) → gather (member r) s (avps g) ≡ x → then x (ended r g) ≡ read_group r s g
read_through r g s x e = ap (λ y. then y (ended r g)) (sym e)

module _ {S : Type 0} (step : S → Parsed → Result S Fault) (s : Span) (x : S) (some : 0 < length s.octets) where
  pub gather_next : (a : Parsed) (y : S) → Ok a ≡ first_avp s.place s.octets → Ok y ≡ step x a → gather step x (avps s) ≡ gather step y (avps a.rest)
  gather_next a y is took =
      ap (gather step x) (avps_step s some ∙ ap (λ r. linked r avps) (sym is))
      ∙ ap (λ r. then r (λ t. gather step t (avps a.rest))) (sym took)

  pub gather_stops : (a : Parsed) (f : Fault) → Ok a ≡ first_avp s.place s.octets → Err f ≡ step x a → gather step x (avps s) ≡ Err f
  gather_stops a f is took =
      ap (gather step x) (avps_step s some ∙ ap (λ r. linked r avps) (sym is))
      ∙ ap (λ r. then r (λ t. gather step t (avps a.rest))) (sym took)

  pub gather_breaks : (f : Fault) → Err f ≡ first_avp s.place s.octets → gather step x (avps s) ≡ Err f
  gather_breaks f is = ap (gather step x) (avps_step s some ∙ ap (λ r. linked r avps) (sym is))
