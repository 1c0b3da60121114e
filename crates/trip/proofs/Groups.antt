-- Groups written one after the other read back in their order.
use Rattle.std.proofs.Common.{◌≡◌, ℕ, ◌+◌, ◌<◌, ◌≤◌, Bool, true, false, ◌||◌, cond, List, [], ◌∷◌, ◌++◌, length, Ok, Option, Result, sym, refl, ap, ◌∙◌, append_assoc, append-nil, arith, length-append, flat_map}
use Rattle.std.specs.List.{list_all}
use Rattle.std.proofs.lemmas.List.Folds.{list_any-append}
use Rattle.std.proofs.lemmas.Bool.{and_parts, cond-true, cond-false, lt-ltb, false≢true}
use Rattle.fault.specs.declared.Fault.{Fault}
use Rattle.avp.specs.declared.name.Name.TheVariants.{UsageMonitoringInformation}
use Rattle.avp.specs.Header.{Span}
use Rattle.avp.specs.Fields as field
use Rattle.group.specs.Walk.{then, avps, gather}
use Rattle.group.specs.Shapes as shape
use Rattle.group.specs.Members.{Rules, member}
use Rattle.group.proofs.Walks.{gather_ends}
use Rattle.key.specs.declared.key.Key.{Key}
use Rattle.message.specs.Keyed.{same_keys, has_key, added}
use Rattle.wire.specs.Octets.{group_avp}
use Rattle.wire.specs.Sound.{distinct_after}
use Rattle.wire.specs.Lengths.{written_length}
use Rattle.trip.specs.Back.{placed}
use Rattle.trip.specs.Laws.Steps.{step}

has_append : {V : Type 0} (keyed : V → Option Key) (k : Option Key) (vs : List V) (v : V) → has_key keyed k (vs ++ v ∷ []) ≡ (has_key keyed k vs || same_keys (keyed v) k)
has_append keyed k vs v = list_any-append (λ w. same_keys (keyed w) k) vs (v ∷ []) ∙ ap (λ b. has_key keyed k vs || b) (last (same_keys (keyed v) k))
  where
    last : (b : Bool) → (b || false) ≡ b
    last true = refl
    last false = refl

-- how a kind of group is read back, and how a message holds groups
pub record Kind (V S W : Type 0) : Type 1 where
  pub reads : ℕ → Span → Result V Fault
  pub keyed : V → Option Key
  pub moved : ℕ → V → V
  pub octets : V → List ℕ
  pub sound : V → Bool
  pub rules : Rules S W
  pub state : List V → S
  pub back : (at place : ℕ) (v : V) → sound v ≡ true → reads at (record { place = place; octets = octets v }) ≡ Ok (moved at v)
  pub key_moved : (at : ℕ) (v : V) → keyed (moved at v) ≡ keyed v
  pub short : (v : V) → sound v ≡ true → length (octets v) < 65536
  pub admits : (vs : List V) → shape.admits (rules.shapes (state vs)) (rules.holds (state vs)) UsageMonitoringInformation ≡ true
  pub puts : (vs : List V) (s : Span) (at : ℕ) → rules.puts (state vs) UsageMonitoringInformation (field.Group s) at ≡ then (then (reads at s) (added keyed vs at)) (λ ws. Ok (state ws))

module _ {V S W : Type 0} (k : Kind V S W) where
  abbrev Same : List V → List V → Type 0
  Same xs ys = (key : Option Key) → has_key k.keyed key xs ≡ has_key k.keyed key ys

  same_more : (xs ys : List V) (at : ℕ) (v : V) → Same xs ys → Same (xs ++ k.moved at v ∷ []) (ys ++ v ∷ [])
  same_more xs ys at v h key =
      has_append k.keyed key xs (k.moved at v)
      ∙ (λ i. h key i || same_keys (k.key_moved at v i) key)
      ∙ sym (has_append k.keyed key ys v)

  -- a fresh key, and room
  joined : (before : List V) (at : ℕ) (v : V) → has_key k.keyed (k.keyed (k.moved at v)) before ≡ false → length before < 16 → added k.keyed before at (k.moved at v) ≡ Ok (before ++ k.moved at v ∷ [])
  joined before at v fresh room = cond-false _ _ _ fresh ∙ cond-true _ _ _ (lt-ltb (length before) 16 room)

  one : (before : List V) (at : ℕ) (v : V) (rest : List ℕ) → k.sound v ≡ true → has_key k.keyed (k.keyed (k.moved at v)) before ≡ false → length before < 16 → gather (member k.rules) (k.state before) (avps (record { place = at; octets = group_avp (k.octets v) ++ rest })) ≡ gather (member k.rules) (k.state (before ++ k.moved at v ∷ [])) (avps (record { place = at + length (group_avp (k.octets v)); octets = rest }))
  unfolding group_avp
  one before at v rest ok fresh room =
      step k.rules (k.state before) (k.state (before ++ k.moved at v ∷ [])) UsageMonitoringInformation (field.Group (record { place = at + 12; octets = k.octets v })) at (k.octets v) rest (k.short v ok) (k.admits before) refl
      (k.puts before (record { place = at + 12; octets = k.octets v }) at
      ∙ ap (λ r. then (then r (added k.keyed before at)) (λ ws. Ok (k.state ws))) (k.back at (at + 12) v ok)
      ∙ ap (λ r. then r (λ ws. Ok (k.state ws))) (joined before at v fresh room))
      ∙ ap (λ (n : ℕ). gather (member k.rules) (k.state (before ++ k.moved at v ∷ [])) (avps (record { place = at + n; octets = rest }))) (sym (written_length UsageMonitoringInformation (k.octets v)))

  split : (b c : Bool) → cond b false c ≡ true → (b ≡ false) × (c ≡ true)
  split true c h = absurd (false≢true h)
  split false c h = (refl, h)

  pub all_back : (vs before old : List V) (at : ℕ) → list_all k.sound vs ≡ true → Same before old → distinct_after k.keyed old vs ≡ true → length before + length vs ≤ 16 → gather (member k.rules) (k.state before) (avps (record { place = at; octets = flat_map (λ v. group_avp (k.octets v)) vs })) ≡ Ok (k.state (before ++ placed k.moved k.octets at vs))
  all_back [] before old at ok same apart room =
      gather_ends (member k.rules) (record { place = at; octets = [] }) (k.state before) refl ∙ ap (λ l. Ok (k.state l)) (sym (append-nil before))
  all_back (v ∷ vs) before old at ok same apart room =
      let sounds = and_parts (k.sound v) (list_all k.sound vs) ok in
      let keys = split (has_key k.keyed (k.keyed v) old) (distinct_after k.keyed (old ++ v ∷ []) vs) apart in
      let fresh : has_key k.keyed (k.keyed (k.moved at v)) before ≡ false = ap (λ key. has_key k.keyed key before) (k.key_moved at v) ∙ same (k.keyed v) ∙ keys.0 in
      one before at v (flat_map (λ w. group_avp (k.octets w)) vs) sounds.0 fresh (omega arith)
      ∙ all_back vs (before ++ k.moved at v ∷ []) (old ++ v ∷ []) (at + length (group_avp (k.octets v))) sounds.1 (same_more before old at v same) keys.1 (omega (arith, length-append before (k.moved at v ∷ [])))
      ∙ ap (λ l. Ok (k.state l)) (append_assoc before (k.moved at v ∷ []) (placed k.moved k.octets (at + length (group_avp (k.octets v))) vs))
