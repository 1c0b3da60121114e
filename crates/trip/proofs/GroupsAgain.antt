-- Groups in the writer's own form are written again exactly, in their order.
use Rattle.std.proofs.Common.{◌≡◌, ℕ, ◌+◌, Bool, true, false, cond, ltb, List, [], ◌∷◌, ◌++◌, length, Ok, Err, Option, Result, sym, refl, ap, ◌∙◌, append_assoc, append-nil, arith, flat_map}
use Rattle.fault.specs.declared.Code.TheVariants.{RepeatedKey, TooMany}
use Rattle.fault.specs.declared.Fault.{Fault}
use Rattle.fault.specs.Numbers.{message_fault}
use Rattle.avp.specs.declared.name.Name.TheVariants.{UsageMonitoringInformation}
use Rattle.avp.specs.Octets.{padded}
use Rattle.avp.specs.Header.{Span}
use Rattle.avp.specs.Fields as field
use Rattle.group.specs.Walk.{then, avps, gather}
use Rattle.group.specs.Shapes as shape
use Rattle.group.specs.Members.{Rules, member}
use Rattle.group.proofs.Walks.{gather_ends}
use Rattle.key.specs.declared.key.Key.{Key}
use Rattle.message.specs.Keyed.{has_key, added}
use Rattle.draft.specs.Octets.{written}
use Rattle.wire.specs.Octets.{group_avp}
use Rattle.trip.specs.Own.{Octets, OwnGroups, none, more}
use Rattle.trip.specs.Laws.First.{seen}
use Rattle.trip.specs.Laws.Parts.{left, right, data_of}
use Rattle.trip.specs.Laws.Undo.{same_ok, then_undo, unstep}

-- what was added stands behind the others
added_undo : {V : Type 0} (keyed : V → Option Key) (vs ws : List V) (at : ℕ) (v : V) → added keyed vs at v ≡ Ok ws → ws ≡ vs ++ v ∷ []
added_undo keyed vs ws at v e = sym (by (has_key keyed (keyed v) vs) (ltb (length vs) 16) e)
  where
    by : (a b : Bool) → cond a (Err (message_fault RepeatedKey at)) (cond b (Ok (vs ++ v ∷ [])) (Err (message_fault TooMany at))) ≡ Ok ws → vs ++ v ∷ [] ≡ ws
    by true b e = let z : ◌≡◌ {A = ℕ} 0 1 = cc in absurd (omega arith)
    by false true e = same_ok _ _ e
    by false false e = let z : ◌≡◌ {A = ℕ} 0 1 = cc in absurd (omega arith)

pub record Again (V S W : Type 0) (P : List ℕ → Type 0) : Type 1 where
  pub reads : ℕ → Span → Result V Fault
  pub keyed : V → Option Key
  pub octets : V → List ℕ
  pub rules : Rules S W
  pub state : List V → S
  pub again : (at place : ℕ) (ds : List ℕ) → P ds → Octets ds → (v : V) → reads at (record { place = place; octets = ds }) ≡ Ok v → octets v ≡ ds
  pub admits : (vs : List V) → shape.admits (rules.shapes (state vs)) (rules.holds (state vs)) UsageMonitoringInformation ≡ true
  pub puts : (vs : List V) (s : Span) (at : ℕ) → rules.puts (state vs) UsageMonitoringInformation (field.Group s) at ≡ then (then (reads at s) (added keyed vs at)) (λ ws. Ok (state ws))

module _ {V S W : Type 0} {P : List ℕ → Type 0} (k : Again V S W P) where
  pub all_again : {gs : List ℕ} → OwnGroups P gs → Octets gs → (before : List V) (at : ℕ) (final : S) → gather (member k.rules) (k.state before) (avps (record { place = at; octets = gs })) ≡ Ok final → (vs : List V) × (final ≡ k.state (before ++ vs)) × (flat_map (λ v. group_avp (k.octets v)) vs ≡ gs)
  unfolding group_avp
  all_again none ok before at final e =
      ([], same_ok _ _ (sym e ∙ gather_ends (member k.rules) (record { place = at; octets = [] }) (k.state before) refl) ∙ ap k.state (sym (append-nil before)), refl)
  all_again (more {g} {rest} own others) ok before at final e =
      let G : List ℕ = written UsageMonitoringInformation g in
      let whole = data_of UsageMonitoringInformation g (left G rest ok) in
      let u = unstep k.rules (k.state before) UsageMonitoringInformation at g rest final whole.short (k.admits before) e in
      let uv : u.value ≡ field.Group (record { place = at + 12; octets = g }) = sym (same_ok _ _ u.held) in
      let read = then_undo (then (k.reads at (record { place = at + 12; octets = g })) (added k.keyed before at)) (λ ws. Ok (k.state ws)) u.next (sym (k.puts before (record { place = at + 12; octets = g }) at) ∙ ap (λ v. k.rules.puts (k.state before) UsageMonitoringInformation v at) (sym uv) ∙ u.put) in
      let one = then_undo (k.reads at (record { place = at + 12; octets = g })) (added k.keyed before at) read.0 read.1 in
      let v : V = one.0 in
      let grown : read.0 ≡ before ++ v ∷ [] = added_undo k.keyed before read.0 at v one.2 in
      let on : u.next ≡ k.state (before ++ v ∷ []) = sym (same_ok _ _ read.2) ∙ ap k.state grown in
      let tail = all_again others (right G rest ok) (before ++ v ∷ []) (at + (12 + padded (length g))) final (ap (λ s. gather (member k.rules) s (avps (seen UsageMonitoringInformation at g rest).rest)) (sym on) ∙ u.others) in
      let same : k.octets v ≡ g = k.again at (at + 12) g own whole v one.1 in
      (v ∷ tail.0, tail.1 ∙ ap k.state (append_assoc before (v ∷ []) tail.0), λ i. written UsageMonitoringInformation (same i) ++ tail.2 i)
