-- A group of a command in the writer's own form is written again exactly.
use Rattle.std.proofs.Common.{◌≡◌, ℕ, Bool, true, false, List, [], ◌++◌, Some, None, Ok, Option, sym, refl, ap, ◌∙◌, append-nil}
use Rattle.avp.specs.declared.name.Name.TheVariants.{MonitoringKey, GrantedServiceUnit, UsageMonitoringLevel, UsageMonitoringReport, UsageMonitoringSupport}
use Rattle.key.specs.declared.key.Key.{Key}
use Rattle.units.specs.declared.values.Level.{Level}
use Rattle.units.specs.declared.values.Units.{Units}
use Rattle.units.specs.Units.{read_units}
use Rattle.information.specs.declared.values.CommandGroup.{CommandGroup}
use Rattle.information.specs.declared.values.Order.TheVariants.{Grant, Disable, Request}
use Rattle.information.specs.declared.values.CommandGroupSoFar.{CommandGroupSoFar}
use Rattle.information.specs.Command.{begun, read_command_group, rules}
use Rattle.draft.specs.Octets.{written, key_avp, number_avp}
use Rattle.wire.specs.Octets.{units_avp, command_data}
use Rattle.trip.specs.Own.{Octets, OwnOrdered, grants, disables, requests, requests_key}
use Rattle.trip.specs.Laws.Parts.{left, right, data_of}
use Rattle.trip.specs.Laws.Undo.{same_ok, opened, ended_as}
use Rattle.trip.specs.Laws.Steps.{then_made}
use Rattle.trip.specs.Laws.MembersAgain.{key_undo, level_undo, units_undo, zero_undo}

abbrev so : ℕ → Option Key → Option Level → Option Units → Bool → Bool → CommandGroupSoFar
so at k l u report support = record { members = record { place = at; key = k; level = l; units = u }; report = report; support = support }

pub command_again : (at place : ℕ) {ds : List ℕ} → OwnOrdered ds → Octets ds → (g : CommandGroup) → read_command_group at (record { place = place; octets = ds }) ≡ Ok g → command_data g ≡ ds
unfolding read_command_group key_avp units_avp number_avp
command_again at place (grants k l {u} own) ok g e =
    let K : List ℕ = written MonitoringKey k in
    let U : List ℕ = written GrantedServiceUnit u in
    let L : List ℕ = written UsageMonitoringLevel l in
    let others = right K (U ++ L) ok in
    let a = opened rules (begun at) (record { place = place; octets = K ++ (U ++ L) }) (K ++ (U ++ (L ++ []))) g (ap (λ (z : List ℕ). K ++ (U ++ z)) (append-nil L)) e in
    let b = key_undo rules (begun at) place (U ++ (L ++ [])) (λ o. so at o None None false false) refl (λ ks. refl) (data_of MonitoringKey k (left K (U ++ L) ok)) a.1 in
    let c = units_undo rules (so at (Some b.0) None None false false) _ (L ++ []) GrantedServiceUnit true (λ x. so at (Some b.0) None (Some x) false false) refl (λ ds. refl)
    (λ s. then_made (read_units true s) (λ x. record { place = at; key = Some b.0; level = None; units = Some x }) (λ m. record { members = m; report = false; support = false }))
    own (data_of GrantedServiceUnit u (left U L others)) b.2 in
    let d = level_undo rules (so at (Some b.0) None (Some c.0) false false) _ [] (λ m. so at (Some b.0) (Some m) (Some c.0) false false) refl refl (λ n. refl) (data_of UsageMonitoringLevel l (right U L others)) c.2 in
    let w : record { place = at; order = Grant b.0 d.0 c.0 } ≡ g = same_ok _ _ (ended_as rules (so at (Some b.0) (Some d.0) (Some c.0) false false) (record { place = place; octets = K ++ (U ++ L) }) _ d.2 a.2) in
    ap command_data (sym w) ∙ (λ i. written MonitoringKey (b.1 i) ++ (written GrantedServiceUnit (c.1 i) ++ written UsageMonitoringLevel (d.1 i)))
command_again at place (disables k x) ok g e =
    let K : List ℕ = written MonitoringKey k in
    let X : List ℕ = written UsageMonitoringSupport x in
    let a = opened rules (begun at) (record { place = place; octets = K ++ X }) (K ++ (X ++ [])) g (ap (λ (z : List ℕ). K ++ z) (append-nil X)) e in
    let b = key_undo rules (begun at) place (X ++ []) (λ o. so at o None None false false) refl (λ ks. refl) (data_of MonitoringKey k (left K X ok)) a.1 in
    let d = zero_undo rules (so at (Some b.0) None None false false) _ [] UsageMonitoringSupport (so at (Some b.0) None None false true) refl (λ p. refl) refl (λ n. refl) (data_of UsageMonitoringSupport x (right K X ok)) b.2 in
    let w : record { place = at; order = Disable b.0 } ≡ g = same_ok _ _ (ended_as rules (so at (Some b.0) None None false true) (record { place = place; octets = K ++ X }) _ d.1 a.2) in
    ap command_data (sym w) ∙ (λ i. written MonitoringKey (b.1 i) ++ written UsageMonitoringSupport (d.0 i))
command_again at place (requests x) ok g e =
    let X : List ℕ = written UsageMonitoringReport x in
    let a = opened rules (begun at) (record { place = place; octets = X }) (X ++ []) g (append-nil X) e in
    let d = zero_undo rules (begun at) place [] UsageMonitoringReport (so at None None None true false) refl (λ p. refl) refl (λ n. refl) (data_of UsageMonitoringReport x ok) a.1 in
    let w : record { place = at; order = Request None } ≡ g = same_ok _ _ (ended_as rules (so at None None None true false) (record { place = place; octets = X }) _ d.1 a.2) in
    ap command_data (sym w) ∙ ap (written UsageMonitoringReport) d.0
command_again at place (requests_key x k) ok g e =
    let X : List ℕ = written UsageMonitoringReport x in
    let K : List ℕ = written MonitoringKey k in
    let a = opened rules (begun at) (record { place = place; octets = X ++ K }) (X ++ (K ++ [])) g (ap (λ (z : List ℕ). X ++ z) (append-nil K)) e in
    let d = zero_undo rules (begun at) place (K ++ []) UsageMonitoringReport (so at None None None true false) refl (λ p. refl) refl (λ n. refl) (data_of UsageMonitoringReport x (left X K ok)) a.1 in
    let b = key_undo rules (so at None None None true false) _ [] (λ o. so at o None None true false) refl (λ ks. refl) (data_of MonitoringKey k (right X K ok)) d.1 in
    let w : record { place = at; order = Request (Some b.0) } ≡ g = same_ok _ _ (ended_as rules (so at (Some b.0) None None true false) (record { place = place; octets = X ++ K }) _ b.2 a.2) in
    ap command_data (sym w) ∙ (λ i. written UsageMonitoringReport (d.0 i) ++ written MonitoringKey (b.1 i))
