-- A group of an answer in the writer's own form is written again exactly.
use Rattle.std.proofs.Common.{◌≡◌, ℕ, true, List, [], ◌++◌, Some, None, Ok, Option, sym, refl, ap, ◌∙◌, append-nil}
use Rattle.avp.specs.declared.name.Name.TheVariants.{MonitoringKey, GrantedServiceUnit, UsageMonitoringLevel}
use Rattle.key.specs.declared.key.Key.{Key}
use Rattle.units.specs.declared.values.Level.{Level}
use Rattle.units.specs.declared.values.Units.{Units}
use Rattle.information.specs.declared.values.AnswerGroup.{AnswerGroup}
use Rattle.information.specs.declared.members.Members.{Members}
use Rattle.information.specs.Members.{begun}
use Rattle.information.specs.Answer.{read_answer_group, rules}
use Rattle.draft.specs.Octets.{written, key_avp, number_avp}
use Rattle.wire.specs.Octets.{units_avp, answer_data}
use Rattle.trip.specs.Own.{Octets, OwnAnswered, stopped, granted}
use Rattle.trip.specs.Laws.Parts.{left, right, data_of}
use Rattle.trip.specs.Laws.Undo.{same_ok, opened, ended_as}
use Rattle.trip.specs.Laws.MembersAgain.{key_undo, level_undo, units_undo}

abbrev so : ℕ → Option Key → Option Level → Option Units → Members
so at k l u = record { place = at; key = k; level = l; units = u }

pub answer_again : (at place : ℕ) {ds : List ℕ} → OwnAnswered ds → Octets ds → (g : AnswerGroup) → read_answer_group at (record { place = place; octets = ds }) ≡ Ok g → answer_data g ≡ ds
unfolding read_answer_group key_avp units_avp number_avp
answer_again at place (stopped k l) ok g e =
    let K : List ℕ = written MonitoringKey k in
    let L : List ℕ = written UsageMonitoringLevel l in
    let a = opened rules (begun at) (record { place = place; octets = K ++ L }) (K ++ (L ++ [])) g (ap (λ (z : List ℕ). K ++ z) (append-nil L)) e in
    let b = key_undo rules (begun at) place (L ++ []) (λ o. so at o None None) refl (λ ks. refl) (data_of MonitoringKey k (left K L ok)) a.1 in
    let d = level_undo rules (so at (Some b.0) None None) _ [] (λ m. so at (Some b.0) (Some m) None) refl refl (λ n. refl) (data_of UsageMonitoringLevel l (right K L ok)) b.2 in
    let w : record { place = at; key = b.0; level = d.0; granted = None } ≡ g = same_ok _ _ (ended_as rules (so at (Some b.0) (Some d.0) None) (record { place = place; octets = K ++ L }) _ d.2 a.2) in
    ap answer_data (sym w) ∙ (λ i. written MonitoringKey (b.1 i) ++ append-nil (written UsageMonitoringLevel (d.1 i)) i)
answer_again at place (granted k l {u} own) ok g e =
    let K : List ℕ = written MonitoringKey k in
    let L : List ℕ = written UsageMonitoringLevel l in
    let U : List ℕ = written GrantedServiceUnit u in
    let others = right K (L ++ U) ok in
    let a = opened rules (begun at) (record { place = place; octets = K ++ (L ++ U) }) (K ++ (L ++ (U ++ []))) g (ap (λ (z : List ℕ). K ++ (L ++ z)) (append-nil U)) e in
    let b = key_undo rules (begun at) place (L ++ (U ++ [])) (λ o. so at o None None) refl (λ ks. refl) (data_of MonitoringKey k (left K (L ++ U) ok)) a.1 in
    let d = level_undo rules (so at (Some b.0) None None) _ (U ++ []) (λ m. so at (Some b.0) (Some m) None) refl refl (λ n. refl) (data_of UsageMonitoringLevel l (left L U others)) b.2 in
    let c = units_undo rules (so at (Some b.0) (Some d.0) None) _ [] GrantedServiceUnit true (λ x. so at (Some b.0) (Some d.0) (Some x)) refl (λ ds. refl) (λ s. refl) own (data_of GrantedServiceUnit u (right L U others)) d.2 in
    let w : record { place = at; key = b.0; level = d.0; granted = Some c.0 } ≡ g = same_ok _ _ (ended_as rules (so at (Some b.0) (Some d.0) (Some c.0)) (record { place = place; octets = K ++ (L ++ U) }) _ c.2 a.2) in
    ap answer_data (sym w) ∙ (λ i. written MonitoringKey (b.1 i) ++ (written UsageMonitoringLevel (d.1 i) ++ written GrantedServiceUnit (c.1 i)))
