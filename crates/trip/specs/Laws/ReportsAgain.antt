-- A group of a report in the writer's own form is written again exactly.
use Rattle.std.proofs.Common.{◌≡◌, ℕ, false, List, [], ◌++◌, Some, None, Ok, Option, sym, refl, ap, ◌∙◌, append-nil}
use Rattle.avp.specs.declared.name.Name.TheVariants.{MonitoringKey, UsedServiceUnit, UsageMonitoringLevel}
use Rattle.key.specs.declared.key.Key.{Key}
use Rattle.units.specs.declared.values.Level.{Level}
use Rattle.units.specs.declared.values.Units.{Units}
use Rattle.information.specs.declared.values.ReportGroup.{ReportGroup}
use Rattle.information.specs.declared.members.Members.{Members}
use Rattle.information.specs.Members.{begun}
use Rattle.information.specs.Report.{read_report_group, rules}
use Rattle.draft.specs.Octets.{written, key_avp, number_avp}
use Rattle.wire.specs.Octets.{units_avp, report_data}
use Rattle.trip.specs.Own.{Octets, OwnReported, reported}
use Rattle.trip.specs.Laws.Parts.{left, right, data_of}
use Rattle.trip.specs.Laws.Undo.{same_ok, opened, ended_as}
use Rattle.trip.specs.Laws.MembersAgain.{key_undo, level_undo, units_undo}

abbrev so : ℕ → Option Key → Option Units → Option Level → Members
so at k u l = record { place = at; key = k; level = l; units = u }

pub report_again : (at place : ℕ) {ds : List ℕ} → OwnReported ds → Octets ds → (g : ReportGroup) → read_report_group at (record { place = place; octets = ds }) ≡ Ok g → report_data g ≡ ds
unfolding read_report_group key_avp units_avp number_avp
report_again at place (reported k l {u} own) ok g e =
    let K : List ℕ = written MonitoringKey k in
    let U : List ℕ = written UsedServiceUnit u in
    let L : List ℕ = written UsageMonitoringLevel l in
    let others = right K (U ++ L) ok in
    let a = opened rules (begun at) (record { place = place; octets = K ++ (U ++ L) }) (K ++ (U ++ (L ++ []))) g (ap (λ (z : List ℕ). K ++ (U ++ z)) (append-nil L)) e in
    let b = key_undo rules (begun at) place (U ++ (L ++ [])) (λ o. so at o None None) refl (λ ks. refl) (data_of MonitoringKey k (left K (U ++ L) ok)) a.1 in
    let c = units_undo rules (so at (Some b.0) None None) _ (L ++ []) UsedServiceUnit false (λ x. so at (Some b.0) (Some x) None) refl (λ ds. refl) (λ s. refl) own (data_of UsedServiceUnit u (left U L others)) b.2 in
    let d = level_undo rules (so at (Some b.0) (Some c.0) None) _ [] (λ m. so at (Some b.0) (Some c.0) (Some m)) refl refl (λ n. refl) (data_of UsageMonitoringLevel l (right U L others)) c.2 in
    let w : record { place = at; key = b.0; level = d.0; used = c.0 } ≡ g = same_ok _ _ (ended_as rules (so at (Some b.0) (Some c.0) (Some d.0)) (record { place = place; octets = K ++ (U ++ L) }) _ d.2 a.2) in
    ap report_data (sym w) ∙ (λ i. written MonitoringKey (b.1 i) ++ (written UsedServiceUnit (c.1 i) ++ written UsageMonitoringLevel (d.1 i)))
