-- A group of a report reads back.
use Rattle.std.proofs.Common.{◌≡◌, ℕ, true, false, List, [], ◌++◌, Some, None, Ok, Option, sym, refl, ap, ◌∙◌, append-nil}
use Rattle.std.proofs.lemmas.Bool.{and_parts}
use Rattle.avp.specs.declared.name.Name.TheVariants.{UsedServiceUnit}
use Rattle.key.specs.declared.key.Key.{Key}
use Rattle.units.specs.declared.values.Level.{Level}
use Rattle.units.specs.declared.values.Units.{Units}
use Rattle.information.specs.declared.values.ReportGroup.{ReportGroup}
use Rattle.information.specs.declared.members.Members.{Members}
use Rattle.information.specs.Members.{begun}
use Rattle.information.specs.Report.{read_report_group, rules}
use Rattle.draft.specs.Octets.{key_avp, number_avp}
use Rattle.wire.specs.Octets.{units_avp, level_avp, report_data}
use Rattle.wire.specs.Sound.{sound_key, sound_units, sound_report}
use Rattle.trip.specs.Back.{report_at}
use Rattle.trip.specs.Laws.Steps.{closed}
use Rattle.trip.specs.Laws.Members.{key_step, level_step, units_step}

abbrev so : ℕ → Option Key → Option Units → Option Level → Members
so at k u l = record { place = at; key = k; level = l; units = u }

pub report_back : (at place : ℕ) (g : ReportGroup) → sound_report g ≡ true → read_report_group at (record { place = place; octets = report_data g }) ≡ Ok (report_at at g)
unfolding read_report_group key_avp units_avp number_avp
report_back at place g h =
    let parts = and_parts (sound_key g.key) (sound_units false g.used) h in
    closed rules (begun at) (so at (Some g.key) (Some g.used) (Some g.level)) _ _ _ (report_at at g)
    (ap (λ (l : List ℕ). key_avp g.key ++ (units_avp UsedServiceUnit g.used ++ l)) (sym (append-nil (level_avp g.level))))
    (key_step rules (begun at) place _ (λ k. so at k None None) refl (λ ks. refl) g.key parts.0
    ∙ units_step rules (so at (Some g.key) None None) _ _ UsedServiceUnit false (λ u. so at (Some g.key) (Some u) None) refl (λ s. refl) g.used refl parts.1
    ∙ level_step rules (so at (Some g.key) (Some g.used) None) _ [] (λ l. so at (Some g.key) (Some g.used) (Some l)) refl refl (λ n. refl) g.level)
    refl
