-- A group of a command reads back.
use Rattle.std.proofs.Common.{◌≡◌, ℕ, Bool, true, false, List, [], ◌++◌, Some, None, Ok, Option, sym, refl, ap, ◌∙◌, append-nil, arith}
use Rattle.std.proofs.lemmas.Bool.{and_parts}
use Rattle.avp.specs.declared.name.Name.TheVariants.{GrantedServiceUnit, UsageMonitoringReport, UsageMonitoringSupport}
use Rattle.key.specs.declared.key.Key.{Key}
use Rattle.units.specs.declared.values.Level.{Level}
use Rattle.units.specs.declared.values.Units.{Units}
use Rattle.units.specs.Units.{read_units}
use Rattle.information.specs.declared.values.CommandGroup.{CommandGroup}
use Rattle.information.specs.declared.values.Order.{Order}
use Rattle.information.specs.declared.values.Order.TheVariants.{Grant, Disable, Request}
use Rattle.information.specs.declared.values.CommandGroupSoFar.{CommandGroupSoFar}
use Rattle.information.specs.Command.{begun, read_command_group, rules}
use Rattle.draft.specs.Octets.{key_avp, number_avp}
use Rattle.wire.specs.Octets.{units_avp, level_avp, order_data, command_data}
use Rattle.wire.specs.Sound.{sound_key, sound_units, sound_order, sound_command}
use Rattle.trip.specs.Back.{command_at}
use Rattle.trip.specs.Laws.Steps.{closed, then_made}
use Rattle.trip.specs.Laws.Members.{key_step, level_step, number_step, units_step}

abbrev so : ℕ → Option Key → Option Level → Option Units → Bool → Bool → CommandGroupSoFar
so at k l u report support = record { members = record { place = at; key = k; level = l; units = u }; report = report; support = support }

back : (at place : ℕ) (o : Order) → sound_order o ≡ true → read_command_group at (record { place = place; octets = order_data o }) ≡ Ok (record { place = at; order = o })
unfolding read_command_group key_avp units_avp number_avp
back at place (Grant k l u) h =
    let parts = and_parts (sound_key k) (sound_units true u) h in
    closed rules (begun at) (so at (Some k) (Some l) (Some u) false false) _ _ _ _
    (ap (λ (z : List ℕ). key_avp k ++ (units_avp GrantedServiceUnit u ++ z)) (sym (append-nil (level_avp l))))
    (key_step rules (begun at) place _ (λ o. so at o None None false false) refl (λ ks. refl) k parts.0
    ∙ units_step rules (so at (Some k) None None false false) _ _ GrantedServiceUnit true (λ x. so at (Some k) None (Some x) false false) refl
    (λ s. then_made (read_units true s) (λ x. record { place = at; key = Some k; level = None; units = Some x }) (λ m. record { members = m; report = false; support = false }))
    u refl parts.1
    ∙ level_step rules (so at (Some k) None (Some u) false false) _ [] (λ m. so at (Some k) (Some m) (Some u) false false) refl refl (λ n. refl) l)
    refl
back at place (Disable k) h =
    closed rules (begun at) (so at (Some k) None None false true) _ _ _ _
    (ap (λ (z : List ℕ). key_avp k ++ z) (sym (append-nil (number_avp UsageMonitoringSupport 0))))
    (key_step rules (begun at) place _ (λ o. so at o None None false false) refl (λ ks. refl) k h ∙ number_step rules (so at (Some k) None None false false) _ [] UsageMonitoringSupport (λ n. so at (Some k) None None false true) refl (λ a. refl) (λ n. refl) 0 (omega arith) refl)
    refl
back at place (Request None) h =
    closed rules (begun at) (so at None None None true false) _ _ _ _
    (sym (append-nil (number_avp UsageMonitoringReport 0)))
    (number_step rules (begun at) place [] UsageMonitoringReport (λ n. so at None None None true false) refl (λ a. refl) (λ n. refl) 0 (omega arith) refl)
    refl
back at place (Request (Some k)) h =
    closed rules (begun at) (so at (Some k) None None true false) _ _ _ _
    (ap (λ (z : List ℕ). number_avp UsageMonitoringReport 0 ++ z) (sym (append-nil (key_avp k))))
    (number_step rules (begun at) place _ UsageMonitoringReport (λ n. so at None None None true false) refl (λ a. refl) (λ n. refl) 0 (omega arith) refl
    ∙ key_step rules (so at None None None true false) _ [] (λ o. so at o None None true false) refl (λ ks. refl) k h)
    refl

pub command_back : (at place : ℕ) (g : CommandGroup) → sound_command g ≡ true → read_command_group at (record { place = place; octets = command_data g }) ≡ Ok (command_at at g)
command_back at place g h = back at place g.order h
