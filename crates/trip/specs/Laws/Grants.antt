-- A group of an answer reads back.
use Rattle.std.proofs.Common.{◌≡◌, ℕ, true, List, [], ◌++◌, Some, None, Ok, Option, sym, refl, ap, ◌∙◌, append-nil}
use Rattle.std.proofs.lemmas.Bool.{and_parts}
use Rattle.avp.specs.declared.name.Name.TheVariants.{GrantedServiceUnit}
use Rattle.key.specs.declared.key.Key.{Key}
use Rattle.units.specs.declared.values.Level.{Level}
use Rattle.units.specs.declared.values.Units.{Units}
use Rattle.information.specs.declared.values.AnswerGroup.{AnswerGroup}
use Rattle.information.specs.declared.members.Members.{Members}
use Rattle.information.specs.Members.{begun}
use Rattle.information.specs.Answer.{read_answer_group, rules}
use Rattle.draft.specs.Octets.{key_avp, number_avp}
use Rattle.wire.specs.Octets.{units_avp, level_avp, terms_data, answer_data}
use Rattle.wire.specs.Sound.{sound_key, sound_granted, sound_answer}
use Rattle.trip.specs.Back.{answer_at}
use Rattle.trip.specs.Laws.Steps.{closed}
use Rattle.trip.specs.Laws.Members.{key_step, level_step, units_step}

abbrev so : ℕ → Option Key → Option Level → Option Units → Members
so at k l u = record { place = at; key = k; level = l; units = u }

back : (at place : ℕ) (k : Key) (l : Level) (o : Option Units) → sound_key k ≡ true → sound_granted o ≡ true → read_answer_group at (record { place = place; octets = key_avp k ++ terms_data l o }) ≡ Ok (record { place = at; key = k; level = l; granted = o })
unfolding read_answer_group key_avp units_avp number_avp
back at place k l None h g =
    closed rules (begun at) (so at (Some k) (Some l) None) _ _ _ _ refl
    (key_step rules (begun at) place _ (λ o. so at o None None) refl (λ ks. refl) k h
    ∙ level_step rules (so at (Some k) None None) _ [] (λ m. so at (Some k) (Some m) None) refl refl (λ n. refl) l)
    refl
back at place k l (Some u) h g =
    closed rules (begun at) (so at (Some k) (Some l) (Some u)) _ _ _ _
    (ap (λ (z : List ℕ). key_avp k ++ (level_avp l ++ z)) (sym (append-nil (units_avp GrantedServiceUnit u))))
    (key_step rules (begun at) place _ (λ o. so at o None None) refl (λ ks. refl) k h
    ∙ level_step rules (so at (Some k) None None) _ _ (λ m. so at (Some k) (Some m) None) refl refl (λ n. refl) l
    ∙ units_step rules (so at (Some k) (Some l) None) _ [] GrantedServiceUnit true (λ x. so at (Some k) (Some l) (Some x)) refl (λ s. refl) u refl g)
    refl

pub answer_back : (at place : ℕ) (g : AnswerGroup) → sound_answer g ≡ true → read_answer_group at (record { place = place; octets = answer_data g }) ≡ Ok (answer_at at g)
answer_back at place g h =
    let parts = and_parts (sound_key g.key) (sound_granted g.granted) h in
    back at place g.key g.level g.granted parts.0 parts.1
