-- What a writer wrote reads back as the value that was meant.
use Rattle.std.specs.Prelude.{◌≡◌, ℕ, ◌+◌, ◌≤◌, List, [], ◌∷◌, length, None, Ok}
use Rattle.information.specs.declared.values.ReportGroup.{ReportGroup}
use Rattle.information.specs.declared.values.AnswerGroup.{AnswerGroup}
use Rattle.information.specs.declared.values.CommandGroup.{CommandGroup}
use Rattle.message.specs.Numbered.{Message, read_report, read_answer}
use Rattle.message.specs.Commands.{read_command}
use Rattle.wire.specs.Octets.{answer_data, answer_octets, command_data, command_octets, group_avp, report_data, report_octets}
use Rattle.wire.specs.Sound.{answer_fault, command_fault, report_fault}

-- a group at the place where it starts
abbrev pub report_at : ℕ → ReportGroup → ReportGroup
report_at at g = record { place = at; key = g.key; level = g.level; used = g.used }

abbrev pub answer_at : ℕ → AnswerGroup → AnswerGroup
answer_at at g = record { place = at; key = g.key; level = g.level; granted = g.granted }

abbrev pub command_at : ℕ → CommandGroup → CommandGroup
command_at at g = record { place = at; order = g.order }

-- groups one after the other, the first at a place
abbrev pub placed : {V : Type 0} → (ℕ → V → V) → (V → List ℕ) → ℕ → List V → List V
placed moved octets at [] = []
placed moved octets at (v ∷ vs) = moved at v ∷ placed moved octets (at + length (group_avp (octets v))) vs

-- a report or an answer has its first group at 24, behind the number and the type
abbrev pub located : {V : Type 0} → (ℕ → V → V) → (V → List ℕ) → Message V → Message V
located moved octets m = record { number = m.number; type = m.type; groups = placed moved octets 24 m.groups }

abbrev pub ReportBack : Type 0
ReportBack = (m : Message ReportGroup) → length m.groups ≤ 16 → report_fault m ≡ None → read_report (report_octets m) ≡ Ok (located report_at report_data m)

abbrev pub AnswerBack : Type 0
AnswerBack = (m : Message AnswerGroup) → length m.groups ≤ 16 → answer_fault m ≡ None → read_answer (answer_octets m) ≡ Ok (located answer_at answer_data m)

abbrev pub CommandBack : Type 0
CommandBack = (vs : List CommandGroup) → length vs ≤ 16 → command_fault vs ≡ None → read_command (command_octets vs) ≡ Ok (placed command_at command_data 0 vs)
