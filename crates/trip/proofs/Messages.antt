-- Whole messages read back.
use Rattle.std.proofs.Common.{◌≡◌, ℕ, ◌^◌, ◌<◌, ◌≤◌, Bool, true, false, cond, ◌&&◌, ltb, leb, List, [], ◌++◌, length, Some, None, Ok, Err, Option, Result, refl, ap, ◌∙◌, append_assoc, arith, flat_map}
use Rattle.std.specs.List.{list_all}
use Rattle.std.proofs.lemmas.Bool.{and_parts, cond-true, leb-true}
use Rattle.fault.specs.declared.Fault.{Fault}
use Rattle.avp.specs.declared.name.Name.{Name}
use Rattle.avp.specs.declared.name.Name.TheVariants.{CcRequestNumber, CcRequestType, UsageMonitoringInformation}
use Rattle.avp.specs.Header.{Span}
use Rattle.avp.specs.Names.{is}
use Rattle.avp.specs.Fields.{allows}
use Rattle.group.specs.Walk.{then, avps, gather}
use Rattle.group.specs.Shapes as shape
use Rattle.group.specs.Members.{member, ended}
use Rattle.key.specs.declared.key.Key.{Key}
use Rattle.units.specs.declared.values.RequestType.{RequestType}
use Rattle.units.specs.declared.values.RequestType.TheVariants as type
use Rattle.units.specs.Limits.{limits_of, type_number, type_of}
use Rattle.information.specs.declared.values.CommandGroup.{CommandGroup}
use Rattle.information.specs.Report.{read_report_group}
use Rattle.information.specs.Answer.{read_answer_group}
use Rattle.information.specs.Command.{read_command_group}
use Rattle.message.specs.Keyed.{report_key, answer_key, command_key}
use Rattle.message.specs.Numbered as numbered
use Rattle.message.specs.Numbered.{Message, Partial}
use Rattle.message.specs.Commands as commands
use Rattle.draft.specs.Octets.{be32, written, number_avp}
use Rattle.wire.specs.Octets.{group_avp, numbered_octets, command_octets, report_data, answer_data, command_data}
use Rattle.wire.specs.Sound.{distinct, fault_of, sound_report, sound_answer, sound_command}
use Rattle.trip.specs.Back.{report_at, answer_at, command_at, placed, located, ReportBack, AnswerBack, CommandBack}
use Rattle.trip.specs.Laws.Shorts.{report_short, answer_short, command_short}
use Rattle.trip.specs.Laws.Members.{number_step}
use Rattle.trip.specs.Laws.Reports.{report_back}
use Rattle.trip.specs.Laws.Grants.{answer_back}
use Rattle.trip.specs.Laws.Orders.{command_back}
use Rattle.trip.proofs.Groups.{Kind, all_back}

unfaulty : (a b : Bool) → fault_of a b ≡ None → (a ≡ true) × (b ≡ true)
unfaulty true true e = (refl, refl)
unfaulty true false e = let z : ◌≡◌ {A = ℕ} 0 1 = cc in absurd (omega arith)
unfaulty false b e = let z : ◌≡◌ {A = ℕ} 0 1 = cc in absurd (omega arith)

-- what a report or an answer holds, once it has a number and a type, and groups or none
abbrev pub holding : Bool → Name → Bool
holding some n = cond (is n CcRequestNumber) true (cond (is n CcRequestType) true (cond (is n UsageMonitoringInformation) some false))

pub admits_by : (some : Bool) → shape.admits numbered.shapes (holding some) UsageMonitoringInformation ≡ true
admits_by true = refl
admits_by false = refl

pub complete_by : (some : Bool) → shape.complete numbered.shapes (holding some) ≡ true
complete_by true = refl
complete_by false = refl

type_back : (t : RequestType) → type_of (type_number t) ≡ t
type_back type.Update = refl
type_back type.Termination = refl

type_allowed : (t : RequestType) → allows (limits_of false CcRequestType) (type_number t) ≡ true
type_allowed type.Update = refl
type_allowed type.Termination = refl

small_type : (t : RequestType) → type_number t < 2 ^ 32
small_type type.Update = omega arith
small_type type.Termination = omega arith

module _ {V : Type 0} (reads : ℕ → Span → Result V Fault) (keyed : V → Option Key) (number : ℕ) (t : RequestType) where
  abbrev pub state : List V → Partial V
  state vs = record { number = Some number; type = Some t; groups = vs }

  -- the number and the type, and then the groups
  opens : (rest : List ℕ) → allows (limits_of false CcRequestNumber) number ≡ true → gather (member (numbered.rules reads keyed)) numbered.begun (avps (record { place = 0; octets = written CcRequestNumber (be32 number) ++ (written CcRequestType (be32 (type_number t)) ++ rest) })) ≡ gather (member (numbered.rules reads keyed)) (state []) (avps (record { place = 24; octets = rest }))
  opens rest h =
      let small : number < 2 ^ 32 = omega (arith, leb-true number 1048575 (and_parts (leb 1 number) (leb number 1048575) h).1) in
      number_step (numbered.rules reads keyed) numbered.begun 0 _ CcRequestNumber (λ x. record { number = Some x; type = None; groups = [] }) refl (λ a. refl) (λ x. refl) number small h
      ∙ number_step (numbered.rules reads keyed) (record { number = Some number; type = None; groups = [] }) 12 rest CcRequestType (λ x. record { number = Some number; type = Some (type_of x); groups = [] }) refl (λ a. refl) (λ x. refl) (type_number t) (small_type t) (type_allowed t)
      ∙ ap (λ y. gather (member (numbered.rules reads keyed)) (record { number = Some number; type = Some y; groups = [] }) (avps (record { place = 24; octets = rest }))) (type_back t)

pub numbered_back : {V : Type 0} (reads : ℕ → Span → Result V Fault) (keyed : V → Option Key) (moved : ℕ → V → V) (octets : V → List ℕ) (sound : V → Bool) (m : Message V)
    → ((at place : ℕ) (v : V) → sound v ≡ true → reads at (record { place = place; octets = octets v }) ≡ Ok (moved at v))
    → ((at : ℕ) (v : V) → keyed (moved at v) ≡ keyed v)
    → ((v : V) → sound v ≡ true → length (octets v) < 65536)
    → length m.groups ≤ 16
    → fault_of (allows (limits_of false CcRequestNumber) m.number && list_all sound m.groups) (distinct keyed m.groups) ≡ None
    → numbered.read_numbered reads keyed (numbered_octets octets m) ≡ Ok (located moved octets m)
unfolding number_avp
numbered_back {V} reads keyed moved octets sound m back key_moved short few fine =
    let a = unfaulty (allows (limits_of false CcRequestNumber) m.number && list_all sound m.groups) (distinct keyed m.groups) fine in
    let b = and_parts (allows (limits_of false CcRequestNumber) m.number) (list_all sound m.groups) a.0 in
    let k : Kind V (Partial V) (Message V) = record {
      reads = reads;
      keyed = keyed;
      moved = moved;
      octets = octets;
      sound = sound;
      rules = numbered.rules reads keyed;
      state = state reads keyed m.number m.type;
      back = back;
      key_moved = key_moved;
      short = short;
      admits = λ vs. admits_by (ltb 0 (length vs));
      puts = λ vs s at. refl;
    } in
    let gs : List V = placed moved octets 24 m.groups in
    let bs : List ℕ = numbered_octets octets m in
    ap (λ (l : List ℕ). then (gather (member (numbered.rules reads keyed)) numbered.begun (avps (record { place = 0; octets = l }))) (ended (numbered.rules reads keyed) (record { place = 0; octets = bs }))) (append_assoc (number_avp CcRequestNumber m.number) (number_avp CcRequestType (type_number m.type)) (flat_map (λ v. group_avp (octets v)) m.groups))
    ∙ ap (λ r. then r (ended (numbered.rules reads keyed) (record { place = 0; octets = bs })))
    (opens reads keyed m.number m.type _ b.0 ∙ all_back k m.groups [] [] 24 b.1 (λ key. refl) a.1 (omega arith))
    ∙ cond-true _ _ _ (complete_by (ltb 0 (length gs)))

pub reports : ReportBack
reports m few fine = numbered_back read_report_group report_key report_at report_data sound_report m report_back (λ at g. refl) report_short few fine

pub answers : AnswerBack
answers m few fine = numbered_back read_answer_group answer_key answer_at answer_data sound_answer m answer_back (λ at g. refl) answer_short few fine

-- a command holds groups alone
abbrev pub ordering : Bool → Name → Bool
ordering some n = cond (is n UsageMonitoringInformation) some false

pub orders_admit : (some : Bool) → shape.admits commands.shapes (ordering some) UsageMonitoringInformation ≡ true
orders_admit true = refl
orders_admit false = refl

pub orders_complete : (some : Bool) → shape.complete commands.shapes (ordering some) ≡ true
orders_complete true = refl
orders_complete false = refl

pub then_ok : {X : Type 0} (r : Result X Fault) → r ≡ then r (λ x. Ok x)
then_ok (Ok x) = refl
then_ok (Err f) = refl

pub commands_back : CommandBack
commands_back vs few fine =
    let a = unfaulty (list_all sound_command vs) (distinct command_key vs) fine in
    let k : Kind CommandGroup (List CommandGroup) (List CommandGroup) = record {
      reads = read_command_group;
      keyed = command_key;
      moved = command_at;
      octets = command_data;
      sound = sound_command;
      rules = commands.rules;
      state = λ ws. ws;
      back = command_back;
      key_moved = λ at g. refl;
      short = command_short;
      admits = λ ws. orders_admit (ltb 0 (length ws));
      puts = λ ws s at. then_ok _;
    } in
    ap (λ r. then r (ended commands.rules (record { place = 0; octets = command_octets vs }))) (all_back k vs [] [] 0 a.0 (λ key. refl) a.1 (omega arith))
    ∙ cond-true _ _ _ (orders_complete (ltb 0 (length (placed command_at command_data 0 vs))))
