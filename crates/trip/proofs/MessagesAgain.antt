-- Messages in the writer's own form are written again exactly.
use Rattle.std.proofs.Common.{◌≡◌, ℕ, zero, suc, ◌≤◌, ltb, leb, List, [], ◌++◌, length, Some, None, Ok, Option, Result, sym, refl, ap, ◌∙◌, append_assoc, arith, flat_map}
use Rattle.std.proofs.lemmas.Bool.{and_parts, leb-true}
use Rattle.fault.specs.declared.Fault.{Fault}
use Rattle.avp.specs.declared.name.Name.TheVariants.{CcRequestNumber, CcRequestType}
use Rattle.avp.specs.Header.{Span}
use Rattle.group.specs.Members.{ended}
use Rattle.key.specs.declared.key.Key.{Key}
use Rattle.units.specs.Limits.{type_of, type_number}
use Rattle.information.specs.declared.values.CommandGroup.{CommandGroup}
use Rattle.information.specs.Report.{read_report_group}
use Rattle.information.specs.Answer.{read_answer_group}
use Rattle.information.specs.Command.{read_command_group}
use Rattle.message.specs.Keyed.{report_key, answer_key, command_key}
use Rattle.message.specs.Numbered as numbered
use Rattle.message.specs.Numbered.{Message, Partial}
use Rattle.message.specs.Commands as commands
use Rattle.draft.specs.Octets.{be32, written, number_avp}
use Rattle.wire.specs.Octets.{group_avp, numbered_octets, report_data, answer_data, command_data}
use Rattle.trip.specs.Own.{Octets, OwnOrdered, OwnNumbered, numbered, ReportAgain, AnswerAgain, CommandAgain}
use Rattle.trip.specs.Laws.Parts.{left, right, data_of}
use Rattle.trip.specs.Laws.Undo.{then_undo, cond_undo, opened}
use Rattle.trip.specs.Laws.MembersAgain.{number_undo}
use Rattle.trip.specs.Laws.ReportsAgain.{report_again}
use Rattle.trip.specs.Laws.GrantsAgain.{answer_again}
use Rattle.trip.specs.Laws.OrdersAgain.{command_again}
use Rattle.trip.proofs.GroupsAgain.{Again, all_again}
use Rattle.trip.proofs.Messages.{admits_by, orders_admit, then_ok, state}

type_again : (n : ℕ) → 2 ≤ n → n ≤ 3 → type_number (type_of n) ≡ n
type_again zero a b = absurd (omega arith)
type_again (suc zero) a b = absurd (omega arith)
type_again (suc (suc zero)) a b = refl
type_again (suc (suc (suc zero))) a b = refl
type_again (suc (suc (suc (suc n)))) a b = absurd (omega arith)

pub numbered_again : {V : Type 0} {P : List ℕ → Type 0} (reads : ℕ → Span → Result V Fault) (keyed : V → Option Key) (octets : V → List ℕ)
    → ((at place : ℕ) (ds : List ℕ) → P ds → Octets ds → (v : V) → reads at (record { place = place; octets = ds }) ≡ Ok v → octets v ≡ ds)
    → {bs : List ℕ} → Octets bs → OwnNumbered P bs → (m : Message V) → numbered.read_numbered reads keyed bs ≡ Ok m → numbered_octets octets m ≡ bs
unfolding number_avp
numbered_again {V} {P} reads keyed octets back ok (numbered n t {gs} own) m e =
    let N : List ℕ = written CcRequestNumber n in
    let T : List ℕ = written CcRequestType t in
    let others = right N (T ++ gs) ok in
    let a = opened (numbered.rules reads keyed) numbered.begun (record { place = 0; octets = N ++ (T ++ gs) }) (N ++ (T ++ gs)) m refl e in
    let b = number_undo (numbered.rules reads keyed) numbered.begun 0 (T ++ gs) CcRequestNumber (λ x. record { number = Some x; type = None; groups = [] }) refl (λ p. refl) (λ x. refl) (data_of CcRequestNumber n (left N (T ++ gs) ok)) a.1 in
    let c = number_undo (numbered.rules reads keyed) (record { number = Some b.0; type = None; groups = [] }) _ gs CcRequestType (λ y. state reads keyed b.0 (type_of y) []) refl (λ p. refl) (λ y. refl) (data_of CcRequestType t (left T gs others)) b.2 in
    let k : Again V (Partial V) (Message V) P = record {
      reads = reads;
      keyed = keyed;
      octets = octets;
      rules = numbered.rules reads keyed;
      state = state reads keyed b.0 (type_of c.0);
      again = back;
      admits = λ vs. admits_by (ltb 0 (length vs));
      puts = λ vs s at. refl;
    } in
    let d = all_again k own (right T gs others) [] _ a.0 c.2 in
    let w : record { number = b.0; type = type_of c.0; groups = d.0 } ≡ m = (cond_undo _ _ m _ (ap (ended (numbered.rules reads keyed) (record { place = 0; octets = N ++ (T ++ gs) })) (sym d.1) ∙ a.2)).1 in
    let bounds = and_parts (leb 2 c.0) (leb c.0 3) c.3 in
    ap (numbered_octets octets) (sym w)
    ∙ append_assoc (written CcRequestNumber (be32 b.0)) (written CcRequestType (be32 (type_number (type_of c.0)))) (flat_map (λ v. group_avp (octets v)) d.0)
    ∙ (λ i. written CcRequestNumber (b.1 i) ++ (written CcRequestType ((ap be32 (type_again c.0 (leb-true 2 c.0 bounds.0) (leb-true c.0 3 bounds.1)) ∙ c.1) i) ++ d.2 i))

pub reports_again : ReportAgain
reports_again bs ok own m e = numbered_again read_report_group report_key report_data (λ at place ds p o v h. report_again at place p o v h) ok own m e

pub answers_again : AnswerAgain
answers_again bs ok own m e = numbered_again read_answer_group answer_key answer_data (λ at place ds p o v h. answer_again at place p o v h) ok own m e

pub commands_again : CommandAgain
commands_again bs ok own vs e =
    let k : Again CommandGroup (List CommandGroup) (List CommandGroup) OwnOrdered = record {
      reads = read_command_group;
      keyed = command_key;
      octets = command_data;
      rules = commands.rules;
      state = λ ws. ws;
      again = λ at place ds own ok v h. command_again at place own ok v h;
      admits = λ ws. orders_admit (ltb 0 (length ws));
      puts = λ ws s at. then_ok _;
    } in
    let a = then_undo _ _ vs e in
    let d = all_again k own ok [] 0 a.0 a.1 in
    let w : a.0 ≡ vs = (cond_undo _ _ vs _ a.2).1 in
    ap (flat_map (λ v. group_avp (command_data v))) (sym w ∙ d.1) ∙ d.2
