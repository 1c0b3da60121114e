-- The faults of a message lie within it.
use Rattle.std.proofs.Common.{ℕ, ◌≤◌, ltb, List, [], length, Option, Result, arith, lit≤}
use Rattle.fault.specs.declared.Code.TheVariants.{RepeatedKey, TooMany}
use Rattle.fault.specs.declared.Fault.{Fault}
use Rattle.avp.specs.declared.name.Name.{Name}
use Rattle.avp.specs.declared.name.Name.TheVariants.{CcRequestNumber, CcRequestType, UsageMonitoringInformation}
use Rattle.avp.specs.Header.{Span}
use Rattle.avp.specs.Names.{is}
use Rattle.avp.specs.Fields as field
use Rattle.group.specs.Walk.{then}
use Rattle.group.proofs.Within.{Inside, SpanIn, ValueIn, fine, fine_cond, fine_then, fine_meaning, refused, read_in}
use Rattle.key.specs.declared.key.Key.{Key}
use Rattle.information.specs.declared.values.CommandGroup.{CommandGroup}
use Rattle.information.specs.Report.{read_report_group}
use Rattle.information.specs.Answer.{read_answer_group}
use Rattle.information.specs.Command.{read_command_group}
use Rattle.information.proofs.Within.{report_in, answer_in, command_in}
use Rattle.message.specs.declared.values.Kind.{Kind}
use Rattle.message.specs.declared.values.Kind.TheVariants.{Report, Answer, Command}
use Rattle.message.specs.Keyed.{has_key, added, report_key, answer_key, command_key}
use Rattle.message.specs.Numbered as numbered
use Rattle.message.specs.Commands as commands
use Rattle.message.specs.Check.{verdict_of}

added_in : {V : Type 0} (size : ℕ) (keyed : V → Option Key) (vs : List V) (at : ℕ) (v : V) → at ≤ size → Inside size (added keyed vs at v)
added_in size keyed vs at v h =
    fine_cond (has_key keyed (keyed v) vs) _ _ (refused size RepeatedKey at (lit≤ tt) (lit≤ tt) h)
    (fine_cond (ltb (length vs) 16) _ _ (fine tt) (refused size TooMany at (lit≤ tt) (lit≤ tt) h))

module _ {V : Type 0} (size : ℕ) (reads : ℕ → Span → Result V Fault) (keyed : V → Option Key) (reads_in : (at : ℕ) (s : Span) → SpanIn size s → Inside size (reads at s)) where
  group_in : (vs : List V) (at : ℕ) (s : Span) → at ≤ size → SpanIn size s → Inside size (then (reads at s) (added keyed vs at))
  group_in vs at s h k = fine_then (reads at s) _ (reads_in at s k) (λ v _. added_in size keyed vs at v h)

  numbered_puts : (m : numbered.Partial V) (n : Name) (v : field.Value) (at : ℕ) → at ≤ size → ValueIn size v → Inside size (numbered.puts reads keyed m n v at)
  numbered_puts m n (field.Number x) at h k = fine_cond (is n CcRequestNumber) _ _ (fine tt) (fine_cond (is n CcRequestType) _ _ (fine tt) (fine tt))
  numbered_puts m n (field.Key ks) at h k = fine tt
  numbered_puts m n (field.Group s) at h k =
      fine_cond (is n UsageMonitoringInformation) _ _
      (fine_then (then (reads at s) (added keyed m.groups at)) _ (group_in m.groups at s h k) (λ vs _. fine tt))
      (fine tt)

  numbered_in : (bs : List ℕ) → length bs ≤ size → Inside size (numbered.read_numbered reads keyed bs)
  numbered_in bs h = read_in size (numbered.rules reads keyed) numbered_puts numbered.begun (record { place = 0; octets = bs }) (omega arith)

command_puts : (size : ℕ) (vs : List CommandGroup) (n : Name) (v : field.Value) (at : ℕ) → at ≤ size → ValueIn size v → Inside size (commands.puts vs n v at)
command_puts size vs n (field.Number x) at h k = fine tt
command_puts size vs n (field.Key ks) at h k = fine tt
command_puts size vs n (field.Group s) at h k =
    fine_cond (is n UsageMonitoringInformation) _ _ (group_in size read_command_group command_key (command_in size) vs at s h k) (fine tt)

-- each refusal of a message is a fault in it
pub verdict_in : (k : Kind) (bs : List ℕ) → Inside (length bs) (verdict_of k bs)
verdict_in Report bs = fine_meaning _ _ (numbered_in (length bs) read_report_group report_key (report_in (length bs)) bs (omega arith))
verdict_in Answer bs = fine_meaning _ _ (numbered_in (length bs) read_answer_group answer_key (answer_in (length bs)) bs (omega arith))
verdict_in Command bs = fine_meaning _ _ (read_in (length bs) commands.rules (command_puts (length bs)) [] (record { place = 0; octets = bs }) (omega arith))
