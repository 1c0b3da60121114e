-- The faults of a Usage-Monitoring-Information lie within the message.
use Rattle.std.proofs.Common.{ℕ, ◌≤◌, Bool, true, false}
use Rattle.avp.specs.declared.name.Name.{Name}
use Rattle.avp.specs.declared.name.Name.TheVariants.{MonitoringKey, UsageMonitoringLevel, UsageMonitoringReport, UsageMonitoringSupport}
use Rattle.avp.specs.Header.{Span}
use Rattle.avp.specs.Names.{is}
use Rattle.avp.specs.Fields.{Value, Number, Key, Group}
use Rattle.group.proofs.Within.{Inside, SpanIn, ValueIn, fine, fine_cond, fine_then, read_in}
use Rattle.units.specs.Units.{read_units}
use Rattle.units.proofs.Within.{units_in}
use Rattle.information.specs.declared.members.Members.{Members}
use Rattle.information.specs.declared.values.CommandGroupSoFar.{CommandGroupSoFar}
use Rattle.information.specs.Members.{begun, puts, unit_group}
use Rattle.information.specs.Report as report
use Rattle.information.specs.Answer as answer
use Rattle.information.specs.Command as command

members_put : (size : ℕ) (granted : Bool) (m : Members) (n : Name) (v : Value) → ValueIn size v → Inside size (puts granted m n v)
members_put size granted m n (Number x) k = fine_cond (is n UsageMonitoringLevel) _ _ (fine tt) (fine tt)
members_put size granted m n (Key ks) k = fine_cond (is n MonitoringKey) _ _ (fine tt) (fine tt)
members_put size granted m n (Group s) k = fine_cond (is n (unit_group granted)) _ _ (fine_then (read_units granted s) _ (units_in size granted s k) (λ u _. fine tt)) (fine tt)

pub report_in : (size at : ℕ) (s : Span) → SpanIn size s → Inside size (report.read_report_group at s)
unfolding report.read_report_group
report_in size at s h = read_in size report.rules (λ m n v place _ k. members_put size false m n v k) (begun at) s h

pub answer_in : (size at : ℕ) (s : Span) → SpanIn size s → Inside size (answer.read_answer_group at s)
unfolding answer.read_answer_group
answer_in size at s h = read_in size answer.rules (λ m n v place _ k. members_put size true m n v k) (begun at) s h

command_puts : (size : ℕ) (g : CommandGroupSoFar) (n : Name) (v : Value) (at : ℕ) → at ≤ size → ValueIn size v → Inside size (command.puts g n v at)
command_puts size g n (Number x) at h k =
    fine_cond (is n UsageMonitoringReport) _ _ (fine tt)
    (fine_cond (is n UsageMonitoringSupport) _ _ (fine tt)
    (fine_then (puts true g.members n (Number x)) _ (members_put size true g.members n (Number x) k) (λ m _. fine tt)))
command_puts size g n (Key ks) at h k = fine_then (puts true g.members n (Key ks)) _ (members_put size true g.members n (Key ks) k) (λ m _. fine tt)
command_puts size g n (Group s) at h k = fine_then (puts true g.members n (Group s)) _ (members_put size true g.members n (Group s) k) (λ m _. fine tt)

pub command_in : (size at : ℕ) (s : Span) → SpanIn size s → Inside size (command.read_command_group at s)
unfolding command.read_command_group
command_in size at s h = read_in size command.rules (command_puts size) (command.begun at) s h
