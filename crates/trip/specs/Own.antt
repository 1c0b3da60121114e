-- Octets in the writer's own form: known AVPs alone, in the writer's order, with its flags and with padding of zeros.
-- What a number or a key holds is left open; whether it is sound is the reader's question.
use Rattle.std.specs.Prelude.{◌≡◌, ℕ, ◌<◌, List, [], ◌++◌, length, Ok, slice_index}
use Rattle.avp.specs.declared.name.Name.TheVariants.{CcRequestNumber, CcRequestType, CcInputOctets, CcOutputOctets, CcTotalOctets, GrantedServiceUnit, UsedServiceUnit, MonitoringKey, UsageMonitoringInformation, UsageMonitoringLevel, UsageMonitoringReport, UsageMonitoringSupport}
use Rattle.information.specs.declared.values.ReportGroup.{ReportGroup}
use Rattle.information.specs.declared.values.AnswerGroup.{AnswerGroup}
use Rattle.information.specs.declared.values.CommandGroup.{CommandGroup}
use Rattle.message.specs.Numbered.{Message, read_report, read_answer}
use Rattle.message.specs.Commands.{read_command}
use Rattle.draft.specs.Octets.{written}
use Rattle.wire.specs.Octets.{answer_octets, command_octets, report_octets}

pub data OwnUnits : List ℕ → Type 0 where
  total : (x : List ℕ) → OwnUnits (written CcTotalOctets x)
  uplink : (x : List ℕ) → OwnUnits (written CcInputOctets x)
  downlink : (x : List ℕ) → OwnUnits (written CcOutputOctets x)
  both : (x y : List ℕ) → OwnUnits (written CcInputOctets x ++ written CcOutputOctets y)

-- the data of a Usage-Monitoring-Information
pub data OwnReported : List ℕ → Type 0 where
  reported : (k l : List ℕ) {u : List ℕ} → OwnUnits u → OwnReported (written MonitoringKey k ++ (written UsedServiceUnit u ++ written UsageMonitoringLevel l))

pub data OwnAnswered : List ℕ → Type 0 where
  stopped : (k l : List ℕ) → OwnAnswered (written MonitoringKey k ++ written UsageMonitoringLevel l)
  granted : (k l : List ℕ) {u : List ℕ} → OwnUnits u → OwnAnswered (written MonitoringKey k ++ (written UsageMonitoringLevel l ++ written GrantedServiceUnit u))

pub data OwnOrdered : List ℕ → Type 0 where
  grants : (k l : List ℕ) {u : List ℕ} → OwnUnits u → OwnOrdered (written MonitoringKey k ++ (written GrantedServiceUnit u ++ written UsageMonitoringLevel l))
  disables : (k x : List ℕ) → OwnOrdered (written MonitoringKey k ++ written UsageMonitoringSupport x)
  requests : (x : List ℕ) → OwnOrdered (written UsageMonitoringReport x)
  requests_key : (x k : List ℕ) → OwnOrdered (written UsageMonitoringReport x ++ written MonitoringKey k)

-- groups one after the other
pub data OwnGroups (P : List ℕ → Type 0) : List ℕ → Type 0 where
  none : OwnGroups P []
  more : {g rest : List ℕ} → P g → OwnGroups P rest → OwnGroups P (written UsageMonitoringInformation g ++ rest)

-- a report or an answer
pub data OwnNumbered (P : List ℕ → Type 0) : List ℕ → Type 0 where
  numbered : (n t : List ℕ) {gs : List ℕ} → OwnGroups P gs → OwnNumbered P (written CcRequestNumber n ++ (written CcRequestType t ++ gs))

-- octets, and no more of them than any length field can say
pub record Octets (bs : List ℕ) : Type 0 where
  pub small : (i : ℕ) → slice_index bs i < 256
  pub short : length bs < 65536

abbrev pub ReportAgain : Type 0
ReportAgain = (bs : List ℕ) → Octets bs → OwnNumbered OwnReported bs → (m : Message ReportGroup) → read_report bs ≡ Ok m → report_octets m ≡ bs

abbrev pub AnswerAgain : Type 0
AnswerAgain = (bs : List ℕ) → Octets bs → OwnNumbered OwnAnswered bs → (m : Message AnswerGroup) → read_answer bs ≡ Ok m → answer_octets m ≡ bs

abbrev pub CommandAgain : Type 0
CommandAgain = (bs : List ℕ) → Octets bs → OwnGroups OwnOrdered bs → (vs : List CommandGroup) → read_command bs ≡ Ok vs → command_octets vs ≡ bs
