-- Runs: every list of the ten calls, on both ends and the link between them.
use Rattle.std.specs.Prelude.{ℕ, suc, cond, List, [], ◌∷◌, ◌++◌, take, drop, Some, None, Ok, Err, Option, Result, nat_lt, flat_map}
use Rattle.std.specs.List.{slice_get}
use Rattle.fault.specs.declared.Fault.{Fault}
use Rattle.key.specs.declared.key.Key.{Key}
use Rattle.information.specs.declared.values.ReportGroup.{ReportGroup}
use Rattle.message.specs.Numbered.{Message}
use Rattle.usage.specs.declared.values.Account.{Account}
use Rattle.usage.specs.declared.values.Place.{Place}
use Rattle.usage.specs.declared.values.Rule.{Rule}
use Rattle.usage.specs.Slots.{Slot}
use Rattle.usage.specs.Meter.{Meter, new_meter}
use Rattle.usage.specs.Rules.{install, remove, rule_of}
use Rattle.usage.specs.Orders.{command}
use Rattle.usage.specs.Traffic.{takes, terminate, traffic}
use Rattle.usage.specs.Reports.{next_report, report}
use Rattle.usage.specs.Answers.{Amount, answer}
use Rattle.usage.specs.Ledger.{Ledger, new_ledger}
use Rattle.usage.specs.Takes as ledger

pub data Call : Type 0 where
  -- a rule's number, and perhaps a key
  Install : ℕ → Option (List ℕ) → Call
  Remove : ℕ → Call
  -- any octets
  Command : List ℕ → Call
  -- a rule's number, a direction and a packet's octets
  Traffic : ℕ → ℕ → ℕ → Call
  Terminate : Call
  -- into a buffer of that size
  Report : ℕ → Call
  -- one of the replies that were written so far
  Answer : ℕ → Call
  -- one of the reports that were written so far
  Take : ℕ → Call
  -- one of the debts that are still owed, into a buffer of that size
  Reply : ℕ → ℕ → Call
  GiveUp : ℕ → Call

pub record World : Type 0 where
  pub meter : Meter
  pub ledger : Ledger
  -- all that was ever written: the link delivers any of it at any time, again, or never
  pub reports : List (List ℕ)
  pub replies : List (List ℕ)
  -- what is neither paid nor given up
  pub debts : List ℕ
  -- each report that was made, in order
  pub made : List (Message ReportGroup)
  -- what accepted traffic added, and what answers discarded
  pub counted : List Amount
  pub discarded : List Amount

-- newly made
abbrev pub start : List Account → World
start xs =
    record { meter = new_meter; ledger = new_ledger xs; reports = []; replies = []; debts = []; made = []; counted = []; discarded = [] }

abbrev pub with_meter : World → Meter → World
with_meter w m =
    record {
      meter = m;
      ledger = w.ledger;
      reports = w.reports;
      replies = w.replies;
      debts = w.debts;
      made = w.made;
      counted = w.counted;
      discarded = w.discarded;
    }

-- TRAFFIC

abbrev pub amount_at : Option Key → ℕ → ℕ → Option Place → List Amount
amount_at k d x None = []
amount_at k d x (Some p) = cond (takes k d p) (record { key = p.key; octets = x } ∷ []) []

abbrev pub amounts : Option Rule → ℕ → ℕ → List Slot → List Amount
amounts None d x ss = []
amounts (Some r) d x ss = flat_map (λ s. amount_at r.key d x s.place) ss

-- what accepted traffic added, under each key
abbrev pub added_by : Result ℕ Fault → List Amount → List Amount
added_by (Ok n) xs = xs
added_by (Err f) xs = []

abbrev pub passing : World → ℕ → ℕ → ℕ → Meter × Result ℕ Fault → World
passing w n d x (m, r) =
    record {
      meter = m;
      ledger = w.ledger;
      reports = w.reports;
      replies = w.replies;
      debts = w.debts;
      made = w.made;
      counted = added_by r (amounts (rule_of n w.meter.rules) d x w.meter.slots) ++ w.counted;
      discarded = w.discarded;
    }

-- REPORTS AND ANSWERS

abbrev pub put : {X : Type 0} → Result X Fault → List X → List X
put (Ok x) xs = xs ++ x ∷ []
put (Err f) xs = xs

-- a report that is written for the first time
abbrev pub made_by : Meter → Meter → List (Message ReportGroup) → List (Message ReportGroup)
made_by before after made = cond (nat_lt before.latest after.latest) (made ++ next_report before ∷ []) made

abbrev pub reporting : World → Meter × Result (List ℕ) Fault → World
reporting w (m, r) =
    record {
      meter = m;
      ledger = w.ledger;
      reports = put r w.reports;
      replies = w.replies;
      debts = w.debts;
      made = made_by w.meter m w.made;
      counted = w.counted;
      discarded = w.discarded;
    }

abbrev pub lost_by : Result (List Amount) Fault → List Amount
lost_by (Ok xs) = xs
lost_by (Err f) = []

abbrev pub answering : World → Meter × Result (List Amount) Fault → World
answering w (m, r) =
    record {
      meter = m;
      ledger = w.ledger;
      reports = w.reports;
      replies = w.replies;
      debts = w.debts;
      made = w.made;
      counted = w.counted;
      discarded = lost_by r ++ w.discarded;
    }

abbrev pub delivered : ℕ → World → Option (List ℕ) → World
delivered ceiling w None = w
delivered ceiling w (Some bs) = answering w (answer ceiling w.meter bs)

-- THE LEDGER'S CALLS

abbrev pub taking : World → Ledger × Result ℕ Fault → World
taking w (l, r) =
    record {
      meter = w.meter;
      ledger = l;
      reports = w.reports;
      replies = w.replies;
      debts = put r w.debts;
      made = w.made;
      counted = w.counted;
      discarded = w.discarded;
    }

abbrev pub arrived : World → Option (List ℕ) → World
arrived w None = w
arrived w (Some bs) = taking w (ledger.take w.ledger bs)

-- one debt less
abbrev pub paid : ℕ → List ℕ → List ℕ
paid i ds = take i ds ++ drop (suc i) ds

-- a debt that was answered is paid; where the reply was refused, it is still owed
abbrev pub owed : ℕ → Result (List ℕ) Fault → List ℕ → List ℕ
owed i (Ok bs) ds = paid i ds
owed i (Err f) ds = ds

abbrev pub replying : World → ℕ → Result (List ℕ) Fault → World
replying w i r =
    record {
      meter = w.meter;
      ledger = w.ledger;
      reports = w.reports;
      replies = put r w.replies;
      debts = owed i r w.debts;
      made = w.made;
      counted = w.counted;
      discarded = w.discarded;
    }

abbrev pub repaying : World → ℕ → ℕ → Option ℕ → World
repaying w i size None = w
repaying w i size (Some debt) = replying w i (ledger.reply w.ledger debt size)

abbrev pub forgiving : World → ℕ → Option ℕ → World
forgiving w i None = w
forgiving w i (Some debt) =
    record {
      meter = w.meter;
      ledger = ledger.give_up w.ledger debt;
      reports = w.reports;
      replies = w.replies;
      debts = paid i w.debts;
      made = w.made;
      counted = w.counted;
      discarded = w.discarded;
    }

-- RUNS

-- over a bank with this ceiling
abbrev pub step : ℕ → World → Call → World
step ceiling w (Install n k) = with_meter w (install w.meter n k).0
step ceiling w (Remove n) = with_meter w (remove w.meter n).0
step ceiling w (Command bs) = with_meter w (command ceiling w.meter bs).0
step ceiling w (Traffic n d x) = passing w n d x (traffic ceiling w.meter n d x)
step ceiling w Terminate = with_meter w (terminate w.meter).0
step ceiling w (Report size) = reporting w (report w.meter size)
step ceiling w (Answer i) = delivered ceiling w (slice_get w.replies i)
step ceiling w (Take i) = arrived w (slice_get w.reports i)
step ceiling w (Reply i size) = repaying w i size (slice_get w.debts i)
step ceiling w (GiveUp i) = forgiving w i (slice_get w.debts i)

abbrev pub run : ℕ → World → List Call → World
run ceiling w [] = w
run ceiling w (c ∷ cs) = run ceiling (step ceiling w c) cs
