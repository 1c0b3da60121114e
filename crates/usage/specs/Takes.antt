-- Take, reply and give up.
use Rattle.std.specs.Prelude.{ℕ, ◌+◌, cond, List, [], ◌∷◌, map, Some, None, Ok, Err, Option, Result, ◌==◌, nat_lt}
use Rattle.fault.specs.declared.Code.TheVariants as code
use Rattle.fault.specs.declared.Fault.{Fault}
use Rattle.fault.specs.Numbers.{call_fault}
use Rattle.key.specs.declared.key.Key.{Key}
use Rattle.key.specs.Keys.{same_key}
use Rattle.units.specs.declared.values.RequestType.{RequestType}
use Rattle.units.specs.declared.values.Units.{Units}
use Rattle.information.specs.declared.values.AnswerGroup.{AnswerGroup}
use Rattle.information.specs.declared.values.ReportGroup.{ReportGroup}
use Rattle.message.specs.Numbered.{Message, read_report}
use Rattle.wire.specs.Octets.{answer_octets}
use Rattle.wire.specs.Sound.{answer_fault}
use Rattle.usage.specs.declared.values.Account.{Account}
use Rattle.usage.specs.Forms.{each_number, octets_in}
use Rattle.usage.specs.Meter.{refused}
use Rattle.usage.specs.Answers.{is_termination}
use Rattle.usage.specs.Ledger.{Ledger, account_of, threshold}
use Rattle.usage.specs.Written.{writing}

-- TAKE

-- what a report holds of a key: the sum of its used numbers, or 0
abbrev pub held_by : Key → ReportGroup → ℕ
held_by k g = cond (same_key g.key k) (octets_in g.used) 0

abbrev pub held : Key → List ReportGroup → ℕ
held k [] = 0
held k (g ∷ gs) = held_by k g + held k gs

abbrev pub charged : List ReportGroup → Account → Account
charged gs a = record { key = a.key; allowance = a.allowance; plan = a.plan; deducted = a.deducted + held a.key gs }

-- in the report's form; both numbers of a pair get the threshold
abbrev pub in_form : Units → Option ℕ → Option Units
in_form u None = None
in_form u (Some t) = Some (each_number (λ _. t) u)

abbrev pub replied : RequestType → List Account → ReportGroup → AnswerGroup
replied t xs g = record { place = 0; key = g.key; level = g.level; granted = in_form g.used (threshold t (account_of g.key xs)) }

-- the thresholds come from what remains after the deduction
abbrev pub fixing : Message ReportGroup → List Account → Ledger
fixing m xs = record { accounts = xs; last = m.number; type = m.type; fixed = map (replied m.type xs) m.groups }

abbrev pub after_take : Ledger → Message ReportGroup → Ledger
after_take l m = fixing m (map (charged m.groups) l.accounts)

-- the debt is the report's number
abbrev pub taking : Ledger → Message ReportGroup → Ledger × Result ℕ Fault
taking l m =
    cond (m.number == l.last) (l, Ok m.number)
    (cond (is_termination l.type) (refused l code.Terminated)
    (cond (nat_lt m.number l.last) (refused l code.NumberBelow)
    (cond (nat_lt (l.last + 1) m.number) (refused l code.NumberAbove)
    (after_take l m, Ok m.number))))

abbrev pub taken : Ledger → Result (Message ReportGroup) Fault → Ledger × Result ℕ Fault
taken l (Err f) = (l, Err f)
taken l (Ok m) = taking l m

abbrev pub take : Ledger → List ℕ → Ledger × Result ℕ Fault
take l bs = taken l (read_report bs)

-- REPLY AND GIVE UP

abbrev pub fixed_answer : Ledger → Message AnswerGroup
fixed_answer l = record { number = l.last; type = l.type; groups = l.fixed }

-- the fixed answer, into a buffer of that size; where it is refused, the debt is still owed
abbrev pub reply : Ledger → ℕ → ℕ → Result (List ℕ) Fault
reply l debt size =
    cond (debt == l.last) (writing (answer_fault (fixed_answer l)) (answer_octets (fixed_answer l)) size)
    (Err (call_fault code.OldDebt 0))

-- nothing is written, and nothing refused
abbrev pub give_up : Ledger → ℕ → Ledger
give_up l debt = l
