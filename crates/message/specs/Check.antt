-- Whether octets are a sound message of a kind, and the number that says so.
use Rattle.std.specs.Prelude.{ℕ, cond, List, Some, None, Ok, Err, Option, Result, ◌==◌}
use Rattle.fault.specs.declared.Code.TheVariants.{Range}
use Rattle.fault.specs.declared.Fault.{Fault}
use Rattle.fault.specs.Numbers.{call_fault, number_of}
use Rattle.group.specs.Members.{meaning}
use Rattle.message.specs.declared.values.Kind.{Kind}
use Rattle.message.specs.declared.values.Kind.TheVariants.{Report, Answer, Command}
use Rattle.message.specs.Numbered.{read_report, read_answer}
use Rattle.message.specs.Commands.{read_command}

abbrev pub verdict_of : Kind → List ℕ → Result (Unit {0}) Fault
verdict_of Report bs = meaning (λ _. tt) (read_report bs)
verdict_of Answer bs = meaning (λ _. tt) (read_answer bs)
verdict_of Command bs = meaning (λ _. tt) (read_command bs)

-- 1 is a report, 2 an answer, 3 a command
abbrev pub kind_of : ℕ → Option Kind
kind_of n = cond (n == 1) (Some Report) (cond (n == 2) (Some Answer) (cond (n == 3) (Some Command) None))

abbrev pub kind_or_fault : Option Kind → Result Kind Fault
kind_or_fault None = Err (call_fault Range 0)
kind_or_fault (Some k) = Ok k

-- the kind of a number; another number is out of range
abbrev pub numbered_kind : ℕ → Result Kind Fault
numbered_kind n = kind_or_fault (kind_of n)

-- 0 for sound, else the code's number
abbrev pub code_of : Result (Unit {0}) Fault → ℕ
code_of (Ok _) = 0
code_of (Err f) = number_of f.code

abbrev pub checked_as : Option Kind → List ℕ → ℕ
checked_as None bs = number_of Range
checked_as (Some k) bs = code_of (verdict_of k bs)

-- what the check answers: the code of the message's fault, 0 where it has none, and 5 for no kind
abbrev pub checked : ℕ → List ℕ → ℕ
checked kind bs = checked_as (kind_of kind) bs
