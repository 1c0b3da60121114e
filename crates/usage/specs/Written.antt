-- What a call writes into a lent buffer.
use Rattle.std.specs.Prelude.{ℕ, cond, List, ◌++◌, length, drop, replicate, Some, None, Ok, Err, Option, Result, ◌==◌, nat_le}
use Rattle.fault.specs.declared.Code.TheVariants.{Short}
use Rattle.fault.specs.declared.Fault.{Fault}
use Rattle.fault.specs.Numbers.{call_fault, number_of}

-- the octets of a message, where it is sound and a buffer of that size holds them
abbrev pub writing : Option Fault → List ℕ → ℕ → Result (List ℕ) Fault
writing (Some f) bs size = Err f
writing None bs size = cond (nat_le (length bs) size) (Ok bs) (Err (call_fault Short 0))

-- a call answers how many octets it wrote
abbrev pub length_of : Result (List ℕ) Fault → Result ℕ Fault
length_of (Ok bs) = Ok (length bs)
length_of (Err f) = Err f

-- what it leaves in the buffer: what it wrote and then what was there; all 0 where the buffer was too short; else all that
-- was there
abbrev pub left : Result (List ℕ) Fault → List ℕ → List ℕ
left (Ok bs) was = bs ++ drop (length bs) was
left (Err f) was = cond (number_of f.code == 22) (replicate (length was) 0) was
