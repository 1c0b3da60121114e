-- The ledger: its accounts, how it is made from rows, what remains, and the next threshold.
use Rattle.std.specs.Prelude.{ℕ, ◌-◌, ◌*◌, ◌/◌, min, max, Bool, cond, not, ◌&&◌, List, [], ◌∷◌, ◌++◌, length, ℤ, pos, ◌-ℤ◌, Some, None, Ok, Err, Option, Result, nat_le, nat_lt}
use Rattle.std.specs.List.{list_any}
use Rattle.fault.specs.declared.Code.TheVariants as code
use Rattle.fault.specs.declared.Fault.{Fault}
use Rattle.fault.specs.Numbers.{call_fault}
use Rattle.group.specs.Walk.{then}
use Rattle.key.specs.declared.key.Key.{Key}
use Rattle.key.specs.Keys.{blank_key, key_long, key_of, same_key}
use Rattle.units.specs.declared.values.RequestType.{RequestType}
use Rattle.units.specs.declared.values.RequestType.TheVariants.{Update, Termination}
use Rattle.information.specs.declared.values.AnswerGroup.{AnswerGroup}
use Rattle.usage.specs.declared.values.Account.{Account}
use Rattle.usage.specs.declared.values.Plan.{Plan}
use Rattle.usage.specs.declared.values.Plan.TheVariants.{Step, Share}

pub record Ledger : Type 0 where
  pub accounts : List Account
  -- the number of the last report that was taken, 0 before the first, and its type
  pub last : ℕ
  pub type : RequestType
  -- the answer to it
  pub fixed : List AnswerGroup

-- MAKING

-- a row as it is given
pub record Row : Type 0 where
  pub key : List ℕ
  pub allowance : ℕ
  pub plan : Plan

abbrev pub plan_fits : Plan → Bool
plan_fits (Step s) = nat_le 1 s && nat_le s 1099511627775
plan_fits (Share p) = nat_le 1 p && nat_le p 100

abbrev pub row_fits : Row → Bool
row_fits r = key_long r.key && (nat_le r.allowance 1125899906842624 && plan_fits r.plan)

abbrev pub key_or : Option Key → Key
key_or None = blank_key
key_or (Some k) = k

abbrev pub opened : Row → Account
opened r = record { key = key_or (key_of r.key); allowance = r.allowance; plan = r.plan; deducted = 0 }

abbrev pub of : Key → Account → Bool
of k a = same_key a.key k

-- one row more: out of range, then a repeated key, then the seventeenth
abbrev pub row_added : List Account → Row → Result (List Account) Fault
row_added xs r =
    cond (not (row_fits r)) (Err (call_fault code.Range 0))
    (cond (list_any (of (opened r).key) xs) (Err (call_fault code.RepeatedKey 0))
    (cond (nat_lt (length xs) 16) (Ok (xs ++ opened r ∷ []))
    (Err (call_fault code.TooMany 0))))

abbrev pub rows_added : List Account → List Row → Result (List Account) Fault
rows_added xs [] = Ok xs
rows_added xs (r ∷ rs) = then (row_added xs r) (λ more. rows_added more rs)

abbrev pub new_ledger : List Account → Ledger
new_ledger xs = record { accounts = xs; last = 0; type = Update; fixed = [] }

-- REMAINING

abbrev pub account_of : Key → List Account → Option Account
account_of k [] = None
account_of k (a ∷ xs) = cond (of k a) (Some a) (account_of k xs)

-- perhaps negative
abbrev pub remains : Account → ℤ
remains a = pos a.allowance -ℤ pos a.deducted

abbrev pub remaining_in : Option Account → Result ℤ Fault
remaining_in None = Err (call_fault code.UnknownKey 0)
remaining_in (Some a) = Ok (remains a)

abbrev pub remaining_of : Option Key → Ledger → Result ℤ Fault
remaining_of None l = Err (call_fault code.Range 0)
remaining_of (Some k) l = remaining_in (account_of k l.accounts)

abbrev pub remaining : Ledger → List ℕ → Result ℤ Fault
remaining l ks = remaining_of (key_of ks) l

-- THE THRESHOLD

abbrev pub planned : Plan → ℕ → ℕ
planned (Step s) left = min s left
planned (Share p) left = left * p / 100

abbrev pub bounded : ℕ → ℕ
bounded t = min (max t 1) 1099511627775

-- none where nothing is left
abbrev pub threshold_of : Account → Option ℕ
threshold_of a = cond (nat_lt a.deducted a.allowance) (Some (bounded (planned a.plan (a.allowance - a.deducted)))) None

-- none for the last report of a session, and none for a key that has no account
abbrev pub threshold : RequestType → Option Account → Option ℕ
threshold Termination a = None
threshold Update None = None
threshold Update (Some a) = threshold_of a
