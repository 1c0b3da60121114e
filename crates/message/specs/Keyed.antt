-- The groups of a message: up to sixteen, and each key at most once.
use Rattle.std.specs.Prelude.{ℕ, Bool, false, cond, List, [], ◌∷◌, ◌++◌, length, Some, None, Ok, Err, Option, Result, nat_lt}
use Rattle.std.specs.List.{list_any}
use Rattle.fault.specs.declared.Code.TheVariants.{RepeatedKey, TooMany}
use Rattle.fault.specs.declared.Fault.{Fault}
use Rattle.fault.specs.Numbers.{message_fault}
use Rattle.key.specs.declared.key.Key.{Key}
use Rattle.key.specs.Keys.{same_key}
use Rattle.information.specs.declared.values.ReportGroup.{ReportGroup}
use Rattle.information.specs.declared.values.AnswerGroup.{AnswerGroup}
use Rattle.information.specs.declared.values.CommandGroup.{CommandGroup}
use Rattle.information.specs.declared.values.Order.{Order}
use Rattle.information.specs.declared.values.Order.TheVariants.{Grant, Disable, Request}

-- the key that a group is about
abbrev pub report_key : ReportGroup → Option Key
report_key g = Some g.key

abbrev pub answer_key : AnswerGroup → Option Key
answer_key g = Some g.key

abbrev pub order_key : Order → Option Key
order_key (Grant k l u) = Some k
order_key (Disable k) = Some k
order_key (Request k) = k

abbrev pub command_key : CommandGroup → Option Key
command_key g = order_key g.order

-- a group without a key repeats none
abbrev pub same_keys : Option Key → Option Key → Bool
same_keys None _ = false
same_keys (Some a) None = false
same_keys (Some a) (Some b) = same_key a b

-- whether one of the groups has this key
abbrev pub has_key : {V : Type 0} → (V → Option Key) → Option Key → List V → Bool
has_key keyed k vs = list_any (λ v. same_keys (keyed v) k) vs

-- one group more, which was read whole and starts at a place
abbrev pub added : {V : Type 0} → (V → Option Key) → List V → ℕ → V → Result (List V) Fault
added keyed vs at v =
    cond (has_key keyed (keyed v) vs) (Err (message_fault RepeatedKey at))
    (cond (nat_lt (length vs) 16) (Ok (vs ++ v ∷ []))
    (Err (message_fault TooMany at)))
