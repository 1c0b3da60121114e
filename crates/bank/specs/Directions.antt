-- The numbers of the two directions.
use Rattle.std.specs.Prelude.{ℕ, cond, Ok, Err, Result, ◌==◌}
use Rattle.fault.specs.declared.Code.TheVariants.{Range}
use Rattle.fault.specs.declared.Fault.{Fault}
use Rattle.fault.specs.Numbers.{call_fault}
use Rattle.bank.specs.declared.slots.Direction.{Direction}
use Rattle.bank.specs.declared.slots.Direction.TheVariants.{Uplink, Downlink}

-- the direction that has a number
abbrev pub direction_of : ℕ → Result Direction Fault
direction_of n = cond (n == 0) (Ok Uplink) (cond (n == 1) (Ok Downlink) (Err (call_fault Range 0)))
