-- Traffic keeps what holds. Assumes nothing.
use Rattle.std.proofs.Common.{◌≡◌, ℕ, Bool, true, false, cond, not, map, Some, None, Ok, Option, Result, sym, refl, ap, subst, arith, flat_map}
use Rattle.std.specs.List.{list_any}
use Rattle.fault.specs.declared.Code.TheVariants as code
use Rattle.fault.specs.declared.Fault.{Fault}
use Rattle.usage.specs.declared.values.Rule.{Rule}
use Rattle.usage.specs.Tables.{tally}
use Rattle.usage.specs.Slots.{holds}
use Rattle.usage.specs.Meter.{Meter, refused, with_slots}
use Rattle.usage.specs.Rules.{rule_of}
use Rattle.usage.specs.Traffic.{carried, overflows, packet_fits, raised_at, takes, traffic}
use Rattle.usage.specs.Runs.{World, amount_at, amounts, passing}
use Rattle.usage.specs.Totals.{under}
use Rattle.usage.proofs.Inv.{Inv, Waits}
use Rattle.usage.proofs.Counting.{raised_ok, raised_pending, raised_sent}
use Rattle.usage.proofs.Sums.{under_append}

module _ (ceiling : ℕ) (w : World) (inv : Inv ceiling w) (n d x : ℕ) where
  abbrev After : Meter × Result ℕ Fault → Type 0
  After r = Inv ceiling (passing w n d x r)

  added : (r : Rule) (count : ℕ) → rule_of n w.meter.rules ≡ Some r → After (with_slots w.meter (map (raised_at r.key d x) w.meter.slots), Ok count)
  added r count e =
      record {
        slots = raised_ok ceiling r.key d x w.meter.slots inv.slots;
        latest = inv.latest;
        waits = subst (λ g. Waits w.made w.ledger.last w.meter.latest w.meter.unanswered g) (sym (raised_sent r.key d x w.meter.slots)) inv.waits;
        ledger = inv.ledger;
        link = inv.link;
        balances = λ k.
            let new = flat_map (λ s. amount_at r.key d x s.place) w.meter.slots in
            let split = under_append k (amounts (rule_of n w.meter.rules) d x w.meter.slots) w.counted in
            let same : under k (amounts (rule_of n w.meter.rules) d x w.meter.slots) ≡ under k new = ap (λ o. under k (amounts o d x w.meter.slots)) e in
            omega (arith, inv.balances k, raised_pending r.key d x k w.meter.slots, split, same);
      }

  by_rule : (o : Option Rule) → rule_of n w.meter.rules ≡ o → After (carried ceiling w.meter o d x)
  by_rule None e = inv
  by_rule (Some r) e = go (list_any (overflows ceiling r.key d x) w.meter.slots)
    where
      go : (b : Bool) → After (cond b (refused w.meter code.Ceiling) (with_slots w.meter (map (raised_at r.key d x) w.meter.slots), Ok (tally (holds (takes r.key d)) w.meter.slots)))
      go true = inv
      go false = added r (tally (holds (takes r.key d)) w.meter.slots) e

  pub keeps_traffic : After (traffic ceiling w.meter n d x)
  keeps_traffic = go (not (packet_fits n d x)) w.meter.terminated
    where
      go : (a b : Bool) → After (cond a (refused w.meter code.Range) (cond b (refused w.meter code.Terminated) (carried ceiling w.meter (rule_of n w.meter.rules) d x)))
      go true b = inv
      go false true = inv
      go false false = by_rule (rule_of n w.meter.rules) refl
