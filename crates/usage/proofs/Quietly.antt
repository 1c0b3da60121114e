-- Install, remove, command and terminate keep what holds. Assumes nothing.
use Rattle.std.proofs.Common.{◌≡◌, ℕ, ◌≤◌, Bool, true, false, cond, not, ◌&&◌, List, map, is_some, Some, None, Ok, Err, Option, Result, sym, refl, ◌∙◌, subst, arith}
use Rattle.std.specs.List.{list_any}
use Rattle.fault.specs.declared.Code.TheVariants as code
use Rattle.fault.specs.declared.Fault.{Fault}
use Rattle.information.specs.declared.values.CommandGroup.{CommandGroup}
use Rattle.message.specs.Commands.{read_command}
use Rattle.usage.specs.declared.values.Rule.{Rule}
use Rattle.usage.specs.Tables.{at_first, free}
use Rattle.usage.specs.Slots.{Slot, changed}
use Rattle.usage.specs.Meter.{Meter, refused}
use Rattle.usage.specs.Rules.{install, is_rule, key_fits, key_given, remove, removing, rule_fits, rule_of, with_rules}
use Rattle.usage.specs.Orders.{after_orders, command, commanded, obeyed_all}
use Rattle.usage.specs.Reports.{sent_groups}
use Rattle.usage.specs.Traffic.{over, terminate}
use Rattle.usage.specs.Runs.{World, with_meter}
use Rattle.usage.proofs.Inv.{Inv, Waits}
use Rattle.usage.proofs.Each.{Same, same_itself}
use Rattle.usage.proofs.Grants.{Fine, command_fine}
use Rattle.usage.proofs.Orders.{rule_gone, session_over}

module _ (ceiling : ℕ) (w : World) (inv : Inv ceiling w) where
  -- a call that neither counts nor reports
  quietly : (m : Meter) → Same ceiling w.meter.slots m.slots → m.latest ≡ w.meter.latest → m.unanswered ≡ w.meter.unanswered → Inv ceiling (with_meter w m)
  quietly m same latest unanswered =
      record {
        slots = same.ok;
        latest = latest ∙ inv.latest;
        waits = subst (λ g. Waits w.made w.ledger.last m.latest m.unanswered g) (sym same.sent)
            (subst (λ u. Waits w.made w.ledger.last m.latest u (sent_groups w.meter.slots)) (sym unanswered)
            (subst (λ n. Waits w.made w.ledger.last n w.meter.unanswered (sent_groups w.meter.slots)) (sym latest) inv.waits));
        ledger = inv.ledger;
        link = inv.link;
        balances = λ k. omega (arith, inv.balances k, same.pending k);
      }

  abbrev After : Meter × Result (Unit {0}) Fault → Type 0
  After r = Inv ceiling (with_meter w r.0)

  pub keeps_install : (n : ℕ) (ks : Option (List ℕ)) → After (install w.meter n ks)
  keeps_install n ks = go (not (rule_fits n && key_fits ks)) w.meter.terminated (is_some (rule_of n w.meter.rules)) (not (list_any free w.meter.rules))
    where
      go : (a b c d : Bool) → After (cond a (refused w.meter code.Range) (cond b (refused w.meter code.Terminated) (cond c (refused w.meter code.Rule) (cond d (refused w.meter code.Full) (with_rules w.meter (at_first free (λ _. Some (record { number = n; key = key_given ks })) w.meter.rules) w.meter.slots, Ok tt)))))
      go true b c d = inv
      go false true c d = inv
      go false false true d = inv
      go false false false true = inv
      go false false false false = quietly _ (same_itself ceiling w.meter.slots inv.slots) refl refl

  pub keeps_remove : (n : ℕ) → After (remove w.meter n)
  keeps_remove n = go (not (rule_fits n)) w.meter.terminated
    where
      removed : (o : Option Rule) (others : List (Option Rule)) → After (removing w.meter o others)
      removed None others = inv
      removed (Some r) others = quietly _ (rule_gone ceiling r.key others w.meter.slots inv.slots) refl refl

      go : (a b : Bool) → After (cond a (refused w.meter code.Range) (cond b (refused w.meter code.Terminated) (removing w.meter (rule_of n w.meter.rules) (at_first (is_rule n) (λ _. None) w.meter.rules))))
      go true b = inv
      go false true = inv
      go false false = removed (rule_of n w.meter.rules) _

  pub keeps_command : 65535 ≤ ceiling → (bs : List ℕ) → After (command ceiling w.meter bs)
  keeps_command enough bs = go (read_command bs)
    where
      acted : (r : Result (List Slot) Fault) → Fine ceiling w.meter.slots r → After (after_orders w.meter r)
      acted (Ok ts) same = quietly _ same refl refl
      acted (Err f) same = inv

      whether : (gs : List CommandGroup) (b : Bool) → After (cond b (refused w.meter code.Terminated) (after_orders w.meter (obeyed_all ceiling w.meter.slots gs)))
      whether gs true = inv
      whether gs false = acted (obeyed_all ceiling w.meter.slots gs) (command_fine ceiling enough gs w.meter.slots inv.slots)

      go : (r : Result (List CommandGroup) Fault) → After (commanded ceiling w.meter r)
      go (Err f) = inv
      go (Ok gs) = whether gs w.meter.terminated

  pub keeps_terminate : After (terminate w.meter)
  keeps_terminate = go w.meter.terminated
    where
      go : (b : Bool) → After (cond b (refused w.meter code.Terminated) (record { rules = w.meter.rules; slots = map (changed over) w.meter.slots; latest = w.meter.latest; unanswered = w.meter.unanswered; terminated = true; ended = w.meter.ended }, Ok tt))
      go true = inv
      go false = quietly _ (session_over ceiling w.meter.slots inv.slots) refl refl
