-- Every run keeps what holds, and so the balance. Assumes nothing.
use Rattle.std.proofs.Common.{◌≡◌, ℕ, zero, suc, ◌≤◌, Bool, true, false, cond, not, ltb, List, [], ◌∷◌, ◌++◌, length, replicate, is_some, Ok, Err, Result, refl, ap, subst, arith}
use Rattle.std.specs.List.{AllByRecursion, list_any}
use Rattle.std.proofs.ByRecursion.{All-push, All-weaker}
use Rattle.std.proofs.lemmas.Bool.{false≢true}
use Rattle.fault.specs.declared.Code.TheVariants as code
use Rattle.fault.specs.declared.Fault.{Fault}
use Rattle.fault.specs.Numbers.{call_fault}
use Rattle.group.specs.Walk.{then}
use Rattle.key.specs.declared.key.Key.{Key}
use Rattle.wire.specs.Octets.{answer_octets}
use Rattle.usage.specs.declared.values.Account.{Account}
use Rattle.usage.specs.Tables.{tally}
use Rattle.usage.specs.Slots.{empty, has_key, holds}
use Rattle.usage.specs.Takes.{fixed_answer}
use Rattle.usage.specs.Ledger.{Row, new_ledger, of, opened, row_added, row_fits, rows_added}
use Rattle.usage.specs.Runs.{Call, World, run, start, step}
use Rattle.usage.specs.Runs.Call.{Install, Remove, Command, Traffic, Terminate, Report, Answer, Take, Reply, GiveUp}
use Rattle.usage.specs.Balance.{Balance, Balanced, Noticed}
use Rattle.usage.proofs.Inv.{Deducted, Inv, SlotOk, pending_sum}
use Rattle.usage.proofs.Ending.{keeps_answer}
use Rattle.usage.proofs.Passing.{keeps_traffic}
use Rattle.usage.proofs.Quietly.{keeps_command, keeps_install, keeps_remove, keeps_terminate}
use Rattle.usage.proofs.Room.{room, slot_noticed}
use Rattle.usage.proofs.Sending.{keeps_report}
use Rattle.usage.proofs.Taking.{keeps_give_up, keeps_reply, keeps_take}
use Rattle.usage.proofs.Totals.{again, agreed, close, each_once, remains, total}

-- NEWLY MADE

abbrev Fresh : Result (List Account) Fault → Type 0
Fresh (Ok xs) = AllByRecursion (λ a. a.deducted ≡ 0) xs
Fresh (Err f) = Unit {0}

row_fresh : (xs : List Account) (r : Row) → AllByRecursion (λ a. a.deducted ≡ 0) xs → Fresh (row_added xs r)
row_fresh xs r h = go (not (row_fits r)) (list_any (of (opened r).key) xs) (ltb (length xs) 16)
  where
    go : (a b c : Bool) → Fresh (cond a (Err (call_fault code.Range 0)) (cond b (Err (call_fault code.RepeatedKey 0)) (cond c (Ok (xs ++ opened r ∷ [])) (Err (call_fault code.TooMany 0)))))
    go true b c = tt
    go false true c = tt
    go false false true = All-push (λ a. a.deducted ≡ 0) xs (opened r) h refl
    go false false false = tt

rows_fresh : (rs : List Row) (xs : List Account) → AllByRecursion (λ a. a.deducted ≡ 0) xs → Fresh (rows_added xs rs)
rows_fresh [] xs h = h
rows_fresh (r ∷ rs) xs h = go (row_added xs r) (row_fresh xs r h) (λ ys more. rows_fresh rs ys more)
  where
    go : (o : Result (List Account) Fault) → Fresh o → ((ys : List Account) → AllByRecursion (λ a. a.deducted ≡ 0) ys → Fresh (rows_added ys rs)) → Fresh (then o (λ ys. rows_added ys rs))
    go (Ok ys) f ih = ih ys f
    go (Err e) f ih = tt

all_empty : (ceiling n : ℕ) → AllByRecursion (SlotOk ceiling) (replicate n empty)
all_empty ceiling zero = tt
all_empty ceiling (suc n) = (refl, all_empty ceiling n)

none_yet : (k : Key) (n : ℕ) → tally (holds (has_key k)) (replicate n empty) ≡ 0
none_yet k zero = refl
none_yet k (suc n) = omega (arith, none_yet k n)

nothing_yet : (k : Key) (n : ℕ) → pending_sum k (replicate n empty) ≡ 0
nothing_yet k zero = refl
nothing_yet k (suc n) = omega (arith, nothing_yet k n)

starts : (ceiling : ℕ) (xs : List Account) → AllByRecursion (λ a. a.deducted ≡ 0) xs → Inv ceiling (start xs)
starts ceiling xs fresh =
    record {
      slots = record { wide = refl; each = all_empty ceiling 16; apart = λ k. omega (arith, none_yet k 16) };
      latest = refl;
      waits = record { level = refl; none = refl };
      ledger = record { each = All-weaker (λ a. a.deducted ≡ 0) (Deducted [] 0) (λ a h. h) xs fresh; few = omega arith };
      link = record { numbers = λ n r e. absurd (false≢true (ap is_some e)); reported = tt; answers = λ n. answer_octets (fixed_answer (new_ledger xs)); current = refl; replied = tt };
      balances = λ k. omega (arith, nothing_yet k 16);
    }

-- ONE CALL, AND EVERY LIST OF THEM

module _ (ceiling : ℕ) (enough : 65535 ≤ ceiling) where
  keeps : (w : World) → Inv ceiling w → (c : Call) → Inv ceiling (step ceiling w c)
  keeps w inv (Install n k) = keeps_install ceiling w inv n k
  keeps w inv (Remove n) = keeps_remove ceiling w inv n
  keeps w inv (Command bs) = keeps_command ceiling w inv enough bs
  keeps w inv (Traffic n d x) = keeps_traffic ceiling w inv n d x
  keeps w inv Terminate = keeps_terminate ceiling w inv
  keeps w inv (Report size) = keeps_report ceiling w inv size
  keeps w inv (Answer i) = keeps_answer ceiling enough w inv i
  keeps w inv (Take i) = keeps_take ceiling w inv i
  keeps w inv (Reply i size) = keeps_reply ceiling w inv i size
  keeps w inv (GiveUp i) = keeps_give_up ceiling w inv i

  keeps_all : (cs : List Call) (w : World) → Inv ceiling w → Inv ceiling (run ceiling w cs)
  keeps_all [] w inv = inv
  keeps_all (c ∷ cs) w inv = keeps_all cs (step ceiling w c) (keeps w inv c)

balances : (ceiling : ℕ) (w : World) → Inv ceiling w → Balance ceiling w
balances ceiling w inv =
    record {
      total = total ceiling w inv;
      each_once = each_once ceiling w inv;
      remains = λ ks k a. remains ceiling w inv k ks a;
      numbers = λ n r e. (inv.link.numbers n r e).number;
      latest = inv.latest;
      close = close ceiling w inv;
      noticed = All-weaker (SlotOk ceiling) Noticed (slot_noticed ceiling) w.meter.slots inv.slots.each;
      room = λ n d x e. room ceiling w.meter inv.slots.each n d x e;
      written = inv.link.reported;
      again = again ceiling w inv;
      agreed = agreed ceiling w inv;
    }

pub balanced : Balanced
balanced ceiling enough most rows xs made calls =
    balances ceiling (run ceiling (start xs) calls)
    (keeps_all ceiling enough calls (start xs) (starts ceiling xs (subst Fresh made (rows_fresh rows [] tt))))
