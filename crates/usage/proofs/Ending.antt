-- Answer keeps what holds. Assumes nothing.
use Rattle.std.proofs.Common.{◌≡◌, ℕ, ◌≤◌, Bool, true, false, cond, eqb, List, Some, None, Ok, Option, Result, sym, refl, subst, arith}
use Rattle.std.specs.List.{slice_get}
use Rattle.std.proofs.lemmas.Bool.{eqb-true}
use Rattle.fault.specs.declared.Code.TheVariants as code
use Rattle.fault.specs.declared.Fault.{Fault}
use Rattle.units.specs.declared.values.RequestType.{RequestType}
use Rattle.information.specs.declared.values.AnswerGroup.{AnswerGroup}
use Rattle.message.specs.Numbered.{Message}
use Rattle.usage.specs.Meter.{Meter, refused}
use Rattle.usage.specs.Answers.{Amount, accepted, after_answer, answer, answer_misfit, answered, discards, ending}
use Rattle.usage.specs.Reports.{sent_groups}
use Rattle.usage.specs.Runs.{World, answering, delivered}
use Rattle.usage.proofs.Inv.{Inv, Replied, Unanswered, Waits}
use Rattle.usage.proofs.Archive.{all_nth}
use Rattle.usage.proofs.Settling.{settled_ok, settled_pending, settled_sent}
use Rattle.usage.proofs.Sums.{under_append}

module _ (ceiling : ℕ) (enough : 65535 ≤ ceiling) (w : World) (inv : Inv ceiling w) where
  abbrev m : Meter
  m = w.meter

  abbrev After : Meter × Result (List Amount) Fault → Type 0
  After r = Inv ceiling (answering w r)

  module _ (a : Message AnswerGroup) (known : a.number ≤ w.ledger.last) where
    ends : (t : RequestType) → m.unanswered ≡ Some t → a.number ≡ m.latest → answer_misfit m.slots a.groups ≡ None → After (after_answer ceiling m t a.groups, Ok (discards a.groups m.slots))
    ends t u same fits =
        record {
          slots = settled_ok ceiling enough a.groups m.slots fits inv.slots;
          latest = inv.latest;
          waits = record { level = omega (arith, known, same, waits.most); none = settled_sent ceiling enough a.groups m.slots };
          ledger = inv.ledger;
          link = inv.link;
          balances = λ k. omega (arith, inv.balances k, settled_pending ceiling enough a.groups k m.slots inv.slots.each, under_append k (discards a.groups m.slots) w.discarded);
        }
      where
        waits : Unanswered w.made w.ledger.last m.latest t (sent_groups m.slots)
        waits = subst (λ o. Waits w.made w.ledger.last m.latest o (sent_groups m.slots)) u inv.waits

    if_accepted : (t : RequestType) → m.unanswered ≡ Some t → a.number ≡ m.latest → (o : Option Fault) → answer_misfit m.slots a.groups ≡ o → After (accepted ceiling m t a.groups o)
    if_accepted t u same (Some f) e = inv
    if_accepted t u same None e = ends t u same e

    if_waiting : (o : Option RequestType) → m.unanswered ≡ o → After (ending ceiling m a o)
    if_waiting None u = inv
    if_waiting (Some t) u = go (eqb a.number m.latest) refl
      where
        go : (b : Bool) → eqb a.number m.latest ≡ b → After (cond b (accepted ceiling m t a.groups (answer_misfit m.slots a.groups)) (refused m code.NotUnanswered))
        go true e = if_accepted t u (eqb-true a.number m.latest e) (answer_misfit m.slots a.groups) refl
        go false e = inv

    if_not_ended : (b : Bool) → After (cond b (refused m code.Terminated) (ending ceiling m a m.unanswered))
    if_not_ended true = inv
    if_not_ended false = if_waiting m.unanswered refl

  arrives : (bs : List ℕ) → Replied inv.link.answers w.ledger.last bs → After (answer ceiling m bs)
  arrives bs r = subst (λ x. After (answered ceiling m x)) (sym r.reads) (if_not_ended r.answer r.known m.ended)

  pub keeps_answer : (i : ℕ) → Inv ceiling (delivered ceiling w (slice_get w.replies i))
  keeps_answer i = go (slice_get w.replies i) refl
    where
      go : (o : Option (List ℕ)) → slice_get w.replies i ≡ o → Inv ceiling (delivered ceiling w o)
      go None e = inv
      go (Some bs) e = arrives bs (all_nth (Replied inv.link.answers w.ledger.last) w.replies i bs inv.link.replied e)
