-- Report keeps what holds. Assumes nothing.
use Rattle.std.proofs.Common.{◌≡◌, ℕ, ◌+◌, ◌≤◌, Bool, true, false, cond, leb, ◌⊎◌, List, [], ◌∷◌, ◌++◌, map, length, Some, None, Ok, Err, Option, Result, sym, refl, ap, ◌∙◌, subst, inl, inr, arith, length-append}
use Rattle.std.specs.List.{slice_get}
use Rattle.std.proofs.ByRecursion.{All-push, All-weaker}
use Rattle.std.proofs.lemmas.Bool.{false≢true, lt-ltb, le-ltb}
use Rattle.fault.specs.declared.Code.TheVariants as code
use Rattle.fault.specs.declared.Fault.{Fault}
use Rattle.fault.specs.Numbers.{call_fault}
use Rattle.units.specs.declared.values.RequestType.{RequestType}
use Rattle.information.specs.declared.values.ReportGroup.{ReportGroup}
use Rattle.message.specs.Numbered.{Message, read_report}
use Rattle.wire.specs.Octets.{report_data, report_octets}
use Rattle.wire.specs.Sound.{report_fault}
use Rattle.trip.specs.Back.{located, report_at}
use Rattle.trip.proofs.Messages as trip
use Rattle.usage.specs.declared.values.Account.{Account}
use Rattle.usage.specs.Slots.{Slot}
use Rattle.usage.specs.Meter.{Meter, refused}
use Rattle.usage.specs.Written.{writing}
use Rattle.usage.specs.Reports.{after_report, if_written, next_report, nothing_due, report, report_written, reported_at, sent_groups, sent_report, type_now}
use Rattle.usage.specs.Reports as reports
use Rattle.usage.specs.Runs.{World, made_by, reporting}
use Rattle.usage.specs.Totals.{reported}
use Rattle.usage.specs.Balance.{Reported}
use Rattle.usage.proofs.Inv.{Answered, Deducted, Inv, Numbered, Unanswered, Waits}
use Rattle.usage.proofs.Archive.{nth_end, nth_push, nth_pushed, take_push}
use Rattle.usage.proofs.Reporting.{few_sent, reported_ok, reported_pending}
use Rattle.usage.proofs.Sums.{reported_push}

-- what was written was sound and is what was meant
pub writing_is : (f : Option Fault) (bs : List ℕ) (size : ℕ) (out : List ℕ) → writing f bs size ≡ Ok out → (f ≡ None) × (out ≡ bs)
writing_is (Some f) bs size out e = absurd (false≢true (sym (ap okay e)))
  where
    okay : Result (List ℕ) Fault → Bool
    okay (Ok x) = false
    okay (Err g) = true
writing_is None bs size out e = (refl, go (leb (length bs) size) e)
  where
    octets : Result (List ℕ) Fault → List ℕ
    octets (Ok x) = x
    octets (Err g) = bs

    go : (b : Bool) → cond b (Ok bs) (Err (call_fault code.Short 0)) ≡ Ok out → out ≡ bs
    go true h = sym (ap octets h)
    go false h = sym (ap octets h)

module _ (ceiling : ℕ) (w : World) (inv : Inv ceiling w) where
  abbrev m : Meter
  m = w.meter

  abbrev After : Meter × Result (List ℕ) Fault → Type 0
  After r = Inv ceiling (reporting w r)

  abbrev written : Meter → List (Message ReportGroup) → List (List ℕ) → World
  written n made out =
      record {
        meter = n;
        ledger = w.ledger;
        reports = out;
        replies = w.replies;
        debts = w.debts;
        made = made;
        counted = w.counted;
        discarded = w.discarded;
      }

  not_made : made_by m m w.made ≡ w.made
  not_made = ap (λ b. cond b (w.made ++ next_report m ∷ []) w.made) (le-ltb m.latest m.latest (omega arith))

  refused_keeps : (f : Fault) → After (m, Err f)
  refused_keeps f = subst (λ made. Inv ceiling (written m made w.reports)) (sym not_made) inv

  few : (ss : List Slot) → length ss ≡ 16 → length (sent_groups ss) ≤ 16
  few ss wide = omega (arith, few_sent ss)

  reads_back : (r : Message ReportGroup) (size : ℕ) (bs : List ℕ) → length r.groups ≤ 16 → report_written r size ≡ Ok bs → read_report bs ≡ Ok (located report_at report_data r)
  reads_back r size bs short e =
      let is = writing_is (report_fault r) (report_octets r) size bs e in
      ap read_report is.1 ∙ trip.reports r short is.0

  -- the unanswered report, again
  again : (t : RequestType) → m.unanswered ≡ Some t → (size : ℕ) (r : Result (List ℕ) Fault) → report_written (sent_report m t) size ≡ r → After (if_written m m r)
  again t u size (Err f) e = refused_keeps f
  again t u size (Ok bs) e = subst (λ made. Inv ceiling (written m made (w.reports ++ bs ∷ []))) (sym not_made) kept
    where
      waits : Unanswered w.made w.ledger.last m.latest t (sent_groups m.slots)
      waits = subst (λ o. Waits w.made w.ledger.last m.latest o (sent_groups m.slots)) u inv.waits

      kept : Inv ceiling (written m w.made (w.reports ++ bs ∷ []))
      kept =
          record {
            slots = inv.slots;
            latest = inv.latest;
            waits = inv.waits;
            ledger = inv.ledger;
            link = record {
              numbers = inv.link.numbers;
              reported = All-push (Reported w.made) w.reports bs inv.link.reported
                  (record { place = waits.before; report = sent_report m t; stands = waits.stands; octets = (writing_is (report_fault (sent_report m t)) (report_octets (sent_report m t)) size bs e).1; reads = reads_back (sent_report m t) size bs (few m.slots inv.slots.wide) e });
              answers = inv.link.answers;
              current = inv.link.current;
              replied = inv.link.replied;
            };
            balances = inv.balances;
          }

  -- the next report
  module _ (quiet : Answered w.ledger.last m.latest (sent_groups m.slots)) where
    abbrev made' : List (Message ReportGroup)
    made' = w.made ++ next_report m ∷ []

    numbers : (n : ℕ) (r : Message ReportGroup) → slice_get made' n ≡ Some r → Numbered n r
    numbers n r e = go (nth_pushed w.made (next_report m) r n e)
      where
        new : Numbered (length w.made) (next_report m)
        new = record { number = omega (arith, inv.latest); few = few (map reported_at m.slots) (reported_ok ceiling m.slots inv.slots).wide }

        AtEnd : (o : Option (Message ReportGroup)) → Type 0
        AtEnd None = ⊥
        AtEnd (Some q) = Numbered n q

        go : (slice_get w.made n ≡ Some r) ⊎ ((n ≡ length w.made) × (◌≡◌ {A = Option (Message ReportGroup)} (Some (next_report m)) (Some r))) → Numbered n r
        go (inl old) = inv.link.numbers n r old
        go (inr h) = subst AtEnd h.1 (subst (λ i. Numbered i (next_report m)) (sym h.0) new)

    stands : slice_get made' m.latest ≡ Some (next_report m)
    stands = subst (λ i. slice_get made' i ≡ Some (next_report m)) (sym inv.latest) (nth_end w.made (next_report m))

    archived : (bs : List ℕ) → Reported w.made bs → Reported made' bs
    archived bs a = record { place = a.place; report = a.report; stands = nth_push w.made (next_report m) a.report a.place a.stands; octets = a.octets; reads = a.reads }

    deducted : (a : Account) → Deducted w.made w.ledger.last a → Deducted made' w.ledger.last a
    deducted a h = h ∙ sym (ap (reported a.key) (take_push w.made (next_report m) w.ledger.last (omega (arith, inv.latest, quiet.level))))

    made_new : (size : ℕ) (bs : List ℕ) → report_written (next_report m) size ≡ Ok bs → Inv ceiling (written (after_report m) made' (w.reports ++ bs ∷ []))
    made_new size bs e =
        record {
          slots = reported_ok ceiling m.slots inv.slots;
          latest = omega (arith, inv.latest, length-append w.made (next_report m ∷ []));
          waits = record { before = m.latest; next = omega arith; stands = stands; least = omega (arith, quiet.level); most = omega (arith, quiet.level) };
          ledger = record { each = All-weaker (Deducted w.made w.ledger.last) _ deducted w.ledger.accounts inv.ledger.each; few = inv.ledger.few };
          link = record {
            numbers = numbers;
            reported = All-push (Reported made') w.reports bs (All-weaker (Reported w.made) (Reported made') archived w.reports inv.link.reported)
                (record { place = m.latest; report = next_report m; stands = stands; octets = (writing_is (report_fault (next_report m)) (report_octets (next_report m)) size bs e).1; reads = reads_back (next_report m) size bs (few (map reported_at m.slots) (reported_ok ceiling m.slots inv.slots).wide) e });
            answers = inv.link.answers;
            current = inv.link.current;
            replied = inv.link.replied;
          };
          balances = λ k. omega (arith, inv.balances k, reported_push k w.made (next_report m), reported_pending ceiling k m.slots inv.slots.each quiet.none);
        }

    fresh : (size : ℕ) (r : Result (List ℕ) Fault) → report_written (next_report m) size ≡ r → After (if_written m (after_report m) r)
    fresh size (Err f) e = refused_keeps f
    fresh size (Ok bs) e =
        subst (λ made. Inv ceiling (written (after_report m) made (w.reports ++ bs ∷ [])))
        (sym (ap (λ b. cond b made' w.made) (lt-ltb m.latest (m.latest + 1) (omega arith)))) (made_new size bs e)

  pub keeps_report : (size : ℕ) → After (report m size)
  keeps_report size = go m.ended
    where
      whether : Answered w.ledger.last m.latest (sent_groups m.slots) → (a b : Bool) → After (cond a (refused m code.NothingDue) (cond b (refused m code.NumbersUsed) (if_written m (after_report m) (report_written (next_report m) size))))
      whether quiet true b = refused_keeps (call_fault code.NothingDue 0)
      whether quiet false true = refused_keeps (call_fault code.NumbersUsed 0)
      whether quiet false false = fresh quiet size (report_written (next_report m) size) refl

      waiting : (o : Option RequestType) → m.unanswered ≡ o → After (reports.reporting m o size)
      waiting None u = whether (subst (λ o. Waits w.made w.ledger.last m.latest o (sent_groups m.slots)) u inv.waits) (nothing_due m) (leb 1048575 m.latest)
      waiting (Some t) u = again t u size (report_written (sent_report m t) size) refl

      go : (b : Bool) → After (cond b (refused m code.Terminated) (reports.reporting m m.unanswered size))
      go true = refused_keeps (call_fault code.Terminated 0)
      go false = waiting m.unanswered refl
