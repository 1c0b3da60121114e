-- Take, reply and give up keep what holds. Assumes nothing.
use Rattle.std.proofs.Common.{◌≡◌, ℕ, suc, ◌+◌, Bool, true, false, cond, eqb, ltb, List, [], ◌∷◌, map, length, take, Some, None, Ok, Err, Option, Result, sym, refl, ap, ◌∙◌, subst, add-one, arith}
use Rattle.std.specs.List.{slice_get}
use Rattle.std.proofs.ByRecursion.{All-map, All-push, All-weaker}
use Rattle.std.proofs.lemmas.Bool.{eq-eqb, eqb-false, ltb-false, ne_eqb}
use Rattle.fault.specs.declared.Code.TheVariants as code
use Rattle.fault.specs.declared.Fault.{Fault}
use Rattle.fault.specs.Numbers.{call_fault}
use Rattle.key.specs.declared.key.Key.{Key}
use Rattle.units.specs.declared.values.RequestType.{RequestType}
use Rattle.information.specs.declared.values.ReportGroup.{ReportGroup}
use Rattle.message.specs.Numbered.{Message, read_answer}
use Rattle.wire.specs.Octets.{answer_data, answer_octets, group_avp, report_data}
use Rattle.wire.specs.Sound.{answer_fault}
use Rattle.trip.specs.Back.{answer_at, located, placed, report_at}
use Rattle.trip.proofs.Messages as trip
use Rattle.usage.specs.declared.values.Account.{Account}
use Rattle.usage.specs.Answers.{is_termination}
use Rattle.usage.specs.Ledger.{Ledger}
use Rattle.usage.specs.Meter.{refused}
use Rattle.usage.specs.Reports.{sent_groups}
use Rattle.usage.specs.Takes.{after_take, charged, fixed_answer, held, replied, reply}
use Rattle.usage.specs.Takes as ledger
use Rattle.usage.specs.Written.{writing}
use Rattle.usage.specs.Runs.{World, arrived, forgiving, repaying, replying, taking}
use Rattle.usage.specs.Totals.{reported}
use Rattle.usage.specs.Balance.{Reported}
use Rattle.usage.proofs.Inv.{Deducted, Inv, Replied, Waits}
use Rattle.usage.proofs.Archive.{all_nth, nth_within}
use Rattle.usage.proofs.Sending.{writing_is}
use Rattle.usage.proofs.Sums.{reported_next}

-- where its groups stand does not matter to what a report holds
held_placed : (k : Key) (n : ℕ) (gs : List ReportGroup) → held k (placed report_at report_data n gs) ≡ held k gs
held_placed k n [] = refl
held_placed k n (g ∷ gs) = omega (arith, held_placed k (n + length (group_avp (report_data g))) gs)

length-placed : (n : ℕ) (gs : List ReportGroup) → length (placed report_at report_data n gs) ≡ length gs
length-placed n [] = refl
length-placed n (g ∷ gs) = ap suc (length-placed (n + length (group_avp (report_data g))) gs)

length-map : {X Y : Type 0} (f : X → Y) (xs : List X) → length (map f xs) ≡ length xs
length-map f [] = refl
length-map f (x ∷ xs) = ap suc (length-map f xs)

module _ (ceiling : ℕ) (w : World) (inv : Inv ceiling w) where
  abbrev l : Ledger
  l = w.ledger

  abbrev After : Ledger × Result ℕ Fault → Type 0
  After r = Inv ceiling (taking w r)

  same_ledger : (r : Result ℕ Fault) → After (l, r)
  same_ledger r =
      record { slots = inv.slots; latest = inv.latest; waits = inv.waits; ledger = inv.ledger; link = inv.link; balances = inv.balances }

  -- TAKE

  module _ (n : ℕ) (r : Message ReportGroup) (stands : slice_get w.made n ≡ Some r) where
    abbrev q : Message ReportGroup
    q = located report_at report_data r

    number_is : r.number ≡ n + 1
    number_is = (inv.link.numbers n r stands).number

    module _ (next : n ≡ l.last) where
      waits : (o : Option RequestType) → Waits w.made l.last w.meter.latest o (sent_groups w.meter.slots) → Waits w.made r.number w.meter.latest o (sent_groups w.meter.slots)
      waits None h = absurd (omega (arith, h.level, next, nth_within w.made n r stands, inv.latest))
      waits (Some t) h =
          record {
            before = h.before;
            next = h.next;
            stands = h.stands;
            least = omega (arith, h.least, next, number_is);
            most = omega (arith, next, number_is, nth_within w.made n r stands, inv.latest);
          }

      deducted : (a : Account) → Deducted w.made l.last a → Deducted w.made r.number (charged q.groups a)
      deducted a h =
          let more = reported_next a.key w.made n r stands in
          let one : reported a.key (take r.number w.made) ≡ reported a.key (take (suc n) w.made) = ap (λ i. reported a.key (take i w.made)) (number_is ∙ add-one n) in
          let before : reported a.key (take n w.made) ≡ reported a.key (take l.last w.made) = ap (λ i. reported a.key (take i w.made)) next in
          omega (arith, h, more, one, before, held_placed a.key 24 r.groups)

      -- the answers so far, and the new one
      abbrev answers : ℕ → List ℕ
      answers i = cond (eqb i r.number) (answer_octets (fixed_answer (after_take l q))) (inv.link.answers i)

      known : (bs : List ℕ) → Replied inv.link.answers l.last bs → Replied answers r.number bs
      known bs h =
          record {
            answer = h.answer;
            reads = h.reads;
            known = omega (arith, h.known, next, number_is);
            octets = h.octets ∙ sym (ap (λ b. cond b (answer_octets (fixed_answer (after_take l q))) (inv.link.answers h.answer.number)) (ne_eqb h.answer.number r.number (λ e. omega (arith, h.known, next, number_is))));
          }

      accepts : (o : Result ℕ Fault) → After (after_take l q, o)
      accepts o =
          record {
            slots = inv.slots;
            latest = inv.latest;
            waits = waits w.meter.unanswered inv.waits;
            ledger = record {
              each = All-map (Deducted w.made r.number) (charged q.groups) l.accounts (All-weaker (Deducted w.made l.last) _ deducted l.accounts inv.ledger.each);
              few = omega (arith, length-map (replied q.type (map (charged q.groups) l.accounts)) q.groups, length-placed 24 r.groups, (inv.link.numbers n r stands).few);
            };
            link = record {
              numbers = inv.link.numbers;
              reported = inv.link.reported;
              answers = answers;
              current = sym (ap (λ b. cond b (answer_octets (fixed_answer (after_take l q))) (inv.link.answers r.number)) (eq-eqb r.number r.number refl));
              replied = All-weaker (Replied inv.link.answers l.last) (Replied answers r.number) known w.replies inv.link.replied;
            };
            balances = inv.balances;
          }

    takes : After (ledger.taking l q)
    takes = go (eqb r.number l.last) refl (is_termination l.type) (ltb r.number l.last) refl (ltb (l.last + 1) r.number) refl
      where
        go : (a : Bool) → eqb r.number l.last ≡ a → (b c : Bool) → ltb r.number l.last ≡ c → (d : Bool) → ltb (l.last + 1) r.number ≡ d → After (cond a (l, Ok r.number) (cond b (refused l code.Terminated) (cond c (refused l code.NumberBelow) (cond d (refused l code.NumberAbove) (after_take l q, Ok r.number)))))
        go true e b c f d g = same_ledger (Ok r.number)
        go false e true c f d g = same_ledger (Err (call_fault code.Terminated 0))
        go false e false true f d g = same_ledger (Err (call_fault code.NumberBelow 0))
        go false e false false f true g = same_ledger (Err (call_fault code.NumberAbove 0))
        go false e false false f false g =
            accepts (omega (arith, number_is, eqb-false r.number l.last e, ltb-false r.number l.last f, ltb-false (l.last + 1) r.number g)) (Ok r.number)

  arrives : (bs : List ℕ) → Reported w.made bs → After (ledger.take l bs)
  arrives bs a = subst (λ x. After (ledger.taken l x)) (sym a.reads) (takes a.place a.report a.stands)

  pub keeps_take : (i : ℕ) → Inv ceiling (arrived w (slice_get w.reports i))
  keeps_take i = go (slice_get w.reports i) refl
    where
      go : (o : Option (List ℕ)) → slice_get w.reports i ≡ o → Inv ceiling (arrived w o)
      go None e = inv
      go (Some bs) e = arrives bs (all_nth (Reported w.made) w.reports i bs inv.link.reported e)

  -- REPLY AND GIVE UP

  writes : (i size : ℕ) (r : Result (List ℕ) Fault) → writing (answer_fault (fixed_answer l)) (answer_octets (fixed_answer l)) size ≡ r → Inv ceiling (replying w i r)
  writes i size (Err f) e =
      record { slots = inv.slots; latest = inv.latest; waits = inv.waits; ledger = inv.ledger; link = inv.link; balances = inv.balances }
  writes i size (Ok bs) e =
      let is = writing_is (answer_fault (fixed_answer l)) (answer_octets (fixed_answer l)) size bs e in
      let reads : read_answer bs ≡ Ok (located answer_at answer_data (fixed_answer l)) = ap read_answer is.1 ∙ trip.answers (fixed_answer l) inv.ledger.few is.0 in
      record {
        slots = inv.slots;
        latest = inv.latest;
        waits = inv.waits;
        ledger = inv.ledger;
        link = record {
          numbers = inv.link.numbers;
          reported = inv.link.reported;
          answers = inv.link.answers;
          current = inv.link.current;
          replied = All-push (Replied inv.link.answers l.last) w.replies bs inv.link.replied
              (record { answer = located answer_at answer_data (fixed_answer l); reads = reads; known = omega arith; octets = is.1 ∙ inv.link.current });
        };
        balances = inv.balances;
      }

  pub keeps_reply : (i size : ℕ) → Inv ceiling (repaying w i size (slice_get w.debts i))
  keeps_reply i size = go (slice_get w.debts i)
    where
      whether : (b : Bool) → Inv ceiling (replying w i (cond b (writing (answer_fault (fixed_answer l)) (answer_octets (fixed_answer l)) size) (Err (call_fault code.OldDebt 0))))
      whether true = writes i size (writing (answer_fault (fixed_answer l)) (answer_octets (fixed_answer l)) size) refl
      whether false =
          record { slots = inv.slots; latest = inv.latest; waits = inv.waits; ledger = inv.ledger; link = inv.link; balances = inv.balances }

      go : (o : Option ℕ) → Inv ceiling (repaying w i size o)
      go None = inv
      go (Some debt) = whether (eqb debt l.last)

  pub keeps_give_up : (i : ℕ) → Inv ceiling (forgiving w i (slice_get w.debts i))
  keeps_give_up i = go (slice_get w.debts i)
    where
      go : (o : Option ℕ) → Inv ceiling (forgiving w i o)
      go None = inv
      go (Some debt) =
          record { slots = inv.slots; latest = inv.latest; waits = inv.waits; ledger = inv.ledger; link = inv.link; balances = inv.balances }
