-- What is at its threshold is noticed, and the ceiling stops no packet before. Assumes nothing.
use Rattle.std.proofs.Common.{◌≡◌, ℕ, ◌+◌, ◌<◌, ◌≤◌, Bool, true, false, cond, not, ◌&&◌, ◌||◌, eqb, ltb, leb, List, [], ◌∷◌, map, Some, None, Ok, Err, Option, Result, sym, refl, ap, subst, arith}
use Rattle.std.specs.List.{AllByRecursion, list_any}
use Rattle.std.proofs.ByRecursion.{All-weaker}
use Rattle.std.proofs.lemmas.Bool.{and_parts, eqb-true, false≢true, le-leb, leb-true, ltb-true, or_left, or_right}
use Rattle.fault.specs.declared.Code.TheVariants as code
use Rattle.fault.specs.declared.Fault.{Fault}
use Rattle.fault.specs.Numbers.{call_fault, number_of}
use Rattle.units.specs.declared.values.Units.{Units}
use Rattle.units.specs.declared.values.Units.TheVariants.{Total, Uplink, Downlink, Both}
use Rattle.bank.specs.declared.counts.Counts.{Counts}
use Rattle.bank.specs.Meaning.{count_of}
use Rattle.usage.specs.declared.values.Place.{Place}
use Rattle.usage.specs.declared.values.Rule.{Rule}
use Rattle.usage.specs.Forms.{covers, met}
use Rattle.usage.specs.Tables.{tally}
use Rattle.usage.specs.Slots.{Slot, counts, holds, passes}
use Rattle.usage.specs.Meter.{Meter, refused, with_slots}
use Rattle.usage.specs.Rules.{rule_fits, rule_of}
use Rattle.usage.specs.Traffic.{carried, overflows, packet_fits, raised_at, takes, traffic}
use Rattle.usage.specs.Balance.{Noticed, reached_by}
use Rattle.usage.proofs.Inv.{Low, SlotAt, SlotOk}

pub slot_noticed : (ceiling : ℕ) (s : Slot) → SlotOk ceiling s → Noticed s
slot_noticed ceiling s ok p is counting full = (subst (λ o. SlotAt ceiling o s.counts) is ok).noticed counting full

uplink_is : (d : ℕ) (c : Counts) → eqb d 0 ≡ true → count_of c d ≡ c.uplink
uplink_is d c e = ap (λ b. cond b c.uplink c.downlink) e

count_le : (d : ℕ) (c : Counts) → count_of c d ≤ c.uplink + c.downlink
count_le d c = go (eqb d 0)
  where
    go : (b : Bool) → cond b c.uplink c.downlink ≤ c.uplink + c.downlink
    go true = omega arith
    go false = omega arith

met_by : (ceiling d : ℕ) (u : Units) (c : Counts) → covers u d ≡ true → Low ceiling u → ceiling < count_of c d + 65535 → met u c ≡ true
met_by ceiling d (Total t) c e low over = le-leb t (c.uplink + c.downlink) (omega (arith, count_le d c))
met_by ceiling d (Uplink u) c e low over = le-leb u c.uplink (omega (arith, uplink_is d c e))
met_by ceiling d (Downlink v) c e low over =
    let is : count_of c d ≡ c.downlink = ap (λ n. count_of c n) (eqb-true d 1 e) in
    le-leb v c.downlink (omega (arith, is))
met_by ceiling d (Both u v) c e low over = go (eqb d 0) over
  where
    go : (b : Bool) → ceiling < cond b c.uplink c.downlink + 65535 → (leb u c.uplink || leb v c.downlink) ≡ true
    go true h = or_left (leb u c.uplink) (leb v c.downlink) (le-leb u c.uplink (omega (arith, low.0)))
    go false h = or_right (leb u c.uplink) (leb v c.downlink) (le-leb v c.downlink (omega (arith, low.1)))

both_true : (a b : Bool) → a ≡ true → b ≡ true → (a && b) ≡ true
both_true true true e f = refl
both_true true false e f = absurd (false≢true f)
both_true false b e f = absurd (false≢true e)

overflow_reached : (ceiling : ℕ) (r : Rule) (d x : ℕ) → x ≤ 65535 → (s : Slot) → SlotOk ceiling s → overflows ceiling r.key d x s ≡ true → reached_by (Some r) d s ≡ true
overflow_reached ceiling r d x small s ok e =
    let parts = and_parts (holds (takes r.key d) s) (ltb ceiling (count_of s.counts d + x)) e in
    go s.place ok parts.0 (omega (arith, ltb-true ceiling (count_of s.counts d + x) parts.1))
  where
    go : (o : Option Place) → SlotAt ceiling o s.counts → passes (takes r.key d) o ≡ true → ceiling < count_of s.counts d + 65535 → passes (λ p. takes r.key d p && met p.thresholds s.counts) o ≡ true
    go None h t over = absurd (false≢true t)
    go (Some p) h t over =
        let covered = (and_parts (covers p.thresholds d) _ (and_parts (counts p) _ t).1).0 in
        both_true (takes r.key d p) (met p.thresholds s.counts) t (met_by ceiling d p.thresholds s.counts covered h.low over)

any_by : (p q : Slot → Bool) (ss : List Slot) → AllByRecursion (λ s. p s ≡ true → q s ≡ true) ss → list_any p ss ≡ true → list_any q ss ≡ true
any_by p q [] h e = absurd (false≢true e)
any_by p q (s ∷ ss) h e = go (p s) refl e (λ f. any_by p q ss h.1 f)
  where
    go : (b : Bool) → p s ≡ b → (b || list_any p ss) ≡ true → (list_any p ss ≡ true → list_any q ss ≡ true) → (q s || list_any q ss) ≡ true
    go true is f ih = or_left (q s) (list_any q ss) (h.0 is)
    go false is f ih = or_right (q s) (list_any q ss) (ih f)

abbrev code_in : Result ℕ Fault → ℕ
code_in (Ok n) = 0
code_in (Err f) = number_of f.code

module _ (ceiling : ℕ) (m : Meter) (ok : AllByRecursion (SlotOk ceiling) m.slots) (n d x : ℕ) where
  abbrev Reached : Meter × Result ℕ Fault → Type 0
  Reached r = r.1 ≡ Err (call_fault code.Ceiling 0) → list_any (reached_by (rule_of n m.rules) d) m.slots ≡ true

  by_rule : x ≤ 65535 → (o : Option Rule) → rule_of n m.rules ≡ o → Reached (carried ceiling m o d x)
  by_rule small None is e = let f : ◌≡◌ {A = ℕ} 12 19 = ap code_in e in absurd (omega (arith, f))
  by_rule small (Some r) is e = go (list_any (overflows ceiling r.key d x) m.slots) refl e
    where
      go : (b : Bool) → list_any (overflows ceiling r.key d x) m.slots ≡ b → Reached (cond b (refused m code.Ceiling) (with_slots m (map (raised_at r.key d x) m.slots), Ok (tally (holds (takes r.key d)) m.slots)))
      go true over e =
          subst (λ o. list_any (reached_by o d) m.slots ≡ true) (sym is)
          (any_by (overflows ceiling r.key d x) (reached_by (Some r) d) m.slots (All-weaker (SlotOk ceiling) _ (overflow_reached ceiling r d x small) m.slots ok) over)
      go false over e = let f : ◌≡◌ {A = ℕ} 0 19 = ap code_in e in absurd (omega (arith, f))

  pub room : Reached (traffic ceiling m n d x)
  room e = go (packet_fits n d x) refl m.terminated e
    where
      small : packet_fits n d x ≡ true → x ≤ 65535
      small fits = leb-true x 65535 (and_parts (leb 1 x) _ (and_parts (leb d 1) _ (and_parts (rule_fits n) _ fits).1).1).1

      go : (a : Bool) → packet_fits n d x ≡ a → (b : Bool) → Reached (cond (not a) (refused m code.Range) (cond b (refused m code.Terminated) (carried ceiling m (rule_of n m.rules) d x)))
      go false fits b e = let f : ◌≡◌ {A = ℕ} 5 19 = ap code_in e in absurd (omega (arith, f))
      go true fits true e = let f : ◌≡◌ {A = ℕ} 7 19 = ap code_in e in absurd (omega (arith, f))
      go true fits false e = by_rule (small fits) (rule_of n m.rules) refl e
