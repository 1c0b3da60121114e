-- The faults of a group lie within the message, if those of its members' values do.
use Rattle.std.proofs.Common.{◌≡◌, ℕ, zero, suc, ◌+◌, ◌-◌, ◌≤◌, Bool, true, false, cond, List, length, drop, Some, None, Ok, Err, Option, Result, sym, refl, subst, arith, lit≤}
use Rattle.std.proofs.lemmas.List.{length-take, length-drop}
use Rattle.std.proofs.lemmas.Bool.Decides.{nat_tests}
use Rattle.fault.specs.declared.Code.{Code}
use Rattle.fault.specs.declared.Code.TheVariants.{Overrun, UnknownAvp, Absent, Repeated, Foreign, Width, Range}
use Rattle.fault.specs.declared.Fault.{Fault}
use Rattle.fault.specs.Numbers.{number_of, message_fault}
use Rattle.fault.specs.Within.{InMessage}
use Rattle.avp.specs.declared.name.Name.{Name}
use Rattle.avp.specs.declared.field.Limits.{Limits}
use Rattle.avp.specs.Octets.{padded}
use Rattle.avp.specs.Header.{Span, Parsed, first_avp, fits_in, parsed, stated, header_length, flags_of, mandatory}
use Rattle.avp.specs.Names.{name_of}
use Rattle.avp.specs.Fields.{Value, Number, Key, Group, Format, Unsigned32, Unsigned64, KeyOctets, Grouped, format_of, allows, value_by, value_of, ranged}
use Rattle.group.specs.Walk.{Avps, End, Broken, Next, avps, avps_by, linked, then, gather}
use Rattle.group.specs.Shapes as shape
use Rattle.group.specs.Members.{Rules, misplaced, named, member, read_group, meaning}

-- a fault with one of the codes of a message
pub made : (size : ℕ) (c : Code) (at : ℕ) → 1 ≤ number_of c → number_of c ≤ 6 → at ≤ size → InMessage size (message_fault c at)
made size c at low high h = record { least = low; most = high; layer = refl; place = h }

-- a result whose value has a property, or whose refusal is a fault in the message
pub data Fine {X : Type 0} (size : ℕ) (P : X → Type 0) : Result X Fault → Type 0 where
  fine : {x : X} → P x → Fine size P (Ok x)
  faulty : {f : Fault} → InMessage size f → Fine size P (Err f)

-- a refusal, if any, is a fault in the message
abbrev pub Inside : {X : Type 0} → ℕ → Result X Fault → Type 0
Inside size r = Fine size (λ _. Unit {0}) r

module _ {X : Type 0} {size : ℕ} {P : X → Type 0} where
  pub fine_then : {Y : Type 0} {Q : Y → Type 0} (r : Result X Fault) (k : X → Result Y Fault) → Fine size P r → ((x : X) → P x → Fine size Q (k x)) → Fine size Q (then r k)
  fine_then (Ok x) k (fine h) go = go x h
  fine_then (Err f) k (faulty h) go = faulty h

  pub fine_cond : (b : Bool) (x y : Result X Fault) → Fine size P x → Fine size P y → Fine size P (cond b x y)
  fine_cond true x y p q = p
  fine_cond false x y p q = q

pub fine_meaning : {W V : Type 0} {size : ℕ} (f : W → V) (r : Result W Fault) → Inside size r → Inside size (meaning f r)
fine_meaning f (Ok w) (fine h) = fine tt
fine_meaning f (Err e) (faulty h) = faulty h

pub fault_of_lem : {X : Type 0} {size : ℕ} (r : Result X Fault) → Inside size r → (f : Fault) → r ≡ Err f → InMessage size f
fault_of_lem (Ok x) h f e = let z : ◌≡◌ {A = ℕ} 0 1 = cc in absurd (omega arith)
fault_of_lem {size = size} (Err g) (faulty h) f e = let same : g ≡ f = cc in subst (InMessage size) same h

abbrev pub SpanIn : ℕ → Span → Type 0
SpanIn size s = s.place + length s.octets ≤ size

pub record ParsedIn (size : ℕ) (a : Parsed) : Type 0 where
  pub place : a.place ≤ size
  pub body : SpanIn size a.body
  pub rest : SpanIn size a.rest

abbrev pub ValueIn : ℕ → Value → Type 0
ValueIn size (Number n) = Unit {0}
ValueIn size (Key ks) = Unit {0}
ValueIn size (Group s) = SpanIn size s

-- one AVP
parsed_in : (size at : ℕ) (bs : List ℕ) → at + length bs ≤ size → fits_in bs ≡ true → ParsedIn size (parsed at bs)
parsed_in size at bs h e =
    let h1 : header_length (flags_of bs) ≤ stated bs = grind (arith, nat_tests) in
    let h2 : padded (stated bs) ≤ length bs = grind (arith, nat_tests) in
    record {
      place = omega arith;
      body = omega (arith, length-take (stated bs - header_length (flags_of bs)) (drop (header_length (flags_of bs)) bs), length-drop (header_length (flags_of bs)) bs);
      rest = omega (arith, length-drop (padded (stated bs)) bs);
    }

first_at : (size at : ℕ) (bs : List ℕ) (b : Bool) → b ≡ fits_in bs → at + length bs ≤ size → Fine size (ParsedIn size) (cond b (Ok (parsed at bs)) (Err (message_fault Overrun at)))
first_at size at bs true e h = fine (parsed_in size at bs h (sym e))
first_at size at bs false e h = faulty (made size Overrun at (lit≤ tt) (lit≤ tt) (omega arith))

first_in : (size : ℕ) (s : Span) → SpanIn size s → Fine size (ParsedIn size) (first_avp s.place s.octets)
first_in size s h = first_at size s.place s.octets (fits_in s.octets) refl h

pub refused : {X : Type 0} {P : X → Type 0} (size : ℕ) (c : Code) (at : ℕ) → 1 ≤ number_of c → number_of c ≤ 6 → at ≤ size → Fine size P (Err (message_fault c at))
refused size c at low high h = faulty (made size c at low high h)

ranged_in : (size : ℕ) (n : ℕ) (l : Limits) (a : Parsed) → ParsedIn size a → Fine size (ValueIn size) (ranged n l a)
ranged_in size n l a h = fine_cond (allows l n) _ _ (fine tt) (refused size Range a.place (lit≤ tt) (lit≤ tt) h.place)

width_in : (size : ℕ) (b : Bool) (r : Result Value Fault) (a : Parsed) → ParsedIn size a → Fine size (ValueIn size) r → Fine size (ValueIn size) (cond b r (Err (message_fault Width a.place)))
width_in size b r a h k = fine_cond b r _ k (refused size Width a.place (lit≤ tt) (lit≤ tt) h.place)

format_in : (size : ℕ) (f : Format) (l : Limits) (a : Parsed) → ParsedIn size a → Fine size (ValueIn size) (value_by f l a)
format_in size Unsigned32 l a h = width_in size _ _ a h (ranged_in size _ l a h)
format_in size Unsigned64 l a h = width_in size _ _ a h (ranged_in size _ l a h)
format_in size KeyOctets l a h = width_in size _ _ a h (fine tt)
format_in size Grouped l a h = fine h.body

-- all AVPs
abbrev AvpsIn : ℕ → Avps → Type 0
AvpsIn size End = Unit {0}
AvpsIn size (Broken f) = InMessage size f
AvpsIn size (Next a more) = ParsedIn size a × AvpsIn size more

linked_in : (size : ℕ) (r : Result Parsed Fault) (more : Span → Avps) → Fine size (ParsedIn size) r → ((s : Span) → SpanIn size s → AvpsIn size (more s)) → AvpsIn size (linked r more)
linked_in size (Ok a) more (fine h) go = (h, go a.rest h.rest)
linked_in size (Err f) more (faulty h) go = h

cond_in : (size : ℕ) (b : Bool) (more : Avps) → AvpsIn size more → AvpsIn size (cond b End more)
cond_in size true more h = tt
cond_in size false more h = h

by_in : (size turns : ℕ) (s : Span) → SpanIn size s → AvpsIn size (avps_by turns s)
by_in size zero s h = tt
by_in size (suc k) s h = cond_in size _ _ (linked_in size _ (avps_by k) (first_in size s h) (by_in size k))

misplaced_in : (size : ℕ) (again : Bool) (a : Parsed) → ParsedIn size a → InMessage size (misplaced again a)
misplaced_in size true a h = made size Repeated a.place (lit≤ tt) (lit≤ tt) h.place
misplaced_in size false a h = made size Foreign a.place (lit≤ tt) (lit≤ tt) h.place

-- a group, if taking one member more has no fault outside the message
module _ {S V : Type 0} (size : ℕ) (r : Rules S V) (puts : (s : S) (n : Name) (v : Value) (at : ℕ) → at ≤ size → ValueIn size v → Inside size (r.puts s n v at)) where
  named_in : (s : S) (a : Parsed) (o : Option Name) → ParsedIn size a → Inside size (named r s a o)
  named_in s a None h = fine_cond (mandatory a.flags) _ _ (refused size UnknownAvp a.place (lit≤ tt) (lit≤ tt) h.place) (fine tt)
  named_in s a (Some n) h =
      fine_cond (shape.admits (r.shapes s) (r.holds s) n) _ _
      (fine_then (value_of n (r.limits s n) a) _ (format_in size (format_of n) (r.limits s n) a h) (λ v inside. puts s n v a.place h.place inside))
      (faulty (misplaced_in size (shape.repeated (r.holds s) n) a h))

  gather_in : (s : S) (l : Avps) → AvpsIn size l → Inside size (gather (member r) s l)
  gather_in s End h = fine tt
  gather_in s (Broken f) h = faulty h
  gather_in s (Next a more) h = fine_then (member r s a) _ (named_in s a (name_of a.code a.vendor) h.0) (λ t _. gather_in t more h.1)

  pub read_in : (s : S) (g : Span) → SpanIn size g → Inside size (read_group r s g)
  unfolding avps
  read_in s g h =
      fine_then (gather (member r) s (avps g)) _ (gather_in s (avps g) (by_in size (length g.octets) g h))
      (λ t _. fine_cond (shape.complete (r.shapes t) (r.holds t)) _ _ (fine tt) (refused size Absent _ (lit≤ tt) (lit≤ tt) h))
