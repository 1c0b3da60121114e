-- Reading a group: its members from left to right, and at its end whether one is missing.
use Rattle.std.specs.Prelude.{ℕ, ◌+◌, Bool, cond, List, length, Some, None, Ok, Err, Option, Result}
use Rattle.fault.specs.declared.Code.TheVariants.{UnknownAvp, Repeated, Foreign, Absent}
use Rattle.fault.specs.declared.Fault.{Fault}
use Rattle.fault.specs.Numbers.{message_fault}
use Rattle.avp.specs.declared.name.Name.{Name}
use Rattle.avp.specs.declared.field.Limits.{Limits}
use Rattle.avp.specs.Header.{Span, Parsed, mandatory}
use Rattle.avp.specs.Names.{name_of}
use Rattle.avp.specs.Fields.{Value, value_of}
use Rattle.group.specs.Shapes as shape
use Rattle.group.specs.Walk.{then, avps, gather}

-- how a kind of group is read: S is what is known of it so far, V what it is when it is whole
pub record Rules (S V : Type 0) : Type 1 where
  -- the permitted kinds, each by its members
  pub shapes : S → List (List Name)
  -- whether a member stands in it already
  pub holds : S → Name → Bool
  -- the numbers that a member may have
  pub limits : S → Name → Limits
  -- one member more, whose AVP starts at a place
  pub puts : S → Name → Value → ℕ → Result S Fault
  -- what it is, where no member is missing
  pub whole : S → V

-- an unknown AVP is skipped, unless its flag 40 forbids that
abbrev pub skipped : {S : Type 0} → S → Parsed → Result S Fault
skipped s a = cond (mandatory a.flags) (Err (message_fault UnknownAvp a.place)) (Ok s)

-- a known AVP that may not stand here
abbrev pub misplaced : Bool → Parsed → Fault
misplaced again a = message_fault (cond again Repeated Foreign) a.place

abbrev pub named : {S V : Type 0} → Rules S V → S → Parsed → Option Name → Result S Fault
named r s a None = skipped s a
named r s a (Some n) =
    cond (shape.admits (r.shapes s) (r.holds s) n)
    (then (value_of n (r.limits s n) a) (λ v. r.puts s n v a.place))
    (Err (misplaced (shape.repeated (r.holds s) n) a))

-- one AVP of the group
abbrev pub member : {S V : Type 0} → Rules S V → S → Parsed → Result S Fault
member r s a = named r s a (name_of a.code a.vendor)

-- the end of a group
abbrev pub ended : {S V : Type 0} → Rules S V → Span → S → Result V Fault
ended r g s = cond (shape.complete (r.shapes s) (r.holds s)) (Ok (r.whole s)) (Err (message_fault Absent (g.place + length g.octets)))

-- a whole group, or message, from its octets
abbrev pub read_group : {S V : Type 0} → Rules S V → S → Span → Result V Fault
read_group r s g = then (gather (member r) s (avps g)) (ended r g)

-- what a call leaves where it refuses nothing
abbrev pub left : {S : Type 0} → Result (Unit {0}) Fault → S → Result S Fault
left (Ok _) s = Ok s
left (Err f) s = Err f

-- a result by what its value means
abbrev pub meaning : {W V : Type 0} → (W → V) → Result W Fault → Result V Fault
meaning f (Ok w) = Ok (f w)
meaning f (Err e) = Err e
