-- The AVPs that stand one after the other in octets, and what is gathered from them from left to right.
use Rattle.std.specs.Prelude.{ℕ, zero, suc, cond, length, Ok, Err, Result, ◌==◌}
use Rattle.fault.specs.declared.Fault.{Fault}
use Rattle.avp.specs.Header.{Span, Parsed, first_avp}

-- the AVPs up to the end of the octets, or up to the first that overruns them
pub data Avps : Type 0 where
  End : Avps
  Broken : Fault → Avps
  Next : Parsed → Avps → Avps

-- `?`: go on with what was found, or leave with the fault
abbrev pub then : {X Y E : Type 0} → Result X E → (X → Result Y E) → Result Y E
then (Ok x) f = f x
then (Err e) f = Err e

abbrev pub linked : Result Parsed Fault → (Span → Avps) → Avps
linked (Ok a) more = Next a (more a.rest)
linked (Err f) more = Broken f

-- at most so many AVPs
abbrev pub avps_by : ℕ → Span → Avps
avps_by zero s = End
avps_by (suc turns) s = cond (length s.octets == 0) End (linked (first_avp s.place s.octets) (avps_by turns))

-- all of them: each takes octets, so there are no more AVPs than octets
unfoldable pub avps : Span → Avps
avps s = avps_by (length s.octets) s

-- each AVP in turn, up to the first fault
abbrev pub gather : {S : Type 0} → (S → Parsed → Result S Fault) → S → Avps → Result S Fault
gather step s End = Ok s
gather step s (Broken f) = Err f
gather step s (Next a more) = then (step s a) (λ t. gather step t more)
