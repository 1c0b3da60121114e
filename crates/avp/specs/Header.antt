-- One AVP at the head of octets: code (32 bits), flags (8), length (24, of header and data), vendor (32, only with
-- flag 80), data, then padding to a multiple of 4.
use Rattle.std.specs.Prelude.{ℕ, ◌+◌, ◌-◌, Bool, cond, not, ◌&&◌, List, length, take, drop, Some, None, Ok, Err, Option, Result, ◌==◌, bit_and, nat_le, slice_index}
use Rattle.fault.specs.declared.Code.TheVariants.{Overrun}
use Rattle.fault.specs.declared.Fault.{Fault}
use Rattle.fault.specs.Numbers.{message_fault}
use Rattle.avp.specs.declared.part.Part.{Part}
use Rattle.avp.specs.declared.header.Avp.{Avp}
use Rattle.avp.specs.Octets.{u24_at, u32_at, padded}

-- octets of a message, with the place of the first
pub record Span : Type 0 where
  pub place : ℕ
  pub octets : List ℕ

-- an AVP that was read: where it starts, its data without the padding, and what follows it
pub record Parsed : Type 0 where
  pub code : ℕ
  pub flags : ℕ
  pub vendor : Option ℕ
  pub place : ℕ
  pub body : Span
  pub rest : Span

-- flag 80: a vendor follows
abbrev pub vendored : ℕ → Bool
vendored flags = not (bit_and flags 0x80 == 0)

-- flag 40: an AVP that is not known must not be skipped
abbrev pub mandatory : ℕ → Bool
mandatory flags = not (bit_and flags 0x40 == 0)

abbrev pub header_length : ℕ → ℕ
header_length flags = cond (vendored flags) 12 8

abbrev pub flags_of : List ℕ → ℕ
flags_of bs = slice_index bs 4

-- the length that the header states
abbrev pub stated : List ℕ → ℕ
stated bs = u24_at bs 5

abbrev pub parsed : ℕ → List ℕ → Parsed
parsed at bs = record {
  code = u32_at bs 0;
  flags = flags_of bs;
  vendor = cond (vendored (flags_of bs)) (Some (u32_at bs 8)) None;
  place = at;
  body = record {
    place = at + header_length (flags_of bs);
    octets = take (stated bs - header_length (flags_of bs)) (drop (header_length (flags_of bs)) bs);
  };
  rest = record {
    place = at + padded (stated bs);
    octets = drop (padded (stated bs)) bs;
  };
}

-- an AVP at the head of octets lies within them: its header, its length and its padding
abbrev pub fits_in : List ℕ → Bool
fits_in bs = nat_le 8 (length bs) && nat_le (header_length (flags_of bs)) (stated bs) && nat_le (padded (stated bs)) (length bs)

-- the AVP at the head of octets that start at a place and end with their group or message
abbrev pub first_avp : ℕ → List ℕ → Result Parsed Fault
first_avp at bs = cond (fits_in bs) (Ok (parsed at bs)) (Err (message_fault Overrun at))

-- the code's values as those above
abbrev pub span : Part → Span
span p = record { place = p.place; octets = p.octets.now }

abbrev pub seen : Avp → Parsed
seen a = record { code = a.code; flags = a.flags; vendor = a.vendor; place = a.place; body = span a.body; rest = span a.rest }

abbrev pub seen_of : Result Avp Fault → Result Parsed Fault
seen_of (Ok a) = Ok (seen a)
seen_of (Err f) = Err f
