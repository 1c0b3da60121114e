-- The AVP at the head of octets that begin with a written one.
use Rattle.std.proofs.Common.{◌≡◌, ℕ, ◌+◌, ◌-◌, ◌/◌, ◌%◌, ◌^◌, ◌<◌, true, List, ◌++◌, length, take, drop, Some, None, Ok, Err, Option, sym, refl, ap, ◌∙◌, append_assoc, arith, lit<, length-append}
use native.Mathlib.Nat.{div-div-eq-div-mul}
use lib.ListN.{length-replicate}
use Rattle.std.proofs.lemmas.List.{take_at, drop_at, drop-drop}
use Rattle.std.proofs.lemmas.Bool.{cond-true}
use Rattle.std.proofs.lemmas.Bool.Decides.{nat_tests}
use Rattle.fault.specs.declared.Code.TheVariants.{Overrun}
use Rattle.fault.specs.Numbers.{message_fault}
use Rattle.avp.specs.declared.name.Name.{Name}
use Rattle.avp.specs.declared.name.Name.TheVariants.{CcRequestNumber, CcRequestType, CcInputOctets, CcOutputOctets, CcTotalOctets, GrantedServiceUnit, UsedServiceUnit, MonitoringKey, UsageMonitoringInformation, UsageMonitoringLevel, UsageMonitoringReport, UsageMonitoringSupport}
use Rattle.avp.specs.Names.{code_of, vendor_of, name_of}
use Rattle.avp.specs.Octets.{u24_at, u32_at, padded}
use Rattle.avp.specs.Header.{Parsed, parsed, stated, fits_in, first_avp}
use Rattle.wire.specs.Lengths.{header_size}
use Rattle.draft.specs.Octets.{be24, be32, plain_header, vendor_header, header_by, header_of, padding_of, written}

pub u32_back : (n : ℕ) → n < 2 ^ 32 → u32_at (be32 n) 0 ≡ n
u32_back n h =
    let a : n / 65536 ≡ n / 256 / 256 = sym (div-div-eq-div-mul n 256 256) in
    let b : n / 16777216 ≡ n / 65536 / 256 = sym (div-div-eq-div-mul n 65536 256) in
    grind arith

u24_back : (n : ℕ) → n < 2 ^ 24 → u24_at (be24 n) 0 ≡ n
u24_back n h =
    let a : n / 65536 ≡ n / 256 / 256 = sym (div-div-eq-div-mul n 256 256) in
    grind arith

-- the flags of a header
abbrev pub flags_by : Option ℕ → ℕ
flags_by None = 0x40
flags_by (Some v) = 0x80

abbrev pub VendorFits : Option ℕ → Type 0
VendorFits None = Unit {0}
VendorFits (Some v) = v < 2 ^ 32

-- the AVP that stands there
abbrev pub seen_as : ℕ → Option ℕ → ℕ → List ℕ → List ℕ → Parsed
seen_as code o at ds rest = record {
  code = code;
  flags = flags_by o;
  vendor = o;
  place = at;
  body = record { place = at + header_size o; octets = ds };
  rest = record { place = at + (header_size o + padded (length ds)); octets = rest };
}

module _ (at code : ℕ) (ds rest : List ℕ) (fits : code < 2 ^ 32) (short : length ds < 65536) where
  abbrev tail : List ℕ
  tail = (ds ++ padding_of (length ds)) ++ rest

  -- data, padding and what follows
  tail_length : length tail ≡ padded (length ds) + length rest
  tail_length =
      length-append (ds ++ padding_of (length ds)) rest
      ∙ ap (λ (n : ℕ). n + length rest) (length-append ds (padding_of (length ds)) ∙ ap (λ (n : ℕ). length ds + n) (length-replicate (padded (length ds) - length ds) 0) ∙ (let z : length ds + (padded (length ds) - length ds) ≡ padded (length ds) = omega arith in z))

  tail_data : take (length ds) tail ≡ ds
  tail_data = ap (take (length ds)) (append_assoc ds (padding_of (length ds)) rest) ∙ take_at ds (padding_of (length ds) ++ rest) (length ds) refl

  tail_rest : drop (padded (length ds)) tail ≡ rest
  tail_rest = drop_at (ds ++ padding_of (length ds)) rest (padded (length ds)) (length-append ds (padding_of (length ds)) ∙ ap (λ (n : ℕ). length ds + n) (length-replicate (padded (length ds) - length ds) 0) ∙ (let z : length ds + (padded (length ds) - length ds) ≡ padded (length ds) = omega arith in z))

  -- so many octets more than a header of h
  past : (h : ℕ) (bs : List ℕ) → drop h bs ≡ tail → h % 4 ≡ 0 → drop (padded (h + length ds)) bs ≡ rest
  past h bs e four =
      let more : padded (h + length ds) ≡ h + padded (length ds) = omega arith in
      ap (λ (n : ℕ). drop n bs) more ∙ sym (drop-drop (padded (length ds)) h bs) ∙ ap (drop (padded (length ds))) e ∙ tail_rest

  cut : (h n : ℕ) → n ≡ h + length ds → take (n - h) tail ≡ ds
  cut h n e = ap (λ (k : ℕ). take k tail) (let z : n - h ≡ length ds = omega arith in z) ∙ tail_data

  pub first_plain : first_avp at (plain_header code (length ds) ++ tail) ≡ Ok (seen_as code None at ds rest)
  first_plain =
      let bs : List ℕ = plain_header code (length ds) ++ tail in
      let size : stated bs ≡ 8 + length ds = u24_back (8 + length ds) (omega arith) in
      let all : length bs ≡ 8 + length tail = omega arith in
      let ok : fits_in bs ≡ true = grind (arith, nat_tests, size, all, tail_length) in
      let end : padded (stated bs) ≡ 8 + padded (length ds) = omega (arith, size) in
      cond-true (fits_in bs) (Ok (parsed at bs)) (Err (message_fault Overrun at)) ok
      ∙ ap Ok (λ i. record {
        code = u32_back code fits i;
        flags = 0x40;
        vendor = None;
        place = at;
        body = record { place = at + 8; octets = cut 8 (stated bs) size i };
        rest = record { place = at + end i; octets = (ap (λ (n : ℕ). drop (padded n) bs) size ∙ past 8 bs refl refl) i };
      })

  pub first_vendor : (v : ℕ) → v < 2 ^ 32 → first_avp at (vendor_header code v (length ds) ++ tail) ≡ Ok (seen_as code (Some v) at ds rest)
  first_vendor v small =
      let bs : List ℕ = vendor_header code v (length ds) ++ tail in
      let size : stated bs ≡ 12 + length ds = u24_back (12 + length ds) (omega arith) in
      let all : length bs ≡ 12 + length tail = omega arith in
      let ok : fits_in bs ≡ true = grind (arith, nat_tests, size, all, tail_length) in
      let end : padded (stated bs) ≡ 12 + padded (length ds) = omega (arith, size) in
      cond-true (fits_in bs) (Ok (parsed at bs)) (Err (message_fault Overrun at)) ok
      ∙ ap Ok (λ i. record {
        code = u32_back code fits i;
        flags = 0x80;
        vendor = Some (u32_back v small i);
        place = at;
        body = record { place = at + 12; octets = cut 12 (stated bs) size i };
        rest = record { place = at + end i; octets = (ap (λ (n : ℕ). drop (padded n) bs) size ∙ past 12 bs refl refl) i };
      })

  pub first_by : (o : Option ℕ) → VendorFits o → first_avp at (header_by code o (length ds) ++ tail) ≡ Ok (seen_as code o at ds rest)
  first_by None h = first_plain
  first_by (Some v) h = first_vendor v h

code_fits : (n : Name) → code_of n < 2 ^ 32
code_fits CcInputOctets = lit< tt
code_fits CcOutputOctets = lit< tt
code_fits CcRequestNumber = lit< tt
code_fits CcRequestType = lit< tt
code_fits CcTotalOctets = lit< tt
code_fits GrantedServiceUnit = lit< tt
code_fits UsedServiceUnit = lit< tt
code_fits MonitoringKey = lit< tt
code_fits UsageMonitoringInformation = lit< tt
code_fits UsageMonitoringLevel = lit< tt
code_fits UsageMonitoringReport = lit< tt
code_fits UsageMonitoringSupport = lit< tt

vendor_fits : (n : Name) → VendorFits (vendor_of n)
vendor_fits CcInputOctets = tt
vendor_fits CcOutputOctets = tt
vendor_fits CcRequestNumber = tt
vendor_fits CcRequestType = tt
vendor_fits CcTotalOctets = tt
vendor_fits GrantedServiceUnit = tt
vendor_fits UsedServiceUnit = tt
vendor_fits MonitoringKey = lit< tt
vendor_fits UsageMonitoringInformation = lit< tt
vendor_fits UsageMonitoringLevel = lit< tt
vendor_fits UsageMonitoringReport = lit< tt
vendor_fits UsageMonitoringSupport = lit< tt

-- an AVP that was written
abbrev pub seen : Name → ℕ → List ℕ → List ℕ → Parsed
seen n at ds rest = seen_as (code_of n) (vendor_of n) at ds rest

pub first_written : (n : Name) (at : ℕ) (ds rest : List ℕ) → length ds < 65536 → first_avp at (written n ds ++ rest) ≡ Ok (seen n at ds rest)
first_written n at ds rest short =
    ap (first_avp at) (append_assoc (header_of n (length ds)) (ds ++ padding_of (length ds)) rest)
    ∙ first_by at (code_of n) ds rest (code_fits n) short (vendor_of n) (vendor_fits n)

-- and is known by its name
pub name_back : (n : Name) → name_of (code_of n) (vendor_of n) ≡ Some n
name_back CcInputOctets = refl
name_back CcOutputOctets = refl
name_back CcRequestNumber = refl
name_back CcRequestType = refl
name_back CcTotalOctets = refl
name_back GrantedServiceUnit = refl
name_back UsedServiceUnit = refl
name_back MonitoringKey = refl
name_back UsageMonitoringInformation = refl
name_back UsageMonitoringLevel = refl
name_back UsageMonitoringReport = refl
name_back UsageMonitoringSupport = refl
