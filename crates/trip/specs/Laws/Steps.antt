-- One written AVP is one step of the reader.
use Rattle.std.proofs.Common.{◌≡◌, ℕ, ◌+◌, ◌*◌, ◌/◌, ◌%◌, ◌^◌, ◌<◌, ◌≤◌, true, cond, eqb, List, [], ◌++◌, length, Some, None, Ok, Err, Option, Result, sym, refl, ap, ◌∙◌, arith, length-append}
use native.Mathlib.Nat.{div-div-eq-div-mul}
use Rattle.std.proofs.lemmas.Bool.{cond-true}
use Rattle.fault.specs.declared.Code.TheVariants.{Width}
use Rattle.fault.specs.declared.Fault.{Fault}
use Rattle.fault.specs.Numbers.{message_fault}
use Rattle.avp.specs.declared.name.Name.{Name}
use Rattle.avp.specs.declared.field.Limits.{Limits}
use Rattle.avp.specs.Octets.{u32_at, u64_at}
use Rattle.avp.specs.Header.{Span, Parsed}
use Rattle.avp.specs.Names.{vendor_of}
use Rattle.avp.specs.Fields.{Value, Number, Key, Unsigned32, Unsigned64, KeyOctets, allows, ranged, value_by, value_of}
use Rattle.group.specs.Walk.{then, avps, gather}
use Rattle.group.specs.Shapes as shape
use Rattle.group.specs.Members.{Rules, named, member, ended, read_group}
use Rattle.group.proofs.Walks.{gather_next, gather_ends}
use Rattle.key.specs.Keys.{key_long}
use Rattle.draft.specs.Octets.{be32, be64, written}
use Rattle.wire.specs.Lengths.{header_size, written_length}
use Rattle.trip.specs.Laws.First.{seen, first_written, name_back, u32_back}

pub some : (n : Name) (ds rest : List ℕ) → 0 < length (written n ds ++ rest)
some n ds rest = omega (arith, length-append (written n ds) rest, written_length n ds, head (vendor_of n))
  where
    head : (o : Option ℕ) → 8 ≤ header_size o
    head None = omega arith
    head (Some v) = omega arith

module _ {S V : Type 0} (r : Rules S V) (s t : S) (n : Name) (v : Value) (at : ℕ) (ds rest : List ℕ) where
  took : shape.admits (r.shapes s) (r.holds s) n ≡ true → value_of n (r.limits s n) (seen n at ds rest) ≡ Ok v → r.puts s n v at ≡ Ok t → member r s (seen n at ds rest) ≡ Ok t
  took fits is put =
      ap (named r s (seen n at ds rest)) (name_back n)
      ∙ cond-true _ _ _ fits
      ∙ ap (λ x. then x (λ y. r.puts s n y at)) is
      ∙ put

  pub step : length ds < 65536 → shape.admits (r.shapes s) (r.holds s) n ≡ true → value_of n (r.limits s n) (seen n at ds rest) ≡ Ok v → r.puts s n v at ≡ Ok t → gather (member r) s (avps (record { place = at; octets = written n ds ++ rest })) ≡ gather (member r) t (avps (seen n at ds rest).rest)
  step short fits is put =
      gather_next (member r) (record { place = at; octets = written n ds ++ rest }) s (some n ds rest) (seen n at ds rest) t (sym (first_written n at ds rest short)) (sym (took fits is put))

-- numbers and keys come back
pub value_32 : (l : Limits) (a : Parsed) (x : ℕ) → a.body.octets ≡ be32 x → x < 2 ^ 32 → allows l x ≡ true → value_by Unsigned32 l a ≡ Ok (Number x)
value_32 l a x e small fits =
    ap (λ (bs : List ℕ). cond (eqb (length bs) 4) (ranged (u32_at bs 0) l a) (Err (message_fault Width a.place))) e
    ∙ ap (λ (y : ℕ). ranged y l a) (u32_back x small)
    ∙ cond-true _ _ _ fits

u32_low : (n : ℕ) → u32_at (be32 n) 0 ≡ n % 4294967296
u32_low n =
    let a : n / 65536 ≡ n / 256 / 256 = sym (div-div-eq-div-mul n 256 256) in
    let b : n / 16777216 ≡ n / 65536 / 256 = sym (div-div-eq-div-mul n 65536 256) in
    grind arith

pub u64_back : (n : ℕ) → n < 2 ^ 64 → u64_at (be64 n) 0 ≡ n
u64_back n h =
    (λ i. u32_back (n / 4294967296) (omega arith) i * 4294967296 + u32_low n i)
    ∙ omega arith

pub value_64 : (l : Limits) (a : Parsed) (x : ℕ) → a.body.octets ≡ be64 x → x < 2 ^ 64 → allows l x ≡ true → value_by Unsigned64 l a ≡ Ok (Number x)
value_64 l a x e small fits =
    ap (λ (bs : List ℕ). cond (eqb (length bs) 8) (ranged (u64_at bs 0) l a) (Err (message_fault Width a.place))) e
    ∙ ap (λ (y : ℕ). ranged y l a) (u64_back x small)
    ∙ cond-true _ _ _ fits

pub value_key : (l : Limits) (a : Parsed) → key_long a.body.octets ≡ true → value_by KeyOctets l a ≡ Ok (Key a.body.octets)
value_key l a long = cond-true _ _ _ long

-- the end of a group
pub closed : {S V : Type 0} (r : Rules S V) (s t : S) (g : Span) (bs : List ℕ) (place : ℕ) (v : V) → g.octets ≡ bs → gather (member r) s (avps (record { place = g.place; octets = bs })) ≡ gather (member r) t (avps (record { place = place; octets = [] })) → ended r g t ≡ Ok v → read_group r s g ≡ Ok v
closed r s t g bs place v is e last =
    ap (λ (x : List ℕ). then (gather (member r) s (avps (record { place = g.place; octets = x }))) (ended r g)) is
    ∙ ap (λ x. then x (ended r g)) (e ∙ gather_ends (member r) (record { place = place; octets = [] }) t refl)
    ∙ last

-- what is made of what was made
pub then_made : {X Y Z : Type 0} (r : Result X Fault) (f : X → Y) (g : Y → Z) → then (then r (λ x. Ok (f x))) (λ y. Ok (g y)) ≡ then r (λ x. Ok (g (f x)))
then_made (Ok x) f g = refl
then_made (Err e) f g = refl
