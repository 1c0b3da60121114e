-- Parts of octets are octets.
use Rattle.std.proofs.Common.{ℕ, zero, suc, ◌<◌, List, [], ◌∷◌, ◌++◌, length, get_or, arith, length-append}
use Rattle.avp.specs.declared.name.Name.{Name}
use Rattle.draft.specs.Octets.{header_of, padding_of, written}
use Rattle.wire.specs.Lengths.{written_length}
use Rattle.trip.specs.Own.{Octets}

small_left : (xs ys : List ℕ) → ((i : ℕ) → get_or (xs ++ ys) i 0 < 256) → (i : ℕ) → get_or xs i 0 < 256
small_left [] ys h i = omega arith
small_left (x ∷ xs) ys h zero = h 0
small_left (x ∷ xs) ys h (suc i) = small_left xs ys (λ j. h (suc j)) i

small_right : (xs ys : List ℕ) → ((i : ℕ) → get_or (xs ++ ys) i 0 < 256) → (i : ℕ) → get_or ys i 0 < 256
small_right [] ys h i = h i
small_right (x ∷ xs) ys h i = small_right xs ys (λ j. h (suc j)) i

pub left : (xs ys : List ℕ) → Octets (xs ++ ys) → Octets xs
left xs ys ok = record { small = small_left xs ys ok.small; short = omega (arith, length-append xs ys, ok.short) }

pub right : (xs ys : List ℕ) → Octets (xs ++ ys) → Octets ys
right xs ys ok = record { small = small_right xs ys ok.small; short = omega (arith, length-append xs ys, ok.short) }

pub data_of : (n : Name) (ds : List ℕ) → Octets (written n ds) → Octets ds
data_of n ds ok = record {
  small = small_left ds (padding_of (length ds)) (small_right (header_of n (length ds)) (ds ++ padding_of (length ds)) ok.small);
  short = omega (arith, written_length n ds, ok.short);
}
