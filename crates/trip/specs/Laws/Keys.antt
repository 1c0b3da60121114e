-- A sound key is the key of its octets.
use Rattle.std.proofs.Common.{◌≡◌, ℕ, ◌<◌, ◌≤◌, Bool, true, false, cond, eqb, leb, length, Some, None, Option, refl, ap, arith}
use Rattle.std.proofs.lemmas.Slice.Eq.{bytes_eq-Decides}
use Rattle.std.proofs.lemmas.Bool.{and_parts, eqb-true, leb-true, false≢true}
use Rattle.std.specs.Str.{bytes_eq}
use Rattle.key.specs.declared.key.Key.{Key}
use Rattle.key.specs.Keys.{key_long, key_of, octets_of, same_key}
use Rattle.wire.specs.Sound.{key_is, sound_key}

pub same_key_lem : (j k : Key) → same_key j k ≡ true → j ≡ k
same_key_lem j k h =
    let parts = and_parts (eqb j.size k.size) (bytes_eq j.octets k.octets) h in
    let size = eqb-true j.size k.size parts.0 in
    let octets = (bytes_eq-Decides j.octets k.octets).0 parts.1 in
    λ i. record { octets = octets i; size = size i }

is_some : (o : Option Key) (k : Key) → key_is o k ≡ true → o ≡ Some k
is_some None k h = absurd (false≢true h)
is_some (Some j) k h = ap Some (same_key_lem j k h)

pub key_back : (k : Key) → sound_key k ≡ true → key_of (octets_of k) ≡ Some k
key_back k h = is_some (key_of (octets_of k)) k h

passed : (b : Bool) (j k : Key) → cond b (Some j) None ≡ Some k → b ≡ true
passed true j k e = refl
passed false j k e = let z : ◌≡◌ {A = ℕ} 0 1 = cc in absurd (omega arith)

pub key_long_lem : (k : Key) → sound_key k ≡ true → key_long (octets_of k) ≡ true
key_long_lem k h = passed (key_long (octets_of k)) _ k (key_back k h)

pub key_bound : (k : Key) → sound_key k ≡ true → length (octets_of k) ≤ 16
key_bound k h = leb-true (length (octets_of k)) 16 (and_parts (leb 1 (length (octets_of k))) (leb (length (octets_of k)) 16) (key_long_lem k h)).1

pub key_short : (k : Key) → sound_key k ≡ true → length (octets_of k) < 65536
key_short k h = omega (arith, key_bound k h)
