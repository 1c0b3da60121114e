-- A Monitoring-Key: 1 to 16 octets, kept in sixteen with zeros behind them.
use Rattle.std.specs.Prelude.{ℕ, ◌-◌, min, Bool, cond, ◌&&◌, List, ◌++◌, length, take, replicate, Some, None, Option, ◌==◌, nat_le}
use Rattle.std.specs.Str.{bytes_eq}
use Rattle.key.specs.declared.key.Key.{Key}

abbrev pub key_long : List ℕ → Bool
key_long ks = nat_le 1 (length ks) && nat_le (length ks) 16

-- the key of these octets, if they are 1 to 16
abbrev pub key_of : List ℕ → Option Key
key_of ks = cond (key_long ks) (Some (record { octets = ks ++ replicate (16 - length ks) 0; size = length ks })) None

-- a key's octets
abbrev pub octets_of : Key → List ℕ
octets_of k = take (min k.size 16) k.octets

-- whether two keys are one
abbrev pub same_key : Key → Key → Bool
same_key a b = a.size == b.size && bytes_eq a.octets b.octets

-- no octets: no message holds this key
abbrev pub blank_key : Key
blank_key = record { octets = replicate 16 0; size = 0 }
