-- The form of a key: which counts it covers, when they meet its thresholds, and what is reported of them.
use Rattle.std.specs.Prelude.{ℕ, ◌+◌, ◌-◌, min, Bool, true, false, ◌||◌, ◌==◌, nat_le}
use Rattle.units.specs.declared.values.Units.{Units}
use Rattle.units.specs.declared.values.Units.TheVariants.{Total, Uplink, Downlink, Both}
use Rattle.bank.specs.declared.counts.Counts.{Counts}

-- direction 0 is uplink, 1 is downlink
abbrev pub covers : Units → ℕ → Bool
covers (Total t) d = true
covers (Uplink t) d = d == 0
covers (Downlink t) d = d == 1
covers (Both u v) d = true

-- a count is at or above its threshold
abbrev pub met : Units → Counts → Bool
met (Total t) c = nat_le t (c.uplink + c.downlink)
met (Uplink u) c = nat_le u c.uplink
met (Downlink v) c = nat_le v c.downlink
met (Both u v) c = nat_le u c.uplink || nat_le v c.downlink

abbrev pub same_form : Units → Units → Bool
same_form (Total t) (Total s) = true
same_form (Total t) (Uplink u) = false
same_form (Total t) (Downlink v) = false
same_form (Total t) (Both u v) = false
same_form (Uplink s) (Total t) = false
same_form (Uplink s) (Uplink u) = true
same_form (Uplink s) (Downlink v) = false
same_form (Uplink s) (Both u v) = false
same_form (Downlink s) (Total t) = false
same_form (Downlink s) (Uplink u) = false
same_form (Downlink s) (Downlink v) = true
same_form (Downlink s) (Both u v) = false
same_form (Both r s) (Total t) = false
same_form (Both r s) (Uplink u) = false
same_form (Both r s) (Downlink v) = false
same_form (Both r s) (Both u v) = true

-- each number of a form, changed
abbrev pub each_number : (ℕ → ℕ) → Units → Units
each_number f (Total t) = Total (f t)
each_number f (Uplink u) = Uplink (f u)
each_number f (Downlink v) = Downlink (f v)
each_number f (Both u v) = Both (f u) (f v)

-- a threshold above the ceiling less 65,534 is taken as that number, so that it is met before the ceiling stops a packet
abbrev pub clamped : ℕ → Units → Units
clamped ceiling u = each_number (λ t. min t (ceiling - 65534)) u

-- the counts of a form, as they are reported
abbrev pub used_in : Units → Counts → Units
used_in (Total t) c = Total (c.uplink + c.downlink)
used_in (Uplink u) c = Uplink c.uplink
used_in (Downlink v) c = Downlink c.downlink
used_in (Both u v) c = Both c.uplink c.downlink

-- all octets of a unit group
abbrev pub octets_in : Units → ℕ
octets_in (Total t) = t
octets_in (Uplink u) = u
octets_in (Downlink v) = v
octets_in (Both u v) = u + v
