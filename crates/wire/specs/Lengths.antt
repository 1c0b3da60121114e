-- How many octets the parts of a message have.
use Rattle.std.specs.Prelude.{◌≡◌, ℕ, ◌+◌, ◌-◌, ◌%◌, List, ◌++◌, length, replicate, Some, None, Option, refl}
use Rattle.std.proofs.Common.{sym, ap, ◌∙◌, append-nil, arith, length-append}
use Rattle.std.proofs.lemmas.List.{length-replicate}
use Rattle.avp.specs.declared.name.Name.{Name}
use Rattle.avp.specs.declared.name.Name.TheVariants.{MonitoringKey, UsedServiceUnit, GrantedServiceUnit, UsageMonitoringReport, UsageMonitoringSupport}
use Rattle.avp.specs.Octets.{padded}
use Rattle.avp.specs.Names.{code_of, vendor_of}
use Rattle.key.specs.declared.key.Key.{Key}
use Rattle.key.specs.Keys.{octets_of}
use Rattle.units.specs.declared.values.Level.{Level}
use Rattle.information.specs.declared.values.ReportGroup.{ReportGroup}
use Rattle.information.specs.declared.values.AnswerGroup.{AnswerGroup}
use Rattle.information.specs.declared.values.CommandGroup.{CommandGroup}
use Rattle.information.specs.declared.values.Order.{Order}
use Rattle.information.specs.declared.values.Order.TheVariants.{Grant, Disable, Request}
use Rattle.units.specs.declared.values.Units.{Units}
use Rattle.units.specs.declared.values.Units.TheVariants.{Total, Uplink, Downlink, Both}
use Rattle.draft.specs.Octets.{header_by, header_of, key_avp, number_avp, padding_of, written}
use Rattle.wire.specs.Octets.{units_data, units_avp, level_avp, counted_data, report_data, granted_data, terms_data, answer_data, order_data, command_data}

-- how long a header is
abbrev pub header_size : Option ℕ → ℕ
header_size None = 8
header_size (Some v) = 12

header_length_lem : (code : ℕ) (o : Option ℕ) (size : ℕ) → length (header_by code o size) ≡ header_size o
header_length_lem code None size = refl
header_length_lem code (Some v) size = refl

-- a header is a multiple of 4
header_four : (o : Option ℕ) → header_size o % 4 ≡ 0
header_four None = refl
header_four (Some v) = refl

pub written_length : (n : Name) (ds : List ℕ) → length (written n ds) ≡ header_size (vendor_of n) + padded (length ds)
written_length n ds =
    length-append (header_of n (length ds)) (ds ++ padding_of (length ds))
    ∙ (λ i. header_length_lem (code_of n) (vendor_of n) (length ds) i + length-append ds (padding_of (length ds)) i)
    ∙ ap (λ (k : ℕ). header_size (vendor_of n) + (length ds + k)) (length-replicate (padded (length ds) - length ds) 0)
    ∙ omega arith

pub written_four : (n : Name) (ds : List ℕ) → length (written n ds) % 4 ≡ 0
written_four n ds = omega (arith, written_length n ds, header_four (vendor_of n))

-- data whose length is a multiple of 4 have no padding
pub unpadded : (n : Name) (ds : List ℕ) → length ds % 4 ≡ 0 → header_of n (length ds) ++ ds ≡ written n ds
unpadded n ds h =
    let none : padded (length ds) - length ds ≡ 0 = omega arith in
    ap (λ l. header_of n (length ds) ++ l) (sym (append-nil ds) ∙ ap (λ (k : ℕ). ds ++ replicate k 0) (sym none))

pub units_four : (u : Units) → length (units_data u) % 4 ≡ 0
units_four (Total t) = refl
units_four (Uplink t) = refl
units_four (Downlink t) = refl
units_four (Both u d) = refl

pub key_length : (k : Key) → length (key_avp k) ≡ 12 + padded (length (octets_of k))
unfolding key_avp
key_length k = written_length MonitoringKey (octets_of k)

-- a unit group without a vendor
pub used_length : (u : Units) → length (units_avp UsedServiceUnit u) ≡ 8 + length (units_data u)
unfolding units_avp
used_length u = written_length UsedServiceUnit (units_data u) ∙ omega (arith, units_four u)

pub granted_length : (u : Units) → length (units_avp GrantedServiceUnit u) ≡ 8 + length (units_data u)
unfolding units_avp
granted_length u = written_length GrantedServiceUnit (units_data u) ∙ omega (arith, units_four u)

pub level_length : (l : Level) → length (level_avp l) ≡ 16
unfolding number_avp
level_length l = refl

pub support_length : length (number_avp UsageMonitoringSupport 0) ≡ 16
unfolding number_avp
support_length = refl

pub asked_length : length (number_avp UsageMonitoringReport 0) ≡ 16
unfolding number_avp
asked_length = refl

counted_length : (n : Name) (k : Key) (u : Units) (l : Level) → length (units_avp n u) ≡ 8 + length (units_data u) → length (counted_data n k u l) ≡ length (key_avp k) + (8 + length (units_data u) + 16)
counted_length n k u l e =
    length-append (key_avp k) (units_avp n u ++ level_avp l)
    ∙ ap (λ (m : ℕ). length (key_avp k) + m) (length-append (units_avp n u) (level_avp l) ∙ (λ i. e i + level_length l i))

pub report_length : (g : ReportGroup) → length (report_data g) ≡ length (key_avp g.key) + (8 + length (units_data g.used) + 16)
report_length g = counted_length UsedServiceUnit g.key g.used g.level (used_length g.used)

pub report_four : (g : ReportGroup) → length (report_data g) % 4 ≡ 0
report_four g = omega (arith, report_length g, key_length g.key, units_four g.used)

pub terms_length : (l : Level) (o : Option Units) → length (terms_data l o) ≡ 16 + length (granted_data o)
terms_length l o = length-append (level_avp l) (granted_data o) ∙ ap (λ (n : ℕ). n + length (granted_data o)) (level_length l)

granted_four : (o : Option Units) → length (granted_data o) % 4 ≡ 0
granted_four None = refl
granted_four (Some u) = omega (arith, granted_length u, units_four u)

pub answer_length : (g : AnswerGroup) → length (answer_data g) ≡ length (key_avp g.key) + (16 + length (granted_data g.granted))
answer_length g = length-append (key_avp g.key) (terms_data g.level g.granted) ∙ ap (λ (n : ℕ). length (key_avp g.key) + n) (terms_length g.level g.granted)

pub answer_four : (g : AnswerGroup) → length (answer_data g) % 4 ≡ 0
answer_four g = omega (arith, answer_length g, key_length g.key, granted_four g.granted)

pub grant_length : (k : Key) (l : Level) (u : Units) → length (order_data (Grant k l u)) ≡ length (key_avp k) + (8 + length (units_data u) + 16)
grant_length k l u = counted_length GrantedServiceUnit k u l (granted_length u)

pub disable_length : (k : Key) → length (order_data (Disable k)) ≡ length (key_avp k) + 16
disable_length k = length-append (key_avp k) (number_avp UsageMonitoringSupport 0) ∙ ap (λ (n : ℕ). length (key_avp k) + n) support_length

-- the key of a request, if it names one
abbrev pub named_size : Option Key → ℕ
named_size None = 0
named_size (Some k) = length (key_avp k)

pub request_length : (o : Option Key) → length (order_data (Request o)) ≡ 16 + named_size o
request_length None = asked_length
request_length (Some k) = length-append (number_avp UsageMonitoringReport 0) (key_avp k) ∙ ap (λ (n : ℕ). n + length (key_avp k)) asked_length

order_four : (o : Order) → length (order_data o) % 4 ≡ 0
order_four (Grant k l u) = omega (arith, grant_length k l u, key_length k, units_four u)
order_four (Disable k) = omega (arith, disable_length k, key_length k)
order_four (Request None) = omega (arith, request_length None)
order_four (Request (Some k)) = omega (arith, request_length (Some k), key_length k)

pub command_four : (g : CommandGroup) → length (command_data g) % 4 ≡ 0
command_four g = order_four g.order
