-- The octets of one AVP, as they are written: flags 80 on 3GPP's AVPs and 40 on the others, padding of zeros.
use Rattle.std.specs.Prelude.{ℕ, ◌+◌, ◌-◌, ◌/◌, ◌%◌, List, [], ◌∷◌, ◌++◌, length, replicate, Some, None, Option}
use Rattle.avp.specs.declared.name.Name.{Name}
use Rattle.avp.specs.declared.name.Name.TheVariants.{MonitoringKey}
use Rattle.avp.specs.Octets.{padded}
use Rattle.avp.specs.Names.{code_of, vendor_of}
use Rattle.key.specs.declared.key.Key.{Key}
use Rattle.key.specs.Keys.{octets_of}

abbrev pub be24 : ℕ → List ℕ
be24 n = (n / 65536 % 256) ∷ (n / 256 % 256) ∷ (n % 256) ∷ []

abbrev pub be32 : ℕ → List ℕ
be32 n = (n / 16777216 % 256) ∷ be24 n

abbrev pub be64 : ℕ → List ℕ
be64 n = be32 (n / 4294967296) ++ be32 n

-- the code, the flags, and how many octets the AVP has without its padding
abbrev pub head : ℕ → ℕ → ℕ → List ℕ
head code flags size = be32 code ++ (flags ∷ be24 size)

-- headers by their fields: the flags of an AVP are 80 where it has a vendor, and 40 where it has none
abbrev pub plain_header : ℕ → ℕ → List ℕ
plain_header code size = head code 0x40 (8 + size)

abbrev pub vendor_header : ℕ → ℕ → ℕ → List ℕ
vendor_header code vendor size = head code 0x80 (12 + size) ++ be32 vendor

abbrev pub header_by : ℕ → Option ℕ → ℕ → List ℕ
header_by code None size = plain_header code size
header_by code (Some v) size = vendor_header code v size

-- the header of an AVP with so many octets of data
abbrev pub header_of : Name → ℕ → List ℕ
header_of n size = header_by (code_of n) (vendor_of n) size

-- zeros up to a multiple of 4; a header is such a multiple
abbrev pub padding_of : ℕ → List ℕ
padding_of size = replicate (padded size - size) 0

-- an AVP with these data
abbrev pub written : Name → List ℕ → List ℕ
written n ds = header_of n (length ds) ++ (ds ++ padding_of (length ds))

-- an AVP that holds a number of 32 bits, and a Monitoring-Key
unfoldable pub number_avp : Name → ℕ → List ℕ
number_avp n x = written n (be32 x)

unfoldable pub key_avp : Key → List ℕ
key_avp k = written MonitoringKey (octets_of k)
