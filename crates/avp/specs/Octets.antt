-- Numbers in octets, the most significant octet first.
use Rattle.std.specs.Prelude.{ℕ, ◌+◌, ◌*◌, ◌/◌, List, slice_index}

abbrev pub u24_at : List ℕ → ℕ → ℕ
u24_at bs i = slice_index bs i * 65536 + slice_index bs (i + 1) * 256 + slice_index bs (i + 2)

abbrev pub u32_at : List ℕ → ℕ → ℕ
u32_at bs i = slice_index bs i * 16777216 + slice_index bs (i + 1) * 65536 + slice_index bs (i + 2) * 256 + slice_index bs (i + 3)

abbrev pub u64_at : List ℕ → ℕ → ℕ
u64_at bs i = u32_at bs i * 4294967296 + u32_at bs (i + 4)

-- n rounded up to a multiple of 4
abbrev pub padded : ℕ → ℕ
padded n = (n + 3) / 4 * 4
