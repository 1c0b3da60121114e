-- The octets of padding.
use Rattle.std.proofs.Common.{◌≡◌, ℕ, ◌-◌, ◌<◌, take, replicate, ap, ◌∙◌, arith}
use native.Mathlib.Nat.{sub-zero}
use Rattle.std.proofs.lemmas.List.{take-replicate}
use Rattle.avp.specs.Octets.{padded}
use Rattle.draft.specs.Octets.{padding_of}

pub zeros : (size pad : ℕ) → pad ≡ padded size - size → pad < 4 → take (pad - 0) (replicate 4 0) ≡ padding_of size
zeros size pad e h = ap (λ (k : ℕ). take k (replicate 4 0)) (sub-zero pad) ∙ take-replicate pad 4 0 (omega arith) ∙ ap (λ (k : ℕ). replicate k 0) e
