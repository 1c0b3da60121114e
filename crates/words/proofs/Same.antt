-- Words that are compared.
use Rattle.std.proofs.Common.{◌≡◌, ℕ, Bool, true, List, length, Decides, rules}
use Rattle.std.specs.Str.{bytes_eq}
use Rattle.std.proofs.lemmas.Slice.Eq.{HasBytesAt, bytes_eq-Decides, text_from_reads}

pub alike : (xs ys : List ℕ) (r : Bool) → Decides r (xs ≡ ys) → r ≡ bytes_eq xs ys
alike xs ys r h = search (rules, bytes_eq-Decides)

-- characters that are tested one by one
pub spelled : (s p : List ℕ) → length s ≡ length p → HasBytesAt s 0 p → bytes_eq s p ≡ true
spelled s p n h = (bytes_eq-Decides s p).1 (text_from_reads s p n h)
