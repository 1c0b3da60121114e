-- A result whose value means itself.
use Rattle.std.proofs.Common.{◌≡◌, Ok, Err, Result, refl}
use Rattle.fault.specs.declared.Fault.{Fault}
use Rattle.group.specs.Members.{meaning}

pub meaning_same : {V : Type 0} (r : Result V Fault) → r ≡ meaning (λ v. v) r
meaning_same (Ok v) = refl
meaning_same (Err f) = refl
