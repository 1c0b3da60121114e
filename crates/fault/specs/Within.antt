-- What holds of each fault that the octets of a message have.
use Rattle.std.specs.Prelude.{◌≡◌, ℕ, ◌≤◌}
use Rattle.fault.specs.declared.Fault.{Fault}
use Rattle.fault.specs.Numbers.{layer_of, number_of}

-- a fault of a message of so many octets: its code is 1 to 6, its layer is that of the code, and its place lies in the
-- message or at its end
pub record InMessage (size : ℕ) (f : Fault) : Type 0 where
  pub least : 1 ≤ number_of f.code
  pub most : number_of f.code ≤ 6
  pub layer : f.layer ≡ layer_of f.code
  pub place : f.place ≤ size
