-- What a draft holds, and what one write does to it.
use Rattle.std.specs.Prelude.{◌≡◌, ℕ, ◌+◌, List, ◌++◌, length, take, drop, is_ok, Result, MatchResult, nat_le}
use Rattle.fault.specs.declared.Code.TheVariants.{Short}
use Rattle.fault.specs.declared.Fault.{Fault}
use Rattle.fault.specs.Numbers.{call_fault}
use Rattle.draft.specs.declared.draft.Draft.{Draft}

-- the octets written so far, and what the octets past them hold
abbrev pub text : Draft → List ℕ
text d = take d.len d.out.now

abbrev pub left : Draft → List ℕ
left d = drop d.len d.out.now

-- a draft, and the same with more written
pub record Grown (was : Draft) (more : List ℕ) (is : Draft) : Type 0 where
  pub text : text is ≡ text was ++ more
  pub past : left is ≡ drop (length more) (left was)
  pub count : is.len ≡ was.len + length more

-- a write of more into the same lent octets: it is done exactly if there is room, and else refused with code 22
pub record Put (was : Draft) (more : List ℕ) (r : Result (Unit {0}) Fault) (is : Draft) : Type 0 where
  pub lent : is.out.ghost_name ≡ was.out.ghost_name
  pub size : length is.out.now ≡ length was.out.now
  pub room : is_ok r ≡ nat_le (was.len + length more) (length was.out.now)
  pub wrote : MatchResult r (λ _. Grown was more is) (λ e. e ≡ call_fault Short 0)
