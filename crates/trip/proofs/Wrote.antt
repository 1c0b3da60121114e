-- What holds of the octets of a message holds of what a writer leaves.
use Rattle.std.proofs.Common.{◌≡◌, ℕ, ◌≤◌, min, Bool, true, false, cond, leb, List, ◌++◌, length, take, drop, replicate, IfOk, Some, None, Ok, Err, Option, Result, sym, refl, subst, arith}
use Rattle.std.proofs.lemmas.List.{length-take, take_at}
use Rattle.fault.specs.declared.Code.TheVariants.{Short}
use Rattle.fault.specs.declared.Fault.{Fault}
use Rattle.fault.specs.Numbers.{call_fault}
use Rattle.message.specs.declared.groups.Groups.{Groups}
use Rattle.message.specs.Groups.{list_of}
use Rattle.wire.specs.Sound.{outcome, afterwards}

abbrev Left : (List ℕ → Type 0) → List ℕ → Result ℕ Fault → Type 0
Left P is r = IfOk r (λ n. P (take n is))

by_room : (P : List ℕ → Type 0) (bs rest zeros : List ℕ) (b : Bool) → P bs → Left P (cond b (bs ++ rest) zeros) (cond b (Ok (length bs)) (Err (call_fault Short 0)))
by_room P bs rest zeros true h = subst P (sym (take_at bs rest (length bs) refl)) h
by_room P bs rest zeros false h = tt

by_fault : (P : List ℕ → Type 0) (fault : Option Fault) (bs was : List ℕ) → (fault ≡ None → P bs) → Left P (afterwards fault bs was) (outcome fault bs (length was))
by_fault P (Some f) bs was h = tt
by_fault P None bs was h = by_room P bs (drop (length bs) was) (replicate (length was) 0) (leb (length bs) (length was)) (h refl)

pub wrote : (P : List ℕ → Type 0) (fault : Option Fault) (bs was is : List ℕ) (r : Result ℕ Fault) → (fault ≡ None → P bs) → r ≡ outcome fault bs (length was) → is ≡ afterwards fault bs was → Left P is r
wrote P fault bs was is r h value after =
    subst (λ x. Left P x r) (sym after) (subst (λ x. Left P (afterwards fault bs was) x) (sym value) (by_fault P fault bs was h))

-- a table holds sixteen groups at most
pub sixteen : {V : Type 0} (g : Groups V) → length (list_of g) ≤ 16
sixteen g = omega (arith, length-take (min g.count 16) g.items)
