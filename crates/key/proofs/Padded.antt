-- Octets copied over the first of sixteen zeros.
use Rattle.std.proofs.Common.{◌≡◌, ℕ, ◌-◌, ◌≤◌, true, List, ◌++◌, length, drop, replicate, Some, sym, ◌∙◌, arith}
use Rattle.std.proofs.lemmas.List.{drop-replicate}
use Rattle.std.proofs.lemmas.Bool.{cond-true}
use Rattle.std.proofs.lemmas.Bool.Decides.{nat_tests}
use Rattle.key.specs.Keys.{key_long, key_of}

pub padded : (ks front : List ℕ) → 1 ≤ length ks → length ks ≤ 16 → front ≡ ks → Some (record { size = length ks; octets = front ++ drop (length ks) (replicate 16 0) }) ≡ key_of ks
padded ks front least most e =
    let long : key_long ks ≡ true = grind (arith, nat_tests) in
    let zeros : drop (length ks) (replicate {A = ℕ} 16 0) ≡ replicate (16 - length ks) 0 = drop-replicate {X = ℕ} (length ks) 16 0 in
    (λ i. Some (record { size = length ks; octets = e i ++ zeros i })) ∙ sym (cond-true _ _ _ long)
