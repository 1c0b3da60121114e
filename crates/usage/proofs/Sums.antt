-- Sums under a key. Assumes nothing.
use Rattle.std.proofs.Common.{◌≡◌, ℕ, zero, suc, ◌+◌, List, [], ◌∷◌, ◌++◌, length, take, is_some, Some, None, Option, refl, ap, arith}
use Rattle.std.specs.List.{slice_get}
use Rattle.std.proofs.lemmas.Bool.{false≢true}
use Rattle.key.specs.declared.key.Key.{Key}
use Rattle.information.specs.declared.values.ReportGroup.{ReportGroup}
use Rattle.message.specs.Numbered.{Message}
use Rattle.usage.specs.Answers.{Amount}
use Rattle.usage.specs.Takes.{held}
use Rattle.usage.specs.Totals.{latest_of, reported, under}

pub under_append : (k : Key) (xs ys : List Amount) → under k (xs ++ ys) ≡ under k xs + under k ys
under_append k [] ys = omega arith
under_append k (x ∷ xs) ys = let ih = under_append k xs ys in omega arith

pub held_append : (k : Key) (xs ys : List ReportGroup) → held k (xs ++ ys) ≡ held k xs + held k ys
held_append k [] ys = omega arith
held_append k (x ∷ xs) ys = let ih = held_append k xs ys in omega arith

pub reported_append : (k : Key) (xs ys : List (Message ReportGroup)) → reported k (xs ++ ys) ≡ reported k xs + reported k ys
reported_append k [] ys = omega arith
reported_append k (x ∷ xs) ys = let ih = reported_append k xs ys in omega arith

pub reported_push : (k : Key) (xs : List (Message ReportGroup)) (x : Message ReportGroup) → reported k (xs ++ x ∷ []) ≡ reported k xs + held k x.groups
reported_push k xs x = omega (arith, reported_append k xs (x ∷ []))

-- what stands at a place
abbrev pub groups_in : Option (Message ReportGroup) → List ReportGroup
groups_in None = []
groups_in (Some r) = r.groups

-- one report more
pub reported_next : (k : Key) (rs : List (Message ReportGroup)) (n : ℕ) (r : Message ReportGroup) → slice_get rs n ≡ Some r → reported k (take (suc n) rs) ≡ reported k (take n rs) + held k r.groups
reported_next k [] n r e = absurd (false≢true (ap is_some e))
reported_next k (x ∷ rs) zero r e = let same : held k x.groups ≡ held k r.groups = ap (λ o. held k (groups_in o)) e in omega arith
reported_next k (x ∷ rs) (suc n) r e = let ih = reported_next k rs n r e in omega arith

pub latest_push : (rs : List (Message ReportGroup)) (r : Message ReportGroup) → latest_of (rs ++ r ∷ []) ≡ r.groups
latest_push [] r = refl
latest_push (x ∷ []) r = refl
latest_push (x ∷ (y ∷ rs)) r = latest_push (y ∷ rs) r

-- the last of the reports
pub latest_is : (rs : List (Message ReportGroup)) (n : ℕ) (r : Message ReportGroup) → length rs ≡ suc n → slice_get rs n ≡ Some r → latest_of rs ≡ r.groups
latest_is [] n r l e = absurd (false≢true (ap is_some e))
latest_is (x ∷ []) zero r l e = ap groups_in e
latest_is (x ∷ []) (suc n) r l e = absurd (false≢true (ap is_some e))
latest_is (x ∷ (y ∷ rs)) zero r l e = absurd (omega arith)
latest_is (x ∷ (y ∷ rs)) (suc n) r l e = latest_is (y ∷ rs) n r (omega arith) e
