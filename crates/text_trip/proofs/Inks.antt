-- A test of every character, of parts and of the whole.
use Rattle.std.proofs.Common.{◌≡◌, Bool, true, ◌&&◌, List, [], ◌∷◌, ◌++◌, refl}
use Rattle.std.specs.List.{list_all}
use Rattle.std.proofs.lemmas.Bool.{and_parts}

both : (a b : Bool) → a ≡ true → b ≡ true → (a && b) ≡ true
both a b e f = rw (e, f)

module _ {X : Type 0} (p : X → Bool) where
  pub every_append : (xs ys : List X) → list_all p xs ≡ true → list_all p ys ≡ true → list_all p (xs ++ ys) ≡ true
  every_append [] ys e f = f
  every_append (x ∷ xs) ys e f = let parts = and_parts (p x) (list_all p xs) e in both (p x) (list_all p (xs ++ ys)) parts.0 (every_append xs ys parts.1 f)

  pub every_weaker : (q : X → Bool) → ((x : X) → p x ≡ true → q x ≡ true) → (xs : List X) → list_all p xs ≡ true → list_all q xs ≡ true
  every_weaker q weaker [] e = refl
  every_weaker q weaker (x ∷ xs) e = let parts = and_parts (p x) (list_all p xs) e in both (q x) (list_all q xs) (weaker x parts.0) (every_weaker q weaker xs parts.1)
