-- Tables: the first entry that passes a test, and a change of that entry alone.
use Rattle.std.specs.Prelude.{ℕ, ◌+◌, Bool, true, false, cond, List, [], ◌∷◌, Some, None, Option}

abbrev pub free : {X : Type 0} → Option X → Bool
free None = true
free (Some x) = false

-- how many pass
abbrev pub tally : {X : Type 0} → (X → Bool) → List X → ℕ
tally p [] = 0
tally p (x ∷ xs) = cond (p x) 1 0 + tally p xs

-- the first that is there and passes
abbrev pub lookup : {X : Type 0} → (X → Bool) → List (Option X) → Option X
lookup p [] = None
lookup p (None ∷ xs) = lookup p xs
lookup p (Some x ∷ xs) = cond (p x) (Some x) (lookup p xs)

-- the first that passes is changed
abbrev pub at_first : {X : Type 0} → (X → Bool) → (X → X) → List X → List X
at_first p f [] = []
at_first p f (x ∷ xs) = cond (p x) (f x ∷ xs) (x ∷ at_first p f xs)
