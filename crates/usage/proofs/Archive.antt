-- Lists with one more at their end, and what stands at a place of them. Assumes nothing.
use Rattle.std.proofs.Common.{◌≡◌, ℕ, zero, suc, ◌<◌, ◌≤◌, ◌⊎◌, List, [], ◌∷◌, ◌++◌, length, take, is_some, Some, None, Option, refl, ap, subst, inl, inr, arith}
use Rattle.std.specs.List.{slice_get, AllByRecursion}
use Rattle.std.proofs.lemmas.Bool.{false≢true}

module _ {X : Type 0} where
  pub nth_within : (xs : List X) (n : ℕ) (x : X) → slice_get xs n ≡ Some x → n < length xs
  nth_within [] n x e = absurd (false≢true (ap is_some e))
  nth_within (y ∷ xs) zero x e = omega arith
  nth_within (y ∷ xs) (suc n) x e = omega (arith, nth_within xs n x e)

  pub nth_push : (xs : List X) (x y : X) (n : ℕ) → slice_get xs n ≡ Some y → slice_get (xs ++ x ∷ []) n ≡ Some y
  nth_push [] x y n e = absurd (false≢true (ap is_some e))
  nth_push (z ∷ xs) x y zero e = e
  nth_push (z ∷ xs) x y (suc n) e = nth_push xs x y n e

  pub nth_end : (xs : List X) (x : X) → slice_get (xs ++ x ∷ []) (length xs) ≡ Some x
  nth_end [] x = refl
  nth_end (y ∷ xs) x = nth_end xs x

  -- what stands in the longer list stood there before, or is the new one
  pub nth_pushed : (xs : List X) (x y : X) (n : ℕ) → slice_get (xs ++ x ∷ []) n ≡ Some y → (slice_get xs n ≡ Some y) ⊎ ((n ≡ length xs) × (◌≡◌ {A = Option X} (Some x) (Some y)))
  nth_pushed [] x y zero e = inr (refl, e)
  nth_pushed [] x y (suc n) e = absurd (false≢true (ap is_some e))
  nth_pushed (z ∷ xs) x y zero e = inl e
  nth_pushed (z ∷ xs) x y (suc n) e = go (nth_pushed xs x y n e)
    where
      go : (slice_get xs n ≡ Some y) ⊎ ((n ≡ length xs) × (◌≡◌ {A = Option X} (Some x) (Some y))) → (slice_get xs n ≡ Some y) ⊎ ((suc n ≡ suc (length xs)) × (◌≡◌ {A = Option X} (Some x) (Some y)))
      go (inl h) = inl h
      go (inr h) = inr (ap suc h.0, h.1)

  pub take_push : (xs : List X) (x : X) (n : ℕ) → n ≤ length xs → take n (xs ++ x ∷ []) ≡ take n xs
  take_push xs x zero h = refl
  take_push [] x (suc n) h = absurd (omega arith)
  take_push (y ∷ xs) x (suc n) h = ap (◌∷◌ y) (take_push xs x n (omega arith))

  pub all_nth : (P : X → Type 0) (xs : List X) (n : ℕ) (x : X) → AllByRecursion P xs → slice_get xs n ≡ Some x → P x
  all_nth P [] n x h e = absurd (false≢true (ap is_some e))
  all_nth P (y ∷ xs) zero x h e = subst (λ o. of o) e h.0
    where
      of : Option X → Type 0
      of None = ⊥
      of (Some z) = P z
  all_nth P (y ∷ xs) (suc n) x h e = all_nth P xs n x h.1 e
