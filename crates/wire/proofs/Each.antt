-- Groups written one after the other.
use Rattle.std.proofs.Common.{◌≡◌, ℕ, ◌+◌, ◌<◌, ◌≤◌, List, [], ◌∷◌, ◌++◌, length, get_or, take, drop, sym, ap, ◌∙◌, append-nil, take-append-drop, flat_map}
use Rattle.std.proofs.lemmas.Grind.{flat_map-append}
use Rattle.std.proofs.lemmas.List.{take_more, take_all, drop_more}

module _ {V : Type 0} (f : V → List ℕ) (vs : List V) (i : ℕ) where
  pub each_more : (v : V) → i < length vs → v ≡ get_or vs i v → flat_map f (take i vs) ++ f v ≡ flat_map f (take (i + 1) vs)
  each_more v h is =
      ap (λ z. flat_map f (take i vs) ++ z) (sym (append-nil (f v)))
      ∙ sym (flat_map-append f (take i vs) (v ∷ []))
      ∙ ap (λ z. flat_map f (take i vs ++ z ∷ [])) is
      ∙ ap (flat_map f) (sym (take_more vs i v h))

  -- the groups before one, that one, and those after it
  pub each_split : (v : V) → i < length vs → v ≡ get_or vs i v → flat_map f (take i vs) ++ (f v ++ flat_map f (drop (i + 1) vs)) ≡ flat_map f vs
  each_split v h is =
      ap (λ z. flat_map f (take i vs) ++ (f z ++ flat_map f (drop (i + 1) vs))) is
      ∙ ap (λ z. flat_map f (take i vs) ++ flat_map f z) (sym (drop_more vs i v h))
      ∙ sym (flat_map-append f (take i vs) (drop i vs))
      ∙ ap (flat_map f) (take-append-drop i vs)

  pub each_all : length vs ≤ i → flat_map f (take i vs) ≡ flat_map f vs
  each_all h = ap (flat_map f) (take_all i vs h)
