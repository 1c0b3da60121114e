-- Lines that are written one after the other.
use Rattle.std.proofs.Common.{◌≡◌, ℕ, ◌+◌, ◌<◌, ◌≤◌, List, [], ◌∷◌, ◌++◌, map, length, get_or, drop, sym, ap, ◌∙◌, append_assoc, append-nil}
use Rattle.std.proofs.lemmas.List.{at_drop_more, at_drop_all}
use Rattle.text.specs.Messages.{text_of}

module _ {V : Type 0} (lined : V → List ℕ) (vs : List V) (i : ℕ) where
  pub line_goes : (v : V) (was one two whole : List ℕ) → i < length vs → v ≡ get_or vs i v → one ≡ was ++ lined v → two ≡ one ++ 10 ∷ []
      → was ++ text_of (map lined (drop i vs)) ≡ whole → two ++ text_of (map lined (drop (i + 1) vs)) ≡ whole
  line_goes v was one two whole l is p q w =
      rw (q, p) (simp append_assoc (sym (ap (λ x. was ++ text_of (map lined (x ∷ drop (i + 1) vs))) (sym is)) ∙ sym (at_drop_more (λ xs. was ++ text_of (map lined xs)) vs i v l) ∙ w))

  pub line_ends : (was whole : List ℕ) → length vs ≤ i → was ++ text_of (map lined (drop i vs)) ≡ whole → was ≡ whole
  line_ends was whole l w = sym (append-nil was) ∙ sym (at_drop_all (λ xs. was ++ text_of (map lined xs)) vs i l) ∙ w
