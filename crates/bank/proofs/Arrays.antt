-- A lent slice of n elements is a lent array of n elements: the same memory, under the same name, for as long. In the words
-- of the toolchain's own logic of memory: what lies at a slice lies at an array and back (`lies_whole`, `lies-apart`), so
-- a loan of the one is a loan of the other, which gives back a slice when it ends (`way_back`, `lent-array`).
use Rattle.std.proofs.Common.{◌≡◌, ℕ, List, [], ◌∷◌, length, sym, refl}
use seplogic.Ra.Ura.{Ura}
use base.Fraction.{full_share}
use base.Logic.{ent, sep, emp, id⊢, upd_i}
use base.Stored.{coded_list}
use base.Fml.{Fml, Lft, GName, Share, ftrue, fsep, fseps, fwand, fupd, fdead, flft, fobs, fauth, fbor}
use mir.Syntax.{Lifetime}
use mir.Val.{Val, vptr}
use ghost.Rules.{bors}
use types.Logic.{Logic, sem}
use types.Kit.{‵, raw, ◌⊛◌, ◌$◌, ◌∵◌, !, qed, by, move, keep, use0, use1, drop, split, rewrite, fsplit, fsplit3, fjoin, fjoin3, fpick, fpack, feq_i, suffices, assume, updating, now, done}
use types.Mut.{open_ref}
use types.SemTy.{Arr, Body}
use types.Share.{arr_parts}
use types.Tokens.{obor_alter}
use denote.Array.{Array}
use denote.ArrayMemory.{Single, Array-apart, Array-whole}
use denote.FollowSlice.{heres_id}
use denote.Memory.{mem, part_at, shares}
use denote.RattleType.{RattleType}
use denote.Ref.{MutRef}
use denote.Slice.{MutSlice}
use borrow.Rule.Slice.Shared.{parts-cells}

module _ {M : Type 1} {𝓤 : Ura M} (𝓛 : Logic 𝓤) (R : RattleType) (one : Single R.mir) (n b o : ℕ) where
  open 𝓛 use {H, A}

  lies_whole : (xs : List R.Denot) → ent 𝓤 (sem 𝓛 ((Arr (mem R) n).own_at xs b o)) (sem 𝓛 (part_at (Array R n) full_share xs b o))
  lies_whole xs = qed 𝓛 (‵ ((Arr (mem R) n).own_at xs b o) ∷ []) ∵ fsplit ! $ move ! (1 ∷ []) $
      rewrite ! 0 (λ (G : Fml). ‵ G) (sym (parts-cells R full_share xs b o)) refl $ move ! (1 ∷ 0 ∷ []) $ fjoin ! $ by ! (Array-whole 𝓛 R full_share n xs b o)

  lies_apart : (xs : List R.Denot) → ent 𝓤 (sem 𝓛 (part_at (Array R n) full_share xs b o)) (sem 𝓛 ((Arr (mem R) n).own_at xs b o))
  lies_apart xs = qed 𝓛 (‵ (part_at (Array R n) full_share xs b o) ∷ []) ∵
      use1 𝓛 (‵ ((arr_parts (shares R) n).part full_share xs b o)) (Array-apart 𝓛 R full_share one n xs b o) $ fsplit ! $ move ! (1 ∷ []) $
      rewrite ! 0 (λ (G : Fml). ‵ G) (parts-cells R full_share xs b o) refl $ move ! (1 ∷ 0 ∷ []) $ fjoin ! $ done !

  module _ (κ : Lft) (γ : GName) where
    abbrev As : Fml
    As = Body (mem (Array R n)) b o γ

    way_back : ent 𝓤 (emp 𝓤) (sem 𝓛 (fwand (fsep (fdead κ) (fseps (As ∷ []))) (fupd (Body (Arr (mem R) n) b o γ))))
    unfolding fseps
    way_back =
        qed 𝓛 [] ∵ assume ! (‵ (fsep (fdead κ) (fsep As ftrue))) $ suffices ! (sem 𝓛 (Body (Arr (mem R) n) b o γ)) (upd_i 𝓤 (sem 𝓛 (Body (Arr (mem R) n) b o γ))) $
        fsplit ! $ drop ! $ fsplit ! $ fpick ! (λ w. fsplit ! $ use1 𝓛 (‵ ((Arr (mem R) n).own_at w b o)) (lies_apart w) $ fjoin ! $
        fpack ! (List R.Denot) (λ z. fsep ((Arr (mem R) n).own_at z b o) (fauth γ ((coded_list R.coded).code z))) w $ keep ! (0 ∷ []) $ done !)

    pub lent_array : (ℓ : Lifetime) (q : Share) (xs : List R.Denot) (vs : List Val) → length xs ≡ n
        → ent 𝓤 (sep 𝓤 (sem 𝓛 ((MutSlice ℓ κ R).own_val (record { ref_ptr = (b, o); ghost_name = γ; now = xs }) vs)) (A.lft κ q))
        (H.⇛ (sep 𝓤 (sem 𝓛 ((MutRef ℓ κ (Array R n)).own_val (record { ref_ptr = (b, o); ghost_name = γ; now = xs }) (vptr b o ∷ []))) (A.lft κ q)))
    unfolding fseps
    lent_array ℓ q xs vs e =
        qed 𝓛 (‵ ((MutSlice ℓ κ R).own_val (record { ref_ptr = (b, o); ghost_name = γ; now = xs }) vs) ∷ ‵ (flft κ q) ∷ []) ∵ updating ! $ fsplit3 ! $ drop ! $
        rewrite ! 0 (λ (l : List R.Denot). ‵ (fobs γ ((coded_list R.coded).code l))) (heres_id R xs) refl $
        rewrite ! 1 (λ (k : ℕ). ‵ (fbor κ (Body (Arr (mem R) k) b o γ))) e refl $ open_ref ! tt (Arr (mem R) n) {b = b} {o = o} $
        use1 𝓛 (‵ (part_at (Array R n) full_share xs b o)) (lies_whole xs) $ move ! (0 ∷ 3 ∷ []) $ fjoin ! $
        fpack ! (List R.Denot) (λ z. fsep ((mem (Array R n)).own_at z b o) (fauth γ ((coded_list R.coded).code z))) xs $
        use0 𝓛 (‵ ftrue) (id⊢ 𝓤 (emp 𝓤)) $ move ! (1 ∷ 0 ∷ []) $ fjoin ! $
        use0 𝓛 (‵ (fwand (fsep (fdead κ) (fseps (As ∷ []))) (fupd (Body (Arr (mem R) n) b o γ)))) way_back $
        move ! (2 ∷ 1 ∷ 0 ∷ []) $ obor_alter ! tt (As ∷ []) $ use1 𝓛 (‵ (fbor κ As) ⊛ raw (bors 𝓤 H A κ [])) (id⊢ 𝓤 _) $ split ! $
        move ! (3 ∷ 0 ∷ []) $ feq_i ! (List Val) (vptr b o ∷ []) (vptr b o ∷ []) refl $ fjoin3 ! $ now ! $ keep ! (0 ∷ 2 ∷ []) $ done !
