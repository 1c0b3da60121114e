-- `whole` lends the slice's words on as an array, under the slice's name: a walk through its code, statement by statement.
use Rattle.std.proofs.Common.{◌≡◌, ℕ, ◌*◌, ◌^◌, ◌<◌, List, [], ◌∷◌, length, refl, MutBor}
use seplogic.Ra.Ura.{Ura}
use mir.MapTy.{inst_fn}
use mir.Syntax.{Args, Body, Fn, named, a_type, a_number, seq, assign, place, rv_opd, copy, return}
use mir.Val.{Val, vptr}
use base.Logic.{SProp, ent}
use base.Fml.{Lft, GName, Share, ftrue, flft}
use prog.Memory.{Memory, size}
use prog.Routine.{Routine}
use prog.Wp.{Env, Calls, Loops, WpFn, Tables}
use types.Logic.{Logic}
use contract.Lifetimes.{AllOutlive}
use contract.BorrowLft.{◌⊑◌}
use contract.Monad.{Fun}
use contract.Running.{tables, tables_of}
use sound.WpLaws.{WpFn-mono}
use types.Kit.{‵, ◌⊛◌, raw, given, learn, by, drop, split3, later, at_ret, ◌$◌, ◌∵◌, !, qed, move, keep, use2, await, split, join, fsplit, fjoin, suffices, frame, done}
use types.Part.{whole, sub}
use types.Run.{stop, fld, hop, from, addr, of_opd, first, blocks, exec, returns, enter}
use types.ByLocal.{alloc_all, pass_all, free_all, look_at, look_in_at, get, through, sets, sets_last, env}
use denote.Param.{param, number, layout, layouts, ArrayAt}
use denote.Exit.{no}
use denote.RattleType.{RattleType, owns}
use denote.Ref.{MutRef}
use denote.Signature.{plain, mut_slice_of}
use denote.Slice.{MutSlice, slice_val, mut_slice_vals, mut_slice_Tells}
use denote.Steps.{nothing}
use denote.Triple.Clauses.{Clauses, Ended, closing}
use denote.Triple.Entry.{on_entry}
use denote.Triple.Spec.{Meets, triple_of}
use denote.Triple.Table.{entered}
use denote.Triple.Walked.{says, Stays, stay_dropped, walk_of, ends_at, walked, Goes-spent_slice, walk_Meets}
use Rattle.bank.proofs.Arrays.{lent_array}
use Rattle.bank.specs.contracts.store.whole as F
use Rattle.bank.specs.contracts.store.whole.Key.{name as #self}
use Rattle.bank.proofs.store.whole.Statement as stated
use Rattle.bank.proofs.store.whole.Code as code

module _ (X : RattleType) (n : ℕ) where
  abbrev args : Args
  args = layouts (a_type ∷ a_number ∷ []) (X, (number n, tt))

  abbrev fn' : Fn
  fn' = inst_fn args code.function

  abbrev R : RattleType
  R = param 0 X

  abbrev Run : RattleType
  Run = ArrayAt R (param 1 (number n))

  abbrev ended : Ended
  ended = F.ended X (number n)

  abbrev stayed : Stays ended.signature.params ended.kept
  stayed = (stay_dropped (mut_slice_of (0 ∷ []) tt (plain (λ _. R))) no, tt)

abbrev rest : Body
rest = seq (assign (place 0 []) (rv_opd (copy (place 2 [])))) return

module _ (X : RattleType) (n : ℕ) {M : Type 1} {𝓤 : Ura M} (𝓛 : Logic 𝓤) (at_mem : Memory → SProp 𝓤) (run : Routine → Fun 𝓤) where
  open 𝓛 use {H}

  abbrev clauses : Clauses 𝓤 (ended X n)
  clauses = F.clauses X (number n) 𝓛 at_mem run

  module _ (C : Calls 𝓤 H) (Λ : Loops 𝓤 H) (κ κT κN : Lft) (q qT qN : Share) (bd : AllOutlive 3 (ended X n).signature.outlives (κ, (κT, (κN, tt)))) (b o : ℕ) (γ : GName) (xs : List X.Denot) where
    abbrev self : MutBor (List X.Denot)
    self = record { ref_ptr = (b, o); ghost_name = γ; now = xs }

    abbrev bound : (walk_of 𝓛 (ended X n) (stayed X n) clauses).Ghost
    bound = (((κ, (κT, (κN, tt))), (q, (qT, (qN, tt))), bd, (self, tt), (mut_slice_vals self, tt)), tt)

    abbrev Post : Val → SProp 𝓤
    Post = (walk_of 𝓛 (ended X n) (stayed X n) clauses).post bound

    walk : length xs < 2 ^ 64 → length xs ≡ n → ent 𝓤 (on_entry 𝓛 (ended X n).signature (κ, (κT, (κN, tt))) (q, (qT, (qN, tt))) (self, tt) (mut_slice_vals self, tt)) (WpFn 𝓤 H C Λ (fn' X n) (slice_val (b, o) (length xs) ∷ []) Post)
    walk fits e =
        qed 𝓛 ((‵ (flft κ q) ⊛ ‵ (flft κT qT) ⊛ ‵ (flft κN qN) ⊛ ‵ ftrue) ∷ ‵ (owns (MutSlice (named 0) κ (R X n) ∷ []) (self, tt) (mut_slice_vals self, tt)) ∷ []) ∵ enter ! C Λ (fn' X n) (slice_val (b, o) (length xs) ∷ []) _ $
        alloc_all ! (λ l. pass_all ! refl ((tt, (tt, (record { fits = fits }, tt))), tt) $
        let En : Env 𝓤 H = env (fn' X n).locals l in
        first ! $ blocks ! $
        sets ! (addr ! (from ! (fld ! refl (hop ! (look_in_at ! 1 (sub ! 0 refl (whole !))) (stop !))))) refl (tt, tt) $
        sets_last ! (addr ! (through ! refl (stop !))) refl (tt, tt) $
        exec ! C Λ En rest (at_ret En Post) $
        sets ! (of_opd ! (get ! refl)) refl (tt, tt) $
        move ! (1 ∷ []) $ fsplit ! $ move ! (2 ∷ []) $ split ! $ move ! (2 ∷ 0 ∷ []) $
        use2 𝓛 (later (‵ ((MutRef (named 0) κ (Run X n)).own_val self (vptr b o ∷ [])) ⊛ ‵ (flft κ q))) (lent_array 𝓛 (R X n) tt n b o κ γ (named 0) q xs (mut_slice_vals self) e) $ await ! tt $ split ! $
        move ! (1 ∷ 2 ∷ []) $ join ! $
        returns ! (look_at ! 0 refl) $ free_all ! refl $ keep ! (0 ∷ 1 ∷ []) $
        suffices ! _ (ends_at 𝓛 (ended X n) (stayed X n) clauses bound (vptr b o) self (tt, tt) (tt, tt)) $ says ! (refl, refl) $
        frame ! $ nothing ! $ nothing ! $ fjoin ! $ frame ! $ done !)

  meets : (𝓣 : Tables 𝓤 H) → Meets 𝓛 (ended X n).signature (WpFn 𝓤 H 𝓣.C 𝓣.Λ (fn' X n)) (closing 𝓛 (ended X n) clauses)
  meets 𝓣 =
      walk_Meets 𝓛 (ended X n) (stayed X n) (Goes-spent_slice 𝓛 3 (0 ∷ []) tt (plain (λ _. R X n)), tt) clauses (WpFn 𝓤 H 𝓣.C 𝓣.Λ (fn' X n)) (WpFn-mono 𝓤 H 𝓛.laws 𝓣 (fn' X n))
      (walked 𝓛 (ended X n) (stayed X n) clauses (WpFn 𝓤 H 𝓣.C 𝓣.Λ (fn' X n)) (λ κs. (mut_slice_vals, tt)) (λ κs. (mut_slice_Tells (named 0) κs.0 (R X n), tt))
      (λ κs qs bounds a g are.
      let On : SProp 𝓤 = on_entry 𝓛 (ended X n).signature κs qs a (mut_slice_vals a.0, tt) in
      qed 𝓛 (raw On ∷ (given (κs.1.0 ⊑ X.lives) (‵ ftrue) ⊛ given (κs.1.1.0 ⊑ []) (‵ ftrue) ⊛ given (n * size (layout X) < 2 ^ 63) (‵ ftrue) ⊛ given (length a.0.now ≡ n) (‵ ftrue)) ∷ []) ∵
      move ! (1 ∷ []) $ split3 ! $ drop ! $ drop ! $ split ! $ drop ! $ learn ! (λ e. drop ! $
      by ! (walk 𝓣.C 𝓣.Λ κs.0 κs.1.0 κs.1.1.0 qs.0 qs.1.0 qs.1.1.0 bounds a.0.ref_ptr.0 a.0.ref_ptr.1 a.0.ghost_name a.0.now are.0.0.1.0 e))))

pub whole_spec : {M : Type 1} → stated.statement M
unfolding tables_of
whole_spec 𝓤 𝓛 𝓜 𝓡 wired X n L fn =
    let A = 𝓛.A in
    let 𝓣 : Tables 𝓤 𝓛.H = tables_of 𝓤 𝓛.H 𝓜 (tables 𝓤 𝓛.H 𝓜 𝓡 𝓡.env) in
    entered 𝓤 𝓛.H (triple_of 𝓛 (ended X n).signature (F.spec X (number n) 𝓛 𝓜.mem 𝓡.returns)) 𝓣.C 𝓣.Λ (#self (args X n)) (fn' X n) (code.unfolded 𝓤 𝓛.H 𝓜 𝓡 wired (X, (number n, tt)))
    (meets X n 𝓛 𝓜.mem 𝓡.returns 𝓣)
