-- One write after another.
use Rattle.std.proofs.Common.{◌≡◌, ℕ, ◌+◌, leb, List, ◌++◌, length, drop, IsErrAnd, Ok, Err, Result, sym, ap, ◌∙◌, subst, append_assoc, arith, length-append, MatchResult}
use Rattle.std.proofs.lemmas.List.{drop-drop}
use Rattle.std.proofs.lemmas.Bool.{leb-false, lt-leb}
use Rattle.std.proofs.lemmas.Result.{err_from_is_err_and}
use Rattle.fault.specs.declared.Code.TheVariants.{Short}
use Rattle.fault.specs.declared.Fault.{Fault}
use Rattle.fault.specs.Numbers.{call_fault}
use Rattle.draft.specs.declared.draft.Draft.{Draft}
use Rattle.draft.specs.Drafts.{Grown, Put, text, left}

pub put_same : {a b : Draft} {x y : List ℕ} {r : Result (Unit {0}) Fault} → x ≡ y → Put a x r b → Put a y r b
put_same {a} {b} {r = r} e p = subst (λ z. Put a z r b) e p

grown_then : {a b c : Draft} {x y : List ℕ} → Grown a x b → Grown b y c → Grown a (x ++ y) c
grown_then {a} {b} {c} {x} {y} g h = record {
  text = h.text ∙ ap (λ z. z ++ y) g.text ∙ append_assoc (text a) x y;
  past = h.past ∙ ap (drop (length y)) g.past ∙ drop-drop (length y) (length x) (left a) ∙ ap (λ k. drop k (left a)) (sym (length-append x y));
  count = simp length-append (omega (arith, g.count, h.count));
}

cases_then : (a b c : Draft) (x y : List ℕ) (r : Result (Unit {0}) Fault) → Grown a x b → MatchResult r (λ _. Grown b y c) (λ e. e ≡ call_fault Short 0) → MatchResult r (λ _. Grown a (x ++ y) c) (λ e. e ≡ call_fault Short 0)
cases_then a b c x y (Ok _) g h = grown_then g h
cases_then a b c x y (Err e) g h = h

-- what was written, and then more
pub put_then : {a b c : Draft} {x y : List ℕ} {r : Result (Unit {0}) Fault} → Put a x (Ok tt) b → Put b y r c → Put a (x ++ y) r c
put_then {a} {b} {c} {x} {y} {r} p q =
    let more : b.len + length y ≡ a.len + length (x ++ y) = simp length-append (omega (arith, p.wrote.count)) in
    record {
      lent = q.lent ∙ p.lent;
      size = q.size ∙ p.size;
      room = q.room ∙ ap (λ n. leb n (length b.out.now)) more ∙ ap (leb (a.len + length (x ++ y))) p.size;
      wrote = cases_then a b c x y r p.wrote q.wrote;
    }

-- no room for the first of two
pub put_stops : {a b : Draft} {x : List ℕ} {e : Fault} (y : List ℕ) → Put a x (Err e) b → Put a (x ++ y) (Err e) b
put_stops {a} {b} {x} {e} y p = record {
  lent = p.lent;
  size = p.size;
  room = sym (lt-leb (a.len + length (x ++ y)) (length a.out.now) (simp length-append (omega (arith, leb-false (a.len + length x) (length a.out.now) (sym p.room)))));
  wrote = p.wrote;
}

-- the same, as `?` leaves with it
pub put_breaks : {a b : Draft} {x : List ℕ} {e : Fault} (y : List ℕ) (r : Result (Unit {0}) Fault) → IsErrAnd r (λ f. f ≡ e) → Put a x (Err e) b → Put a (x ++ y) r b
put_breaks {a} {b} {x} {e} y r h p =
    let q = err_from_is_err_and r h in
    subst (λ z. Put a (x ++ y) z b) (sym (q.1 ∙ ap Err q.2)) (put_stops y p)
