-- Hexadecimal digits that are read two by two.
use Rattle.std.proofs.Common.{◌≡◌, ℕ, zero, suc, ◌+◌, ◌*◌, ◌/◌, ◌%◌, ◌<◌, ◌≤◌, true, List, [], ◌∷◌, ◌++◌, length, get_or, take, drop, set, Some, None, Option, sym, refl, ap, ◌∙◌, append_assoc, arith}
use Rattle.std.proofs.lemmas.List.{drop_more, get_or-drop, get_or-take, take_more_set}
use Rattle.std.specs.Simd.{first_chunks}
use Rattle.std.proofs.lemmas.Bool.Decides.{nat_tests}
use Rattle.hexadecimal.specs.Text.{digit_of}
use Rattle.words.specs.Keys.{octet_of, before, hex_key, paired, pairs}

abbrev pub behind : List ℕ → Option (List ℕ) → Option (List ℕ)
behind done None = None
behind done (Some os) = Some (done ++ os)

pub behind_nothing : (os : Option (List ℕ)) → behind [] os ≡ os
behind_nothing None = refl
behind_nothing (Some os) = refl

two_more : (digits : List ℕ) (i : ℕ) → 2 * i + 1 < length digits
    → pairs (drop (2 * i) digits) ≡ before (octet_of (digit_of (get_or digits (2 * i) 0)) (digit_of (get_or digits (2 * i + 1) 0))) (pairs (drop (2 * (i + 1)) digits))
two_more digits i l =
    let first : 2 * i < length digits = omega arith in
    let next : 2 * (i + 1) ≡ 2 * i + 1 + 1 = omega arith in
    ap pairs (drop_more digits (2 * i) 0 first ∙ ap (λ ds. get_or digits (2 * i) 0 ∷ ds) (drop_more digits (2 * i + 1) 0 l))
    ∙ ap (λ n. before (octet_of (digit_of (get_or digits (2 * i) 0)) (digit_of (get_or digits (2 * i + 1) 0))) (pairs (drop n digits))) (sym next)

behind_one : (done : List ℕ) (o : ℕ) (os : Option (List ℕ)) → behind (done ++ o ∷ []) os ≡ behind done (before (Some o) os)
behind_one done o None = refl
behind_one done o (Some os) = ap Some (append_assoc done (o ∷ []) os)

pub pair_goes : (digits octets : List ℕ) (i o : ℕ) (w : Option (List ℕ)) → 2 * i + 1 < length digits → i < length octets
    → Some o ≡ octet_of (digit_of (get_or digits (2 * i) 0)) (digit_of (get_or digits (2 * i + 1) 0))
    → behind (take i octets) (pairs (drop (2 * i) digits)) ≡ w → behind (take (i + 1) (set octets i o)) (pairs (drop (2 * (i + 1)) digits)) ≡ w
pair_goes digits octets i o w l m e h =
    ap (λ done. behind done (pairs (drop (2 * (i + 1)) digits))) (take_more_set octets i o m)
    ∙ behind_one (take i octets) o (pairs (drop (2 * (i + 1)) digits))
    ∙ ap (λ p. behind (take i octets) (before p (pairs (drop (2 * (i + 1)) digits)))) e
    ∙ sym (ap (behind (take i octets)) (two_more digits i l)) ∙ h

pub pair_stops : (digits octets : List ℕ) (i : ℕ) (w : Option (List ℕ)) → 2 * i + 1 < length digits
    → None ≡ octet_of (digit_of (get_or digits (2 * i) 0)) (digit_of (get_or digits (2 * i + 1) 0))
    → behind (take i octets) (pairs (drop (2 * i) digits)) ≡ w → None ≡ w
pair_stops digits octets i w l e h =
    ap (λ p. behind (take i octets) (before p (pairs (drop (2 * (i + 1)) digits)))) e ∙ sym (ap (behind (take i octets)) (two_more digits i l)) ∙ h

pub hex_none : (digits : List ℕ) → paired (length digits) ≡ true → None ≡ pairs digits → None ≡ hex_key digits
hex_none digits e h = rw (e, sym h)

-- so many digits, two by two, are no more than a key's
pub evenly : (n : ℕ) → n % 2 < 1 → n / 2 ≤ 16 → paired n ≡ true
evenly n even few = grind (arith, nat_tests)

-- a digit of a pair
chunk_at : (k i : ℕ) (digits : List ℕ) (j : ℕ) → i < k → j < 2 → get_or (get_or (first_chunks 2 k digits) i []) j 0 ≡ get_or digits (2 * i + j) 0
chunk_at zero i digits j l m = absurd (omega arith)
chunk_at (suc k) zero digits j l m = get_or-take 2 digits j 0 m ∙ ap (λ n. get_or digits n 0) (omega arith)
chunk_at (suc k) (suc i) digits j l m =
    let less : i < k = omega arith in
    chunk_at k i (drop 2 digits) j less m ∙ get_or-drop 2 digits (2 * i + j) 0 ∙ ap (λ n. get_or digits n 0) (omega arith)

pub pair_at : (chunks : List (List ℕ)) (digits : List ℕ) (n i : ℕ) → chunks ≡ first_chunks 2 n digits → length chunks ≡ n → i < length chunks
    → octet_of (digit_of (get_or (get_or chunks i []) 0 0)) (digit_of (get_or (get_or chunks i []) 1 0))
    ≡ octet_of (digit_of (get_or digits (2 * i) 0)) (digit_of (get_or digits (2 * i + 1) 0))
pair_at chunks digits n i e size l =
    let less : i < n = omega arith in
    let first : get_or (get_or chunks i []) 0 0 ≡ get_or digits (2 * i) 0 = ap (λ cs. get_or (get_or cs i []) 0 0) e ∙ chunk_at n i digits 0 less (omega arith) ∙ ap (λ m. get_or digits m 0) (omega arith) in
    let second : get_or (get_or chunks i []) 1 0 ≡ get_or digits (2 * i + 1) 0 = ap (λ cs. get_or (get_or cs i []) 1 0) e ∙ chunk_at n i digits 1 less (omega arith) in
    (λ k. octet_of (digit_of (first k)) (digit_of (second k)))
