-- The decimal digits of a number are read back as that number.
use Rattle.std.proofs.Common.{◌≡◌, ℕ, ◌+◌, ◌*◌, ◌/◌, ◌%◌, ◌^◌, ◌<◌, ◌≤◌, true, false, eqb, List, [], ◌∷◌, ◌++◌, length, Some, None, Ok, decimal, Option, refl, ap, ◌∙◌, arith, length-append, ne_eqb}
use Rattle.std.specs.List.{list_all}
use Rattle.std.proofs.lemmas.Fmt.{decimal_by_steps}
use Rattle.std.proofs.lemmas.Bool.Decides.{nat_tests}
use Rattle.avp.specs.declared.field.Limits.{Limits}
use Rattle.avp.specs.Fields.{allows}
use Rattle.group.specs.Walk.{then}
use Rattle.words.specs.Words.{ended}
use Rattle.words.specs.Numbers.{longer, onward, value_of, number_of, last_number}
use Rattle.text_trip.proofs.Cuts.{inked, word_alone, rest_alone}
use Rattle.text_trip.proofs.Inks.{every_append}

joined : (o : Option ℕ) (cs ds : List ℕ) → ((m : ℕ) → value_of m (cs ++ ds) ≡ onward (value_of m cs) (λ k. value_of k ds))
    → onward o (λ m. value_of m (cs ++ ds)) ≡ onward (onward o (λ m. value_of m cs)) (λ k. value_of k ds)
joined None cs ds h = refl
joined (Some m) cs ds h = h m

value_append : (cs ds : List ℕ) (n : ℕ) → value_of n (cs ++ ds) ≡ onward (value_of n cs) (λ k. value_of k ds)
value_append [] ds n = refl
value_append (c ∷ cs) ds n = joined (longer n c) cs ds (value_append cs ds)

one_digit : (n d : ℕ) → d < 10 → 10 * n + d < 2 ^ 64 → longer n (48 + d) ≡ Some (10 * n + d)
one_digit n d l fits = grind (arith, nat_tests)

-- what is known of a number's digits
pub record Figures (n : ℕ) (ds : List ℕ) : Type 0 where
  pub value : value_of 0 ds ≡ Some n
  pub ink : list_all inked ds ≡ true
  pub some : 0 < length ds

digit_ink : (d : ℕ) → d < 10 → list_all inked ((48 + d) ∷ []) ≡ true
digit_ink d l = grind (arith, nat_tests)

abbrev Fitting : ℕ → List ℕ → Type 0
Fitting n ds = n < 2 ^ 64 → Figures n ds

one : (n : ℕ) → n < 10 → Fitting n ((48 + n) ∷ [])
one n l fits =
    let digit : longer 0 (48 + n) ≡ Some (10 * 0 + n) = one_digit 0 n l (omega arith) in
    let same : 10 * 0 + n ≡ n = omega arith in
    record { value = ap (λ o. onward o (λ m. value_of m [])) digit ∙ ap Some same; ink = digit_ink n l; some = omega arith }

more : (n : ℕ) (ds : List ℕ) → 10 ≤ n → Fitting (n / 10) ds → Fitting n (ds ++ (48 + n % 10) ∷ [])
more n ds l front fits =
    let before = front (omega arith) in
    let last : n % 10 < 10 = omega arith in
    let same : 10 * (n / 10) + n % 10 ≡ n = omega arith in
    record {
      value = value_append ds ((48 + n % 10) ∷ []) 0 ∙ ap (λ o. onward o (λ k. value_of k ((48 + n % 10) ∷ []))) before.value ∙ ap (λ o. onward o (λ m. value_of m [])) (one_digit (n / 10) (n % 10) last (omega arith)) ∙ ap Some same;
      ink = every_append inked ds ((48 + n % 10) ∷ []) before.ink (digit_ink (n % 10) last);
      some = simp length-append (omega (arith, before.some));
    }

pub figures : (n : ℕ) → n < 2 ^ 64 → Figures n (decimal n)
figures n fits = decimal_by_steps Fitting one more n fits fits

-- a number within limits
pub number_back : (limits : Limits) (n : ℕ) → n < 2 ^ 64 → allows limits n ≡ true → number_of limits (decimal n) ≡ Ok n
number_back limits n fits allowed =
    let f = figures n fits in
    let full : eqb (length (decimal n)) 0 ≡ false = ne_eqb _ _ (λ e. omega (arith, f.some)) in
    rw (full, f.value, allowed)

-- a number that ends a line
pub last_back : (limits : Limits) (n : ℕ) → n < 2 ^ 64 → allows limits n ≡ true → last_number limits (32 ∷ decimal n) ≡ Ok n
last_back limits n fits allowed =
    let f = figures n fits in
    (λ i. then (number_of limits (word_alone (decimal n) f.ink f.some i)) (λ m. then (ended (rest_alone (decimal n) f.ink f.some i)) (λ _. Ok m)))
    ∙ ap (λ r. then r (λ m. then (ended []) (λ _. Ok m))) (number_back limits n fits allowed)
