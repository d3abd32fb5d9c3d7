-- Number fields read just what is written of a number.
use Rattle.std.proofs.Common.{◌≡◌, ℕ, zero, suc, ◌^◌, ◌<◌, ◌≤◌, Bool, true, false, eqb, List, [], ◌∷◌, length, get_or, ℤ, pos, negsuc, Some, None, decimal, codes, Option, sym, refl, ap, ◌∙◌, subst, arith, rules, eqb-true}
use Rattle.std.proofs.lemmas.Str.Parse.{IsNumeralModel, numerals_by_fold, tells_all_ascii_digits, not_in_digits}
use Rattle.std.proofs.lemmas.Fmt.{digits_decimal, digits_value-decimal, decimal-digits_value, decimal_nonempty, decimal_digit, first_decimal}
use Rattle.std.proofs.lemmas.Bool.Decides.{nat_tests}
use Rattle.std.specs.Str.{all_ascii_digits}
use Rattle.std.specs.Fmt.{signed_decimal}
use Rattle.std.specs.Option.{option_map}
use Rattle.schedule.specs.Texts.{longest_text}
use Rattle.schedule.specs.Pieces.{space, Clear}
use Rattle.schedule.specs.Written.{InValue}
use Rattle.schedule.specs.Numbers.{value_after, digits_after, number_field, negative, value_field, highest_value, lowest_value}

own : IsNumeralModel (λ ds. all_ascii_digits ds ≡ true) (value_after 0)
own = numerals_by_fold _ tells_all_ascii_digits value_after (search rules)

-- digits that are taken are digits, and their number is at most `top`
digits_are : (top n : ℕ) (s : List ℕ) → digits_after top 0 s ≡ Some n → (all_ascii_digits s ≡ true) × (value_after 0 s ≡ n) × (n ≤ top)
digits_are top n s e = grind (arith, nat_tests)

digits_read : (top : ℕ) (s : List ℕ) → all_ascii_digits s ≡ true → value_after 0 s ≤ top → digits_after top 0 s ≡ Some (value_after 0 s)
digits_read top s d h = grind (arith, nat_tests)

-- a number field is what is written of its number
pub number_written : (top n : ℕ) (s : List ℕ) → top < 2 ^ 64 → number_field top s ≡ Some n → (s ≡ decimal n) × (n ≤ top)
number_written top n [] small e = absurd (cc)
number_written top n (b ∷ []) small e =
    let d = digits_are top n (b ∷ []) e in
    (sym (decimal-digits_value own (b ∷ []) d.0 (omega arith) (λ _. refl) (omega (arith, d.1))) ∙ ap decimal d.1, d.2)
number_written top n (b ∷ c ∷ s) small e = by (eqb b 48) refl
  where
    by : (t : Bool) → eqb b 48 ≡ t → ((b ∷ c ∷ s) ≡ decimal n) × (n ≤ top)
    by true q = absurd (cc (rw q at e))
    by false q =
        let d = digits_are top n (b ∷ c ∷ s) (rw q at e) in
        let first : b ≡ 48 → ⊥ = grind (arith, nat_tests) in (
          sym (decimal-digits_value own (b ∷ c ∷ s) d.0 (omega arith) (λ (z : b ≡ 48). absurd (first z)) (omega (arith, d.1))) ∙ ap decimal d.1,
          d.2,
        )

-- only 0 is written with one digit 0 in front
above_zero : (n b : ℕ) (s : List ℕ) → decimal n ≡ b ∷ s → 0 < length s → 0 < n
above_zero zero b s e l = absurd (omega (arith, ap length (sym (decimal_digit 0 (omega arith)) ∙ e)))
above_zero (suc n) b s e l = omega arith

no_zero : (n b : ℕ) (s : List ℕ) → n < 2 ^ 64 → decimal n ≡ b ∷ s → 0 < length s → eqb b 48 ≡ false
no_zero n b s large e l =
    let first : 48 < b = subst (λ (x : List ℕ). 48 < get_or x 0 0) e (first_decimal n (above_zero n b s e l) large) in
    grind (arith, nat_tests)

-- what is written of a number is read as that number
pub number_reads : (top n : ℕ) → top < 2 ^ 64 → n ≤ top → number_field top (decimal n) ≡ Some n
number_reads top n small h = by (decimal n) refl
  where
    large : n < 2 ^ 64
    large = omega arith

    reads : (s : List ℕ) → decimal n ≡ s → digits_after top 0 s ≡ Some n
    reads s e =
        let v : value_after 0 s ≡ n = ap (value_after 0) (sym e) ∙ digits_value-decimal own n large in
        digits_read top s (subst (λ (x : List ℕ). all_ascii_digits x ≡ true) e (digits_decimal own n large)) (omega arith) ∙ ap Some v

    by : (s : List ℕ) → decimal n ≡ s → number_field top s ≡ Some n
    by [] e = absurd (omega (arith, decimal_nonempty n large, ap length e))
    by (b ∷ []) e = reads (b ∷ []) e
    by (b ∷ c ∷ s) e = rw (no_zero n b (c ∷ s) large e (omega arith)) (reads (b ∷ c ∷ s) e)

-- the digits of a number have no byte below 48
pub decimal_clear : (n b : ℕ) → n < 2 ^ 64 → b < 48 → Clear b (decimal n)
decimal_clear n b h l = not_in_digits own (decimal n) b (digits_decimal own n h) (λ d. omega arith)

-- the first byte of a number is no minus
no_minus : (n b : ℕ) (s : List ℕ) → n < 2 ^ 64 → decimal n ≡ b ∷ s → eqb b 45 ≡ false
no_minus n b s large e =
    let ne : b ≡ 45 → ⊥ = λ q. decimal_clear n 45 large (omega arith) 0 (decimal_nonempty n large) (ap (λ (x : List ℕ). get_or x 0 0) e ∙ q) in
    grind (arith, nat_tests)

-- a value field is what is written of its value
pub value_written : (z : ℤ) (s : List ℕ) → value_field s ≡ Some z → (s ≡ signed_decimal z) × InValue z
value_written z [] e = absurd (cc)
value_written z (b ∷ s) e = by (eqb b 45) refl
  where
    minus : (o : Option ℕ) → number_field lowest_value s ≡ o → negative o ≡ Some z → ((45 ∷ s) ≡ signed_decimal z) × InValue z
    minus None q f = absurd (cc)
    minus (Some zero) q f = absurd (cc)
    minus (Some (suc n)) q f =
        let w = number_written lowest_value (suc n) s (omega arith) q in
        let g : negsuc n ≡ z = cc in
        subst (λ (y : ℤ). ((45 ∷ s) ≡ signed_decimal y) × InValue y) g (ap (λ (x : List ℕ). 45 ∷ x) w.0, w.1)

    plain : (o : Option ℕ) → number_field highest_value (b ∷ s) ≡ o → option_map pos o ≡ Some z → ((b ∷ s) ≡ signed_decimal z) × InValue z
    plain None q f = absurd (cc)
    plain (Some n) q f =
        let w = number_written highest_value n (b ∷ s) (omega arith) q in
        let g : pos n ≡ z = cc in
        subst (λ (y : ℤ). ((b ∷ s) ≡ signed_decimal y) × InValue y) g w

    by : (t : Bool) → eqb b 45 ≡ t → ((b ∷ s) ≡ signed_decimal z) × InValue z
    by true q = rw (eqb-true b 45 q) (minus (number_field lowest_value s) refl (rw q at e))
    by false q = plain (number_field highest_value (b ∷ s)) refl (rw q at e)

-- what is written of a value is read as that value
pub value_reads : (z : ℤ) → InValue z → value_field (signed_decimal z) ≡ Some z
value_reads (pos n) h = by (decimal n) refl
  where
    by : (s : List ℕ) → decimal n ≡ s → value_field s ≡ Some (pos n)
    by [] e = absurd (omega (arith, decimal_nonempty n (omega arith), ap length e))
    by (b ∷ s) e =
        rw (no_minus n b s (omega arith) e) (ap (option_map pos) (ap (number_field highest_value) (sym e) ∙ number_reads highest_value n (omega arith) h))
value_reads (negsuc n) h = ap negative (number_reads lowest_value (suc n) (omega arith) h)

-- a written value has no space
pub signed_clear : (z : ℤ) → InValue z → Clear space (signed_decimal z)
signed_clear (pos n) h k l q = decimal_clear n space (omega arith) (omega arith) k l q
signed_clear (negsuc n) h zero l q = omega arith
signed_clear (negsuc n) h (suc k) l q = decimal_clear (suc n) space (omega arith) (omega arith) k (omega arith) q

-- the number of bytes that a text may have, as it is printed
pub limit_written : decimal longest_text ≡ codes "60000"
limit_written = decimal-digits_value own (codes "60000") refl (omega arith) (λ z. absurd (omega arith)) (omega arith)
