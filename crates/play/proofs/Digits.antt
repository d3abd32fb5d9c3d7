-- How many digits a number has, and where they stand.
use Rattle.std.proofs.Common.{◌≡◌, ℕ, zero, suc, ◌+◌, ◌-◌, ◌*◌, ◌/◌, ◌%◌, ◌^◌, ◌<◌, ◌≤◌, List, [], ◌∷◌, ◌++◌, length, take, drop, set, max, decimal, sym, refl, ap, ◌∙◌, append_assoc, arith, length-append, take-append-drop}
use Rattle.std.proofs.lemmas.Fmt.{decimal_digit, decimal_step, decimal_by_steps, decimal_nonempty, length-decimal-le}
use Rattle.std.proofs.Math.Nat.{pow-le-pow_right}
use Rattle.std.proofs.lemmas.Grind.{pow_more}
use Rattle.std.proofs.lemmas.List.{take-set-le, take-take}

-- a number from 10 on has one digit more than without its last one
pub one_digit_more : (n : ℕ) → 10 ≤ n → n < 2 ^ 64 → length (decimal n) ≡ length (decimal (n / 10)) + 1
one_digit_more n h small = ap length (decimal_step n h small) ∙ length-append (decimal (n / 10)) ((48 + n % 10) ∷ [])

pub one_digit : (n : ℕ) → n < 10 → length (decimal n) ≡ 1
one_digit n h = ap length (decimal_digit n h)

-- a byte put at i stands in front of what stands from i + 1 on
put_before : (s : List ℕ) (i e b : ℕ) → i < e → e ≤ length s → drop i (take e (set s i b)) ≡ b ∷ drop (i + 1) (take e s)
put_before [] i e b h l = absurd (omega arith)
put_before (x ∷ s) i zero b h l = absurd (omega arith)
put_before (x ∷ s) zero (suc e) b h l = refl
put_before (x ∷ s) (suc i) (suc e) b h l =
    let k : suc i + 1 ≡ suc (i + 1) = omega arith in
    put_before s i e b (omega arith) (omega arith) ∙ ap (λ (n : ℕ). b ∷ drop n (x ∷ take e s)) (sym k)

-- one digit more
pub digit_before : (n m i e b : ℕ) (s : List ℕ) → 10 ≤ m → m < 2 ^ 64 → b ≡ 48 + m % 10 → 0 < i → i ≤ e → e ≤ length s
    → decimal n ≡ decimal m ++ drop i (take e s) → decimal n ≡ decimal (m / 10) ++ drop (i - 1) (take e (set s (i - 1) b))
digit_before n m i e b s h small d i0 ie es x =
    let k : i - 1 + 1 ≡ i = omega arith in
    let p = put_before s (i - 1) e b (omega arith) es ∙ ap (λ (j : ℕ). b ∷ drop j (take e s)) k in
    x ∙ ap (λ (y : List ℕ). y ++ drop i (take e s)) (decimal_step m h small) ∙ append_assoc (decimal (m / 10)) ((48 + m % 10) ∷ []) (drop i (take e s))
    ∙ ap (λ (c : ℕ). decimal (m / 10) ++ (c ∷ drop i (take e s))) (sym d) ∙ ap (λ (y : List ℕ). decimal (m / 10) ++ y) (sym p)

-- the first digit
pub digit_first : (n m i e k b : ℕ) (s t : List ℕ) → m < 10 → b ≡ 48 + m → i ≡ k + 1 → i ≤ e → e ≤ length s
    → decimal n ≡ decimal m ++ drop i (take e s) → take k s ≡ take k t → take e (set s (i - 1) b) ≡ take k t ++ decimal n
digit_first n m i e k b s t h d ik ie es x y =
    let j : i - 1 ≡ k = omega arith in
    let u = take e (set s k b) in
    let p = put_before s k e b (omega arith) es ∙ ap (λ (z : ℕ). b ∷ drop z (take e s)) (sym ik) in
    let q : decimal n ≡ b ∷ drop i (take e s) = x ∙ ap (λ (z : List ℕ). z ++ drop i (take e s)) (decimal_digit m h ∙ ap (λ (c : ℕ). c ∷ []) (sym d)) in
    let f : take k u ≡ take k t = take-take k e (set s k b) (omega arith) ∙ take-set-le k s k b (omega arith) ∙ y in
    ap (λ (z : ℕ). take e (set s z b)) j ∙ sym (take-append-drop k u) ∙ ap (λ (z : List ℕ). z ++ drop k u) f
    ∙ ap (λ (z : List ℕ). take k t ++ z) (p ∙ sym q)

-- nothing stands from the end on
pub nothing_after : (e : ℕ) (s : List ℕ) → drop e (take e s) ≡ []
nothing_after zero s = refl
nothing_after (suc e) [] = refl
nothing_after (suc e) (x ∷ s) = nothing_after e s

-- where the digits that are left to put end
pub digits_left : (n m i e : ℕ) (s : List ℕ) → length (decimal n) ≤ e → i + length (decimal n) ≡ e + length (decimal m) → m < 2 ^ 64
    → decimal n ≡ decimal m ++ drop i (take e s) → (0 < i) × (i ≤ e)
digits_left n m i e s room h small x =
    let l = ap length x ∙ length-append (decimal m) (drop i (take e s)) in
    let d = decimal_nonempty m small in (omega (arith, h, d, room), omega (arith, h, l))

-- a number is below the power of ten with as many zeros as it has digits
below_power : (n : ℕ) → n < 2 ^ 64 → n < 10 ^ length (decimal n)
below_power =
    decimal_by_steps (λ m ds. m < 10 ^ length ds) (λ m l. omega arith)
    (λ m ds l h. let p = pow_more 10 (length ds) in rw length-append (omega (arith, h, p)))

-- the exponent of the greatest power of ten that is not above the number, and one more
pub digits_counted : (n k : ℕ) → n < 2 ^ 64 → 10 ^ k ≤ max n 1 → max n 1 < 10 * 10 ^ k → k + 1 ≡ length (decimal n)
digits_counted n k small low high =
    let p = pow_more 10 k in
    let most = length-decimal-le (k + 1) n (omega arith) (omega (arith, p, high)) small in
    let least = decimal_nonempty n small in
    let above = below_power n small in
    let ten : 10 ^ 1 ≤ 10 ^ length (decimal n) = pow-le-pow_right {n = 10} (omega arith) least in
    let fewer : length (decimal n) ≤ k → 10 ^ length (decimal n) ≤ 10 ^ k = λ h. pow-le-pow_right {n = 10} (omega arith) h in
    grind (arith, most, least, above, ten, fewer, low)
