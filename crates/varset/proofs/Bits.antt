-- The bits of a number: of zero, of a power of two, of `|`, `&` and `!`, and the lowest one; for any width.
use Rattle.std.proofs.Common.{◌≡◌, ℕ, zero, suc, ◌+◌, ◌-◌, ◌*◌, ◌/◌, ◌%◌, ◌^◌, ◌<◌, min, max, true, false, not, ◌&&◌, ◌||◌, eqb, ◌⊎◌, sym, refl, ap, ◌∙◌, inl, inr, add-mul, pow-suc, arith}
use native.Mathlib.Nat.{div-eq_of_lt, div_self, mul-mod_left, zero-div}
use lib.Bits.{bit_or, bit_and, or_step, and_step}
use lib.Count.{count_trailing_zeros, under}
use Rattle.std.proofs.lemmas.Nat.{or_shr, and_shr, pow_pos, pow-add, pow_below, shl-shr, shr-shr, shr_high}
use Rattle.std.proofs.lemmas.Bool.{cases_order, eq-eqb, ne_eqb, eqb-false}
use Rattle.std.proofs.lemmas.Bool.Decides.{nat_tests}
use Rattle.varset.specs.Members.{bit}

-- the last bit of two digits joined
or_last : (a b : ℕ) → eqb (bit_or a b % 2) 1 ≡ (eqb (a % 2) 1 || eqb (b % 2) 1)
or_last a b =
    let s : bit_or a b ≡ bit_or (a / 2) (b / 2) * 2 + max (a % 2) (b % 2) = or_step a b in
    let e : bit_or a b % 2 ≡ max (a % 2) (b % 2) = omega arith in
    rw e (grind (arith, nat_tests))

and_last : (a b : ℕ) → eqb (bit_and a b % 2) 1 ≡ (eqb (a % 2) 1 && eqb (b % 2) 1)
and_last a b =
    let s : bit_and a b ≡ bit_and (a / 2) (b / 2) * 2 + min (a % 2) (b % 2) = and_step a b in
    let e : bit_and a b % 2 ≡ min (a % 2) (b % 2) = omega arith in
    rw e (grind (arith, nat_tests))

pub bit-or : (x y v : ℕ) → bit (bit_or x y) v ≡ (bit x v || bit y v)
unfolding bit
bit-or x y v = rw (or_shr x y v) (or_last (x / 2 ^ v) (y / 2 ^ v))

pub bit-and : (x y v : ℕ) → bit (bit_and x y) v ≡ (bit x v && bit y v)
unfolding bit
bit-and x y v = rw (and_shr x y v) (and_last (x / 2 ^ v) (y / 2 ^ v))

pub bit_zero : (v : ℕ) → bit 0 v ≡ false
unfolding bit
bit_zero v = rw (zero-div (2 ^ v))

-- a power of two over a smaller one
power_over : (k v : ℕ) → 2 ^ (suc k + v) ≡ 2 ^ k * 2 * 2 ^ v
power_over k v = pow-add 2 (suc k) v ∙ ap (λ (x : ℕ). x * 2 ^ v) (pow-suc 2 k)

-- a power of two has one bit
pub bit_power : (w v : ℕ) → bit (2 ^ w) v ≡ eqb v w
unfolding bit
bit_power w v = go (cases_order v w)
  where
    go : (v ≡ w) ⊎ ((v < w) ⊎ (w < v)) → eqb (2 ^ w / 2 ^ v % 2) 1 ≡ eqb v w
    go (inl e) =
        let q : 2 ^ w / 2 ^ v ≡ 1 = ap (λ (x : ℕ). 2 ^ w / 2 ^ x) e ∙ div_self (pow_pos w) in
        rw q (sym (eq-eqb v w e))
    go (inr (inl h)) =
        let k : ℕ = w - v - 1 in
        let l : w ≡ suc k + v = omega arith in
        let q : 2 ^ w / 2 ^ v ≡ 2 ^ k * 2 = ap (λ (x : ℕ). 2 ^ x / 2 ^ v) l ∙ ap (λ (x : ℕ). x / 2 ^ v) (power_over k v) ∙ shl-shr (2 ^ k * 2) v in
        rw (q, mul-mod_left (2 ^ k) 2) (sym (ne_eqb v w (λ e. omega arith)))
    go (inr (inr h)) =
        let q : 2 ^ w / 2 ^ v ≡ 0 = div-eq_of_lt (pow_below w v h) in
        rw q (sym (ne_eqb v w (λ e. omega arith)))

-- as many ones as there are places
pub bit_ones : (w v : ℕ) → v < w → bit (2 ^ w - 1) v ≡ true
unfolding bit
bit_ones w v h =
    let k : ℕ = w - v - 1 in
    let l : w ≡ suc k + v = omega arith in
    let a : ℕ = 2 ^ k * 2 - 1 in
    let p : 2 ^ w ≡ (a + 1) * 2 ^ v = ap (λ (x : ℕ). 2 ^ x) l ∙ power_over k v ∙ ap (λ (x : ℕ). x * 2 ^ v) (omega (arith, pow_pos k)) in
    let e : 2 ^ w - 1 ≡ a * 2 ^ v + (2 ^ v - 1) = omega (arith, p, add-mul a 1 (2 ^ v), pow_pos v) in
    let q : (2 ^ w - 1) / 2 ^ v ≡ a = ap (λ (x : ℕ). x / 2 ^ v) e ∙ shr_high a v (2 ^ v - 1) (omega (arith, pow_pos v)) in
    let o : a % 2 ≡ 1 = omega (arith, pow_pos k) in
    rw (q, o)

-- the bits above the last one are those of the half
bit_half : (x v : ℕ) → bit (x / 2) v ≡ bit x (suc v)
unfolding bit
bit_half x v =
    let e : suc v ≡ 1 + v = omega arith in
    let q : x / 2 / 2 ^ v ≡ x / 2 ^ suc v = shr-shr x 1 v ∙ ap (λ (n : ℕ). x / 2 ^ n) (sym e) in
    rw q

-- without its last bit a number is even
even_from_bit : (x : ℕ) → bit x 0 ≡ false → x % 2 ≡ 0
unfolding bit
even_from_bit x e = omega (arith, eqb-false (x / 1 % 2) 1 e)

-- a number without bits is zero
pub zero_from_bits : (w x : ℕ) → x < 2 ^ w → ((v : ℕ) → v < w → bit x v ≡ false) → x ≡ 0
zero_from_bits zero x h a = omega arith
zero_from_bits (suc w) x h a =
    let b : x < 2 ^ w * 2 = rw pow-suc at h in
    let z : x / 2 ≡ 0 = zero_from_bits w (x / 2) (omega arith) (λ v l. bit_half x v ∙ a (suc v) (omega arith)) in
    omega (arith, even_from_bit x (a 0 (omega arith)))

-- the last bit
bit_odd : (x : ℕ) → x % 2 ≡ 1 → bit x 0 ≡ true
unfolding bit
bit_odd x e = eq-eqb (x / 1 % 2) 1 (omega arith)

bit_even : (x : ℕ) → x % 2 ≡ 0 → bit x 0 ≡ false
unfolding bit
bit_even x e = ne_eqb (x / 1 % 2) 1 (λ o. omega arith)

-- every bit turned, in a width
pub bit_not : (w x v : ℕ) → x < 2 ^ w → v < w → bit (2 ^ w - 1 - x) v ≡ not (bit x v)
bit_not zero x v h l = absurd (omega arith)
bit_not (suc w) x zero h l = go (x % 2) refl
  where
    p : 2 ^ suc w ≡ 2 ^ w * 2
    p = pow-suc 2 w

    go : (r : ℕ) → x % 2 ≡ r → bit (2 ^ suc w - 1 - x) 0 ≡ not (bit x 0)
    go zero e = rw (bit_odd (2 ^ suc w - 1 - x) (omega (arith, p, h, e)), bit_even x e)
    go (suc r) e = rw (bit_even (2 ^ suc w - 1 - x) (omega (arith, p, h, e)), bit_odd x (omega arith))
bit_not (suc w) x (suc v) h l =
    let p : 2 ^ suc w ≡ 2 ^ w * 2 = pow-suc 2 w in
    let e : (2 ^ suc w - 1 - x) / 2 ≡ 2 ^ w - 1 - x / 2 = omega arith in
    sym (bit_half (2 ^ suc w - 1 - x) v) ∙ ap (λ (n : ℕ). bit n v) e ∙ bit_not w (x / 2) v (omega arith) (omega arith) ∙ ap not (bit_half x v)

-- a number that isn't zero has its lowest bit where its trailing zeros end
pub bit_trailing : (w x : ℕ) → 0 < x → x < 2 ^ w → bit x (count_trailing_zeros w x) ≡ true
unfolding count_trailing_zeros
bit_trailing zero x p h = absurd (omega arith)
bit_trailing (suc w) x p h = go (x % 2) refl (bit_trailing w (x / 2))
  where
    b : x < 2 ^ w * 2
    b = rw pow-suc at h

    go : (r : ℕ) → x % 2 ≡ r → (0 < x / 2 → x / 2 < 2 ^ w → bit (x / 2) (count_trailing_zeros w (x / 2)) ≡ true) → bit x (under r (count_trailing_zeros w (x / 2))) ≡ true
    go zero e half = sym (bit_half x (count_trailing_zeros w (x / 2))) ∙ half (omega (arith, p, e)) (omega (arith, b))
    go (suc r) e half = bit_odd x (omega arith)

-- and none below
pub bit_before_trailing : (w x v : ℕ) → v < count_trailing_zeros w x → bit x v ≡ false
unfolding count_trailing_zeros
bit_before_trailing zero x v l = absurd (omega arith)
bit_before_trailing (suc w) x v l = go (x % 2) v refl l (bit_before_trailing w (x / 2))
  where
    go : (r u : ℕ) → x % 2 ≡ r → u < under r (count_trailing_zeros w (x / 2)) → ((k : ℕ) → k < count_trailing_zeros w (x / 2) → bit (x / 2) k ≡ false) → bit x u ≡ false
    go zero zero e i half = bit_even x e
    go zero (suc u) e i half = sym (bit_half x u) ∙ half u (omega arith)
    go (suc r) u e i half = absurd (omega arith)
