-- Masks of any width as sets: the empty one, the full one, a place more or less, union, the least member, and whether there is one.
use Rattle.std.proofs.Common.{◌≡◌, ℕ, ◌-◌, ◌*◌, ◌/◌, ◌%◌, ◌^◌, ◌<◌, Bool, true, false, not, ◌&&◌, ◌||◌, eqb, ltb, ◌⊎◌, ap, ◌∙◌, inl, inr, arith}
use lib.Bits.{bit_or, bit_and}
use lib.Count.{count_trailing_zeros}
use borrow.Author.Numbers.{trailing_lt}
use Rattle.std.proofs.lemmas.Nat.{one_shl, and_mask, pow_below}
use Rattle.std.proofs.lemmas.Bool.{cases_Bool, lt-ltb, ltb-true, and_from, and_right, both_ways}
use Rattle.std.proofs.lemmas.Bool.Decides.{nat_tests}
use Rattle.policy.specs.Facts.{some_below}
use Rattle.policy.proofs.SomeBelow.{some_below_empty, some_below_all, some_below_same}
use Rattle.varset.specs.Members.{bit, minus, Least}
use Rattle.varset.proofs.Bits.{bit_zero, bit-or, bit-and, bit_not, bit_ones, bit_power, bit_trailing, bit_before_trailing, zero_from_bits}

-- place v of a mask of w bits
abbrev pub inside : ℕ → ℕ → ℕ → Bool
inside w x v = ltb v w && bit x v

pub inside_zero : (w v : ℕ) → inside w 0 v ≡ false
inside_zero w v = and_right (ltb v w) (bit 0 v) (bit_zero v)

pub inside_ones : (w v : ℕ) → inside w (2 ^ w - 1) v ≡ ltb v w
inside_ones w v = go (cases_Bool (ltb v w))
  where
    go : (ltb v w ≡ true) ⊎ (ltb v w ≡ false) → inside w (2 ^ w - 1) v ≡ ltb v w
    go (inl e) = let b : bit (2 ^ w - 1) v ≡ true = bit_ones w v (ltb-true v w e) in grind arith
    go (inr e) = grind arith

pub inside_or : (w x y v : ℕ) → inside w (bit_or x y) v ≡ (inside w x v || inside w y v)
inside_or w x y v = let e : bit (bit_or x y) v ≡ (bit x v || bit y v) = bit-or x y v in grind arith

pub inside_and : (w x y v : ℕ) → inside w (bit_and x y) v ≡ (inside w x v && inside w y v)
inside_and w x y v = let e : bit (bit_and x y) v ≡ (bit x v && bit y v) = bit-and x y v in grind arith

-- the mask with one more place k, as `x | (1 << k)` has it
pub inside_with : (w x k v : ℕ) → k < w → inside w (bit_or x ((1 * 2 ^ k) % 2 ^ w)) v ≡ (inside w x v || (eqb v k && ltb k w))
inside_with w x k v h =
    let e : bit (bit_or x ((1 * 2 ^ k) % 2 ^ w)) v ≡ (bit x v || eqb v k) = ap (λ (n : ℕ). bit (bit_or x n) v) (one_shl k w h) ∙ bit-or x (2 ^ k) v ∙ ap (λ (b : Bool). bit x v || b) (bit_power k v) in
    let l : ltb k w ≡ true = lt-ltb k w h in
    rw e (grind (arith, nat_tests))

-- the mask without the place k, as `x & !(1 << k)` has it
pub inside_without : (w x k v : ℕ) → k < w → inside w (bit_and x (2 ^ w - 1 - (1 * 2 ^ k) % 2 ^ w)) v ≡ minus (inside w x) k v
inside_without w x k v h = go (cases_Bool (ltb v w))
  where
    go : (ltb v w ≡ true) ⊎ (ltb v w ≡ false) → inside w (bit_and x (2 ^ w - 1 - (1 * 2 ^ k) % 2 ^ w)) v ≡ minus (inside w x) k v
    go (inl e) =
        let n : bit (2 ^ w - 1 - (1 * 2 ^ k) % 2 ^ w) v ≡ not (eqb v k) = ap (λ (n : ℕ). bit (2 ^ w - 1 - n) v) (one_shl k w h) ∙ bit_not w (2 ^ k) v (pow_below k w h) (ltb-true v w e) ∙ ap not (bit_power k v) in
        let a : bit (bit_and x (2 ^ w - 1 - (1 * 2 ^ k) % 2 ^ w)) v ≡ (bit x v && not (eqb v k)) = bit-and x _ v ∙ ap (λ (b : Bool). bit x v && b) n in
        rw (e, a)
    go (inr e) = rw e

-- a place beyond the mask is not in it
pub inside_beyond : (w x k v : ℕ) → ltb k w ≡ false → inside w x v ≡ minus (inside w x) k v
inside_beyond w x k v e = go (cases_Bool (eqb v k))
  where
    go : (eqb v k ≡ true) ⊎ (eqb v k ≡ false) → inside w x v ≡ minus (inside w x) k v
    go (inl i) = let l : ltb v w ≡ false = grind (arith, nat_tests) in rw (l)
    go (inr i) = grind arith

-- the least member stands where the trailing zeros end
pub least_place : (w x : ℕ) → 0 < x → x < 2 ^ w → Least (inside w x) (count_trailing_zeros w x)
least_place w x p h = record {
  in_set = and_from _ _ (lt-ltb (count_trailing_zeros w x) w (trailing_lt w x p h)) (bit_trailing w x p h);
  none_below = λ v l. and_right (ltb v w) (bit x v) (bit_before_trailing w x v l);
}

-- the test of a place, as `(x >> k) & 1 == 1` has it
pub bit_test : (x k : ℕ) → eqb (bit_and (x / 2 ^ k) 1) 1 ≡ bit x k
unfolding bit
bit_test x k = ap (λ (n : ℕ). eqb n 1) (and_mask (x / 2 ^ k) 1)

-- a mask is zero exactly if it has no member
pub zero_mask : (w x : ℕ) → x < 2 ^ w → eqb x 0 ≡ not (some_below w (inside w x))
zero_mask w x h = go (cases_Bool (eqb x 0)) (cases_Bool (some_below w (inside w x)))
  where
    none : x ≡ 0 → some_below w (inside w x) ≡ false
    none e = some_below_empty w (inside w x) (λ v l. ap (λ (n : ℕ). inside w n v) e ∙ inside_zero w v)

    out : some_below w (inside w x) ≡ false → (v : ℕ) → v < w → bit x v ≡ false
    out e v l =
        let i : inside w x v ≡ false = some_below_all w (inside w x) e v l in
        let t : ltb v w ≡ true = lt-ltb v w l in
        grind arith

    go : (eqb x 0 ≡ true) ⊎ (eqb x 0 ≡ false) → (some_below w (inside w x) ≡ true) ⊎ (some_below w (inside w x) ≡ false) → eqb x 0 ≡ not (some_below w (inside w x))
    go (inl e) (inl s) = let z : x ≡ 0 = grind (arith, nat_tests) in absurd (both_ways _ (none z) s)
    go (inl e) (inr s) = grind arith
    go (inr e) (inl s) = grind arith
    go (inr e) (inr s) = let z : x ≡ 0 = zero_from_bits w x h (out s) in absurd (grind (arith, nat_tests))

-- two masks share a member exactly if `&` leaves something
pub meeting_masks : (w x y : ℕ) → bit_and x y < 2 ^ w → not (eqb (bit_and x y) 0) ≡ some_below w (λ v. inside w x v && inside w y v)
meeting_masks w x y h =
    let z : eqb (bit_and x y) 0 ≡ not (some_below w (inside w (bit_and x y))) = zero_mask w (bit_and x y) h in
    let s : some_below w (inside w (bit_and x y)) ≡ some_below w (λ v. inside w x v && inside w y v) = some_below_same w _ _ (λ v l. inside_and w x y v) in
    grind arith
