-- Counting different numbers keeps their order, for lists of any length.
use Rattle.std.specs.Prelude.{◌≡◌, ℕ, zero, suc, ◌+◌, ◌<◌, ◌≤◌, true, false, cond, not, ◌&&◌, ◌||◌, List, [], ◌∷◌, length, ◌==◌, nat_lt, refl}
use Rattle.std.proofs.Common.{sym, ap, inl, inr, arith}
use Rattle.std.proofs.lemmas.Bool.{cases_Bool, cases_lt, cases_eq}
use Rattle.std.proofs.lemmas.Bool.Decides.{nat_tests}
use Rattle.varset.specs.Below.{how_many_below}
use Rattle.clock.specs.Different.{among, different, different_below}

-- a higher bound counts no fewer
pub below_mono : (ns : List ℕ) (x y : ℕ) → x ≤ y → different_below ns x ≤ different_below ns y
unfolding different_below
below_mono [] x y h = omega arith
below_mono (n ∷ ns) x y h =
    let r : different_below ns x ≤ different_below ns y = below_mono ns x y h in
    grind (arith, nat_tests)

-- a bound above a number of the list counts more than that number as a bound
pub below_strict : (ns : List ℕ) (a x : ℕ) → among ns a ≡ true → a < x → different_below ns a < different_below ns x
unfolding different_below among
below_strict [] a x e h = grind (arith, nat_tests)
below_strict (n ∷ ns) a x e h =
    let m : different_below ns a ≤ different_below ns x = below_mono ns a x (omega arith) in
    elim (cases_Bool (among ns a)) [
      | inl k ↦ let r : different_below ns a < different_below ns x = below_strict ns a x k h in grind (arith, nat_tests)
      | inr k ↦ let i : n ≡ a = grind (arith, nat_tests) in grind (arith, nat_tests)
    ]

-- so a number of the list and any other number stay in order
pub below_order : (ns : List ℕ) (a x : ℕ) → among ns a ≡ true → nat_lt (different_below ns a) (different_below ns x) ≡ nat_lt a x
below_order ns a x e =
    elim (cases_lt a x) [
      | inl h ↦ let r : different_below ns a < different_below ns x = below_strict ns a x e h in grind (arith, nat_tests)
      | inr h ↦ let r : different_below ns x ≤ different_below ns a = below_mono ns x a h in grind (arith, nat_tests)
    ]

-- nothing is below zero
pub below_zero : (ns : List ℕ) → different_below ns 0 ≡ 0
unfolding different_below
below_zero [] = refl
below_zero (n ∷ ns) = let r : different_below ns 0 ≡ 0 = below_zero ns in grind (arith, nat_tests)

-- there are no more below a bound than in all
pub below_all : (ns : List ℕ) (x : ℕ) → different_below ns x ≤ different ns
unfolding different_below different
below_all [] x = omega arith
below_all (n ∷ ns) x = let r : different_below ns x ≤ different ns = below_all ns x in grind (arith, nat_tests)

-- a bound above every number of the list counts all of them
pub below_bound : (ns : List ℕ) (x : ℕ) → ((a : ℕ) → among ns a ≡ true → a < x) → different_below ns x ≡ different ns
unfolding different_below different among
below_bound [] x h = refl
below_bound (n ∷ ns) x h =
    let r : different_below ns x ≡ different ns = below_bound ns x (λ a e. h a (grind (arith, nat_tests))) in
    let k : n < x = h n (grind (arith, nat_tests)) in
    grind (arith, nat_tests)

-- there are no more different numbers than numbers
pub different_le : (ns : List ℕ) → different ns ≤ length ns
unfolding different
different_le [] = omega arith
different_le (n ∷ ns) = let r : different ns ≤ length ns = different_le ns in grind (arith, nat_tests)

-- one more number is counted if it is below the bound and new
pub below_new : (n : ℕ) (ns : List ℕ) (x : ℕ) → n < x → among ns n ≡ false → different_below (n ∷ ns) x ≡ different_below ns x + 1
unfolding different_below
below_new n ns x h e = grind (arith, nat_tests)

pub below_known : (n : ℕ) (ns : List ℕ) (x : ℕ) → among ns n ≡ true → different_below (n ∷ ns) x ≡ different_below ns x
unfolding different_below
below_known n ns x e = grind (arith, nat_tests)

pub below_above : (n : ℕ) (ns : List ℕ) (x : ℕ) → x ≤ n → different_below (n ∷ ns) x ≡ different_below ns x
unfolding different_below
below_above n ns x h = grind (arith, nat_tests)

pub below_none : (x : ℕ) → different_below [] x ≡ 0
unfolding different_below
below_none x = refl

-- one more number in the list
counts_more : (n : ℕ) (ns : List ℕ) (x : ℕ)
    → how_many_below x (λ y. (n == y) || among ns y) ≡ cond (nat_lt n x && not (among ns n)) 1 0 + how_many_below x (among ns)
unfolding how_many_below
counts_more n ns zero = grind (arith, nat_tests)
counts_more n ns (suc x) =
    let r
    : how_many_below x (λ y. (n == y) || among ns y)
    ≡ cond (nat_lt n x && not (among ns n)) 1 0 + how_many_below x (among ns) =
    counts_more n ns x in
    elim (cases_eq n x) [
      | inl e ↦ let k : among ns n ≡ among ns x = ap (among ns) e in grind (arith, nat_tests)
      | inr e ↦ grind (arith, nat_tests)
    ]

counts_none : (x : ℕ) → how_many_below x (λ y. false) ≡ 0
unfolding how_many_below
counts_none zero = refl
counts_none (suc x) = let r : how_many_below x (λ y. false) ≡ 0 = counts_none x in omega arith

-- the different numbers below x are counted once each: they are the numbers below x that are in the list
pub below_counts : (ns : List ℕ) (x : ℕ) → different_below ns x ≡ how_many_below x (among ns)
unfolding different_below among
below_counts [] x = sym (counts_none x)
below_counts (n ∷ ns) x =
    let r : different_below ns x ≡ how_many_below x (among ns) = below_counts ns x in
    let k = counts_more n ns x in
    omega arith
