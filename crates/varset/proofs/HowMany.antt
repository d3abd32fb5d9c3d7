-- How many members below a bound a set has, and has left without one of them.
use Rattle.std.proofs.Common.{◌≡◌, ℕ, zero, suc, ◌<◌, Bool, true, false, eqb, ◌⊎◌, refl, ap, ◌∙◌, inl, inr, arith}
use Rattle.std.proofs.lemmas.Bool.{cases_Bool, ne_eqb, eqb-true, eqb-false}
use Rattle.varset.specs.Below.{how_many_below}
use Rattle.varset.specs.Members.{minus}

how_many_same : (n : ℕ) (s t : ℕ → Bool) → ((v : ℕ) → v < n → s v ≡ t v) → how_many_below n s ≡ how_many_below n t
unfolding how_many_below
how_many_same zero s t a = refl
how_many_same (suc n) s t a =
    let e : s n ≡ t n = a n (omega arith) in
    let r : how_many_below n s ≡ how_many_below n t = how_many_same n s t (λ v h. a v (omega arith)) in
    cc

-- another place of a set without k
minus_other : (s : ℕ → Bool) (k v : ℕ) → eqb v k ≡ false → minus s k v ≡ s v
minus_other s k v e = grind arith

-- without a member of its own below n, a set has one less
pub how_many_minus : (n : ℕ) (s t : ℕ → Bool) (k : ℕ) → k < n → s k ≡ true → ((v : ℕ) → t v ≡ minus s k v) → suc (how_many_below n t) ≡ how_many_below n s
unfolding how_many_below
how_many_minus zero s t k h i a = absurd (omega arith)
how_many_minus (suc n) s t k h i a = go (cases_Bool (eqb n k)) (how_many_minus n s t k)
  where
    go : (eqb n k ≡ true) ⊎ (eqb n k ≡ false) → (k < n → s k ≡ true → ((v : ℕ) → t v ≡ minus s k v) → suc (how_many_below n t) ≡ how_many_below n s) → suc (how_many_below (suc n) t) ≡ how_many_below (suc n) s
    go (inl e) fewer =
        let q : n ≡ k = eqb-true n k e in
        let in_s : s n ≡ true = ap s q ∙ i in
        let out_of_t : t n ≡ false = let m = a n in grind arith in
        let same : how_many_below n t ≡ how_many_below n s = how_many_same n t s (λ v l. a v ∙ minus_other s k v (ne_eqb v k (λ z. omega arith))) in
        rw (out_of_t, in_s) (omega arith)
    go (inr e) fewer =
        let one_less = fewer (omega (arith, eqb-false n k e)) i a in
        let same : t n ≡ s n = a n ∙ minus_other s k n e in
        rw same (omega (arith, one_less))
