-- What `some_below` tells of a set, for any bound.
use Rattle.std.proofs.Common.{◌≡◌, ℕ, zero, suc, ◌+◌, ◌<◌, Bool, true, false, ◌||◌, ◌⊎◌, Decides, refl, inl, inr, add-one, arith}
use Rattle.std.proofs.lemmas.Bool.{cases_Bool, both_ways, or_from}
use Rattle.std.proofs.lemmas.Bool.Decides.{Decides-below_or}
use Rattle.policy.specs.Facts.{some_below}

-- one more place
pub some_below_more : (n : ℕ) (s : ℕ → Bool) → some_below (suc n) s ≡ (s n || some_below n s)
unfolding some_below
some_below_more n s = refl

-- no place at all
pub some_below_none : (s : ℕ → Bool) → some_below 0 s ≡ false
unfolding some_below
some_below_none s = refl

-- it is true exactly if there is a member below n
decides : (n : ℕ) (s : ℕ → Bool) → Decides (some_below n s) ((v : ℕ) × (v < n) × (s v ≡ true))
unfolding some_below
decides n s =
    Decides-below_or s (λ v. s v ≡ true) (λ m. some_below m s) (λ v. ((λ e. e), (λ e. e))) refl (λ m. refl) n

-- a set with a member below n has one that can be named
pub some_below_witness : (n : ℕ) (s : ℕ → Bool) → some_below n s ≡ true → (v : ℕ) × (v < n) × (s v ≡ true)
some_below_witness n s e = (decides n s).0 e

-- a member below n makes it true
pub some_below_member : (n : ℕ) (s : ℕ → Bool) (v : ℕ) → v < n → s v ≡ true → some_below n s ≡ true
some_below_member n s v h e = (decides n s).1 (v, h, e)

-- without one, every place below n is out
pub some_below_all : (n : ℕ) (s : ℕ → Bool) → some_below n s ≡ false → (v : ℕ) → v < n → s v ≡ false
some_below_all n s e v h = go (cases_Bool (s v))
  where
    go : (s v ≡ true) ⊎ (s v ≡ false) → s v ≡ false
    go (inl k) = absurd (both_ways (some_below n s) e (some_below_member n s v h k))
    go (inr k) = k

-- and the other way round
pub some_below_empty : (n : ℕ) (s : ℕ → Bool) → ((v : ℕ) → v < n → s v ≡ false) → some_below n s ≡ false
some_below_empty n s a = go (cases_Bool (some_below n s))
  where
    none : (v : ℕ) × (v < n) × (s v ≡ true) → ⊥
    none w = both_ways (s w.0) (a w.0 w.1) w.2

    go : (some_below n s ≡ true) ⊎ (some_below n s ≡ false) → some_below n s ≡ false
    go (inl k) = absurd (none (some_below_witness n s k))
    go (inr k) = k

-- a larger set has a member below n if the smaller one has
pub some_below_mono : (n : ℕ) (s t : ℕ → Bool) → ((v : ℕ) → v < n → s v ≡ true → t v ≡ true) → some_below n s ≡ true → some_below n t ≡ true
some_below_mono n s t a e = go (some_below_witness n s e)
  where
    go : (v : ℕ) × (v < n) × (s v ≡ true) → some_below n t ≡ true
    go w = some_below_member n t w.0 w.1 (a w.0 w.1 w.2)

-- sets that agree below n
pub some_below_same : (n : ℕ) (s t : ℕ → Bool) → ((v : ℕ) → v < n → s v ≡ t v) → some_below n s ≡ some_below n t
unfolding some_below
some_below_same zero s t a = refl
some_below_same (suc n) s t a =
    let e : s n ≡ t n = a n (omega arith) in
    let r : some_below n s ≡ some_below n t = some_below_same n s t (λ v h. a v (omega arith)) in
    cc

-- the step of a loop that has met no member yet
pub some_below_step : (n : ℕ) (s : ℕ → Bool) → some_below n s ≡ false → s n ≡ false → some_below (n + 1) s ≡ false
unfolding some_below
some_below_step n s e f = rw add-one (or_from (s n) (some_below n s) f e)
