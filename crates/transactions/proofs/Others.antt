-- Bars that come from what other tasks have: `on` says that the barred task t is open.
use Rattle.std.proofs.Common.{◌≡◌, ℕ, ◌<◌, Bool, true, false, not, ◌&&◌, eqb, ◌≢◌, get_or, sym, subst, arith}
use Rattle.std.specs.List.{range_with_len, IsAnyAnswer}
use Rattle.std.proofs.lemmas.List.FromFn.{length-range_with_len, get_or-range_with_len}
use Rattle.std.proofs.lemmas.Bool.{and_parts, and_from, not-true, eqb-false}
use Rattle.policy.specs.Limits.{tasks}
use Rattle.policy.specs.Facts.{some_below}
use Rattle.policy.proofs.SomeBelow.{some_below_witness, some_below_member, some_below_empty, some_below_mono, some_below_same}
use Rattle.transactions.specs.Sets.{some_other}

-- another task that passes the test
pub record Other (test : ℕ → Bool) (t : ℕ) : Type 0 where
  pub by : ℕ
  pub below : by < tasks
  pub other : by ≢ t
  pub passes : test by ≡ true

-- the tasks other than t agree on two tests
abbrev pub Agree : (ℕ → Bool) → (ℕ → Bool) → ℕ → Type 0
Agree test test' t = (u : ℕ) → (not (eqb u t) && test u) ≡ (not (eqb u t) && test' u)

-- of the tasks other than t, those that pass the first test pass the second
abbrev pub Within : (ℕ → Bool) → (ℕ → Bool) → ℕ → Type 0
Within test test' t = (u : ℕ) → (not (eqb u t) && test u) ≡ true → (not (eqb u t) && test' u) ≡ true

pub other_witness : (test : ℕ → Bool) (t : ℕ) → some_other test t ≡ true → Other test t
other_witness test t e = go (some_below_witness tasks (λ u. not (eqb u t) && test u) e)
  where
    go : (u : ℕ) × (u < tasks) × ((not (eqb u t) && test u) ≡ true) → Other test t
    go w =
        let k = and_parts (not (eqb w.0 t)) (test w.0) w.2 in
        record { by = w.0; below = w.1; other = eqb-false w.0 t (not-true _ k.0); passes = k.1 }

pub same_bar : (on on' : Bool) (test test' : ℕ → Bool) (t : ℕ) → on ≡ on' → Agree test test' t → (on && some_other test t) ≡ (on' && some_other test' t)
same_bar on on' test test' t a l =
    let e : some_other test t ≡ some_other test' t = some_below_same tasks _ _ (λ u h. l u) in
    cc

pub fewer_bars : (on on' : Bool) (test test' : ℕ → Bool) (t : ℕ) → on' ≡ true → Within test test' t → (on && some_other test t) ≡ true → (on' && some_other test' t) ≡ true
fewer_bars on on' test test' t a l e =
    and_from on' (some_other test' t) a
    (some_below_mono tasks (λ u. not (eqb u t) && test u) (λ u. not (eqb u t) && test' u) (λ u h. l u) (and_parts on (some_other test t) e).1)

-- what `any` answers over the numbers below n
pub any_below : (n : ℕ) (test : ℕ → Bool) (r : Bool) → IsAnyAnswer (λ u b. test u ≡ b) (range_with_len 0 n) r → r ≡ some_below n test
any_below n test true h =
    let l : h.0 < n = omega (arith, length-range_with_len 0 n, h.1) in
    let e : get_or (range_with_len 0 n) h.0 0 ≡ h.0 = omega (arith, get_or-range_with_len 0 n h.0 0 l) in
    sym (some_below_member n test h.0 l (subst (λ u. test u ≡ true) e (h.2 0)))
any_below n test false h =
    sym (some_below_empty n test (λ v l.
    let e : get_or (range_with_len 0 n) v 0 ≡ v = omega (arith, get_or-range_with_len 0 n v 0 l) in
    subst (λ u. test u ≡ false) e (h v 0 (omega arith) (omega (arith, length-range_with_len 0 n, l)))))
