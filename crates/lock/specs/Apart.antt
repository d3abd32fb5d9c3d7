-- No move lets two tasks lock one variable.
use Rattle.std.specs.Prelude.{◌≡◌, ℕ, true, false, not, ◌&&◌, ◌⊎◌, ◌==◌}
use Rattle.std.proofs.Common.{inl, inr, arith}
use Rattle.std.proofs.lemmas.Bool.{cases_Bool}
use Rattle.std.proofs.lemmas.Bool.Decides.{nat_tests}
use Rattle.policy.specs.Limits.{tasks}
use Rattle.policy.proofs.SomeBelow.{some_below_all}
use Rattle.transactions.specs.Sets.{Sets, Sound, begun, ended, has_read, has_written}
use Rattle.lock.specs.Locks.{locked, Apart, locked_by_other}

-- a task that has something locked is open
pub locked_open : (s : Sets) → Sound s → (t v : ℕ) → locked s t v ≡ true → s.active t ≡ true
locked_open s h t v e =
    let r : s.active t ≡ false → s.reads t v ≡ false = h.no_reads t v in
    let w : s.active t ≡ false → s.writes t v ≡ false = h.no_writes t v in
    grind arith

-- what no other task below the number of tasks has locked, no other task has
pub others_free : (s : Sets) → Sound s → (t v : ℕ) → locked_by_other s t v ≡ false → (u : ℕ) → (not (u == t) && locked s u v) ≡ false
others_free s h t v e u = go (cases_Bool (locked s u v))
  where
    go : (locked s u v ≡ true) ⊎ (locked s u v ≡ false) → (not (u == t) && locked s u v) ≡ false
    go (inl k) = some_below_all tasks (λ x. not (x == t) && locked s x v) e u (h.task u (locked_open s h u v k))
    go (inr k) = grind arith

pub apart_begun : (s : Sets) (t : ℕ) → Apart s → Apart (begun t s)
apart_begun s t a x y w = let e = a x y w in grind arith

pub apart_ended : (s : Sets) (t : ℕ) → Apart s → Apart (ended t s)
apart_ended s t a x y w = let e = a x y w in grind arith

pub apart_read : (s : Sets) (t v : ℕ) → Sound s → Apart s → locked_by_other s t v ≡ false → Apart (has_read t v s)
apart_read s t v h a e x y w =
    let k = a x y w in
    let m = others_free s h t v e x in
    let n = others_free s h t v e y in
    grind (arith, nat_tests)

pub apart_written : (s : Sets) (t v : ℕ) → Sound s → Apart s → locked_by_other s t v ≡ false → Apart (has_written t v s)
apart_written s t v h a e x y w =
    let k = a x y w in
    let m = others_free s h t v e x in
    let n = others_free s h t v e y in
    grind (arith, nat_tests)
