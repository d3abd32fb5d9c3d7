-- What a bar of a task says of the others' locks.
use Rattle.std.specs.Prelude.{◌≡◌, ℕ, ◌<◌, true, false, ◌≢◌, ◌⊎◌, refl}
use Rattle.std.proofs.Common.{inl, inr, arith}
use Rattle.std.proofs.lemmas.Bool.{and_parts, or_cases, ne_eqb}
use Rattle.policy.specs.Limits.{variables}
use Rattle.policy.specs.Facts.{Touched, Proper}
use Rattle.transactions.specs.Sets.{Sets, Sound}
use Rattle.transactions.proofs.Others.{Other, other_witness}
use Rattle.lock.specs.Locks.{locked, Apart, locked_by_other, barred, facts_of}
use Rattle.lock.specs.Apart.{locked_open}

-- a bar comes from an open task that has read or written the variable
pub barred_touched : (s r : Sets) → Sound s → (t v : ℕ) → ((x : ℕ) → x ≢ t → locked r x v ≡ true → locked s x v ≡ true) → barred r t v ≡ true → Touched (facts_of s) t v
barred_touched s r h t v l e = go (other_witness (λ u. locked r u v) t (and_parts (r.active t) (locked_by_other r t v) e).1)
  where
    go : Other (λ u. locked r u v) t → Touched (facts_of s) t v
    go w =
        let k : locked s w.by v ≡ true = l w.by w.other w.passes in
        record {
          by = w.by;
          other = w.other;
          active = locked_open s h w.by v k;
          touched = or_cases (s.reads w.by v) (s.writes w.by v) k;
        }

-- what a task has locked itself, no other has
pub own_free : (s : Sets) → Apart s → (t v : ℕ) → locked_by_other s t v ≡ true → locked s t v ≡ false
own_free s a t v e = go (other_witness (λ u. locked s u v) t e)
  where
    go : Other (λ u. locked s u v) t → locked s t v ≡ false
    go w = let d = ne_eqb w.by t w.other in let k = a w.by t v in grind arith

-- a barred variable is one that there is
barred_below : (s : Sets) → Sound s → (t v : ℕ) → barred s t v ≡ true → v < variables
barred_below s h t v e = go (other_witness (λ u. locked s u v) t (and_parts (s.active t) (locked_by_other s t v) e).1)
  where
    either : (u : ℕ) → (s.reads u v ≡ true) ⊎ (s.writes u v ≡ true) → v < variables
    either u (inl k) = h.read_below u v k
    either u (inr k) = h.written_below u v k

    go : Other (λ u. locked s u v) t → v < variables
    go w = either w.by (or_cases (s.reads w.by v) (s.writes w.by v) w.passes)

-- the facts of a lock policy are proper
pub proper : (s : Sets) → Sound s → Proper (facts_of s)
proper s h = record {
  no_reads = h.no_reads;
  no_writes = h.no_writes;
  not_behind = λ t e. refl;
  may_read_all = λ t v e. rw e;
  may_write_all = λ t v e. rw e;
  task = h.task;
  read_below = h.read_below;
  written_below = h.written_below;
  no_read_below = barred_below s h;
  no_write_below = barred_below s h;
}
