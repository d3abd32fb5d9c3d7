-- What the bars of an ownership policy say.
use Rattle.std.specs.Prelude.{◌≡◌, ℕ, ◌<◌, true, false, ◌&&◌, ◌≢◌, nat_lt}
use Rattle.std.proofs.Common.{inr, arith}
use Rattle.std.proofs.lemmas.Bool.{and_parts, ltb-true}
use Rattle.policy.specs.Limits.{variables}
use Rattle.policy.specs.Facts.{Touched, Proper}
use Rattle.transactions.specs.Sets.{Sets, Sound}
use Rattle.transactions.proofs.Others.{Other, other_witness}
use Rattle.own.specs.Ownership.{State, lags, owned_by_other, facts_of}

-- a task that has written something is open
pub owner_open : (s : Sets) → Sound s → (t v : ℕ) → s.writes t v ≡ true → s.active t ≡ true
owner_open s h t v e = let w : s.active t ≡ false → s.writes t v ≡ false = h.no_writes t v in grind arith

-- what another owns, an open task has written
pub owned_touched : (x : State) (r : Sets) → Sound x.sets → (t v : ℕ) → ((u : ℕ) → u ≢ t → r.writes u v ≡ true → x.sets.writes u v ≡ true) → (r.active t && owned_by_other r t v) ≡ true → Touched (facts_of x) t v
owned_touched x r h t v l e = go (other_witness (λ u. r.writes u v) t (and_parts (r.active t) (owned_by_other r t v) e).1)
  where
    go : Other (λ u. r.writes u v) t → Touched (facts_of x) t v
    go w =
        let k : x.sets.writes w.by v ≡ true = l w.by w.other w.passes in
        record { by = w.by; other = w.other; active = owner_open x.sets h w.by v k; touched = inr k }

owned_below : (s : Sets) → Sound s → (t v : ℕ) → (s.active t && owned_by_other s t v) ≡ true → v < variables
owned_below s h t v e = go (other_witness (λ u. s.writes u v) t (and_parts (s.active t) (owned_by_other s t v) e).1)
  where
    go : Other (λ u. s.writes u v) t → v < variables
    go w = h.written_below w.by v w.passes

-- the facts of an ownership policy are proper
pub proper : (x : State) → Sound x.sets → Proper (facts_of x)
proper x h = record {
  no_reads = h.no_reads;
  no_writes = h.no_writes;
  not_behind = λ t e. rw e;
  may_read_all = λ t v e. rw e;
  may_write_all = λ t v e. rw e;
  task = h.task;
  read_below = h.read_below;
  written_below = h.written_below;
  no_read_below = λ t v e. ltb-true v variables (and_parts (lags x t) (nat_lt v variables) e).1;
  no_write_below = owned_below x.sets h;
}
