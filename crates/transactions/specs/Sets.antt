-- Which tasks have a transaction, with their read sets and write sets, and what a call makes of them.
use Rattle.std.specs.Prelude.{◌≡◌, ℕ, ◌<◌, Bool, true, false, not, ◌&&◌, ◌||◌, ◌==◌, nat_lt}
use Rattle.policy.specs.Limits.{tasks, variables}
use Rattle.policy.specs.Facts.{some_below}

pub record Sets : Type 0 where
  -- the task has a transaction
  pub active : ℕ → Bool
  -- its read set
  pub reads : ℕ → ℕ → Bool
  -- its write set
  pub writes : ℕ → ℕ → Bool

-- there is a task t, and it has a transaction
abbrev pub fit_task : Sets → ℕ → Bool
fit_task s t = nat_lt t tasks && s.active t

-- there is a task t, and it has none
abbrev pub fit_begin : Sets → ℕ → Bool
fit_begin s t = nat_lt t tasks && not (s.active t)

-- there are a task t with a transaction and a variable v
abbrev pub fit_access : Sets → ℕ → ℕ → Bool
fit_access s t v = nat_lt t tasks && (nat_lt v variables && s.active t)

-- some task other than t passes the test
abbrev pub some_other : (ℕ → Bool) → ℕ → Bool
some_other test t = some_below tasks (λ u. not (u == t) && test u)

-- the task `reader` has read something that the task `writer` has written
abbrev pub conflict : Sets → ℕ → ℕ → Bool
conflict s reader writer = some_below variables (λ v. s.reads reader v && s.writes writer v)

-- no task has a transaction
abbrev pub no_transactions : Sets
no_transactions = record { active = λ u. false; reads = λ u w. false; writes = λ u w. false }

-- t, if there is such a task, has a new transaction with empty sets
abbrev pub begun : ℕ → Sets → Sets
begun t s = record {
  active = λ u. s.active u || (u == t && nat_lt t tasks);
  reads = λ u w. s.reads u w && not (u == t);
  writes = λ u w. s.writes u w && not (u == t);
}

-- t's transaction is gone
abbrev pub ended : ℕ → Sets → Sets
ended t s = record {
  active = λ u. s.active u && not (u == t);
  reads = λ u w. s.reads u w && not (u == t);
  writes = λ u w. s.writes u w && not (u == t);
}

-- v enters the read set of t's transaction, unless it is in the write set
abbrev pub has_read : ℕ → ℕ → Sets → Sets
has_read t v s = record {
  active = s.active;
  reads = λ u w. s.reads u w || ((u == t && w == v) && (s.active t && (nat_lt v variables && not (s.writes t v))));
  writes = s.writes;
}

-- v enters the write set of t's transaction
abbrev pub has_written : ℕ → ℕ → Sets → Sets
has_written t v s = record {
  active = s.active;
  reads = s.reads;
  writes = λ u w. s.writes u w || ((u == t && w == v) && (s.active t && nat_lt v variables));
}

-- what holds of all such sets: only a task with a transaction has members in them, and there are such tasks and variables
pub record Sound (s : Sets) : Type 0 where
  pub no_reads : (t v : ℕ) → s.active t ≡ false → s.reads t v ≡ false
  pub no_writes : (t v : ℕ) → s.active t ≡ false → s.writes t v ≡ false
  pub task : (t : ℕ) → s.active t ≡ true → t < tasks
  pub read_below : (t v : ℕ) → s.reads t v ≡ true → v < variables
  pub written_below : (t v : ℕ) → s.writes t v ≡ true → v < variables
