-- Two-phase locking: a variable is locked by the task that has read or written it, until the task ends.
use Rattle.std.specs.Prelude.{◌≡◌, ℕ, Bool, false, not, ◌&&◌, ◌||◌, ◌==◌}
use Rattle.policy.specs.Facts.{Facts}
use Rattle.transactions.specs.Sets.{Sets, some_other}

-- t has v locked
abbrev pub locked : Sets → ℕ → ℕ → Bool
locked s t v = s.reads t v || s.writes t v

-- no variable is locked by two tasks
abbrev pub Apart : Sets → Type 0
Apart s = (t u v : ℕ) → ((locked s t v && locked s u v) && not (t == u)) ≡ false

-- a task other than t has v locked
abbrev pub locked_by_other : Sets → ℕ → ℕ → Bool
locked_by_other s t v = some_other (λ u. locked s u v) t

-- what an open task may neither read nor write
abbrev pub barred : Sets → ℕ → ℕ → Bool
barred s t v = s.active t && locked_by_other s t v

-- the six facts: both bars are what others have locked, and nobody is ever behind
abbrev pub facts_of : Sets → Facts
facts_of s = record {
  active = s.active;
  reads = s.reads;
  writes = s.writes;
  behind = λ t. false;
  no_read = barred s;
  no_write = barred s;
}
