-- What a clock policy holds and what that means, for any number of tasks and variables.
use Rattle.std.specs.Prelude.{◌≡◌, ℕ, ◌<◌, ◌≤◌, Bool, true, false, ◌&&◌, is_some, Some, None, Option, nat_lt}
use Rattle.policy.specs.Limits.{tasks, variables}
use Rattle.policy.specs.Facts.{Facts, some_below}

-- a transaction that has begun and has not ended
pub record Running : Type 0 where
  -- what the clock was when it began
  pub read_version : ℕ
  -- what it has read, but for what it had written before
  pub reads : ℕ → Bool
  -- what it has written
  pub writes : ℕ → Bool

-- what a clock policy holds
pub record Held : Type 0 where
  pub clock : ℕ
  -- of each variable: its version, given by the last commit that wrote it
  pub version : ℕ → ℕ
  -- of each task: its transaction, if it has one
  pub transaction : ℕ → Option Running

-- the read set of a task
abbrev pub reads_of : Option Running → ℕ → Bool
reads_of None v = false
reads_of (Some x) v = x.reads v

-- the write set of a task
abbrev pub writes_of : Option Running → ℕ → Bool
writes_of None v = false
writes_of (Some x) v = x.writes v

-- a version is above the task's read version: the variable was written since the task began
abbrev pub newer : Option Running → ℕ → Bool
newer None n = false
newer (Some x) n = nat_lt x.read_version n

-- task t has read v, and v was written since
abbrev pub stale : Held → ℕ → ℕ → Bool
stale s t v = reads_of (s.transaction t) v && newer (s.transaction t) (s.version v)

-- the same of one transaction
abbrev pub stale_for : Running → (ℕ → ℕ) → ℕ → Bool
stale_for x version v = x.reads v && nat_lt x.read_version (version v)

-- the six facts
abbrev pub meaning : Held → Facts
meaning s =
    record {
      active = λ t. is_some (s.transaction t);
      reads = λ t v. reads_of (s.transaction t) v;
      writes = λ t v. writes_of (s.transaction t) v;
      behind = λ t. some_below variables (stale s t);
      no_read = λ t v. newer (s.transaction t) (s.version v);
      no_write = λ t v. false;
    }

-- what a policy of these many tasks and variables can hold: no number is above the clock, and nothing is held of
-- a task or a variable that there isn't
pub record Sound (s : Held) : Type 0 where
  pub versions : (v : ℕ) → s.version v ≤ s.clock
  pub read_versions : (t : ℕ) (x : Running) → s.transaction t ≡ Some x → x.read_version ≤ s.clock
  pub task : (t : ℕ) → is_some (s.transaction t) ≡ true → t < tasks
  pub unwritten : (v : ℕ) → variables ≤ v → s.version v ≡ 0
  pub read_below : (t v : ℕ) → reads_of (s.transaction t) v ≡ true → v < variables
  pub written_below : (t v : ℕ) → writes_of (s.transaction t) v ≡ true → v < variables
