-- What a policy means, whatever it holds inside: six facts for each task.
-- Tasks and variables are natural numbers, and a set of variables is its membership test.
use Rattle.std.specs.Prelude.{◌≡◌, ℕ, zero, suc, ◌<◌, Bool, true, false, not, ◌&&◌, ◌||◌, ◌≢◌, ◌⊎◌}
use Rattle.policy.specs.Limits.{tasks, variables}

pub record Facts : Type 0 where
  -- the task has a transaction that has begun and has not ended
  pub active : ℕ → Bool
  -- its read set: what its transaction has read, but for what it had written before
  pub reads : ℕ → ℕ → Bool
  -- its write set
  pub writes : ℕ → ℕ → Bool
  -- it is behind: a variable of its read set was written by a commit since
  pub behind : ℕ → Bool
  -- its no-read set: the variables that it may not read
  pub no_read : ℕ → ℕ → Bool
  -- its no-write set: the variables that it may not write
  pub no_write : ℕ → ℕ → Bool

-- some number below n is in the set
unfoldable pub some_below : ℕ → (ℕ → Bool) → Bool
some_below zero s = false
some_below (suc n) s = s n || some_below n s

-- a read is granted if the task has written the variable, or isn't barred from reading it
abbrev pub may_read : Facts → ℕ → ℕ → Bool
may_read f t v = f.writes t v || not (f.no_read t v)

abbrev pub may_write : Facts → ℕ → ℕ → Bool
may_write f t v = not (f.no_write t v)

-- a commit is refused if the task is behind and has written something, or the policy is strict
abbrev pub may_commit : Bool → Facts → ℕ → Bool
may_commit strict f t = not (f.behind t && (strict || some_below variables (f.writes t)))

-- what holds of every policy's facts: a task without a transaction has empty sets and isn't behind, and no
-- fact speaks of a task or a variable that there isn't
pub record Proper (f : Facts) : Type 0 where
  pub no_reads : (t v : ℕ) → f.active t ≡ false → f.reads t v ≡ false
  pub no_writes : (t v : ℕ) → f.active t ≡ false → f.writes t v ≡ false
  pub not_behind : (t : ℕ) → f.active t ≡ false → f.behind t ≡ false
  pub may_read_all : (t v : ℕ) → f.active t ≡ false → f.no_read t v ≡ false
  pub may_write_all : (t v : ℕ) → f.active t ≡ false → f.no_write t v ≡ false
  pub task : (t : ℕ) → f.active t ≡ true → t < tasks
  pub read_below : (t v : ℕ) → f.reads t v ≡ true → v < variables
  pub written_below : (t v : ℕ) → f.writes t v ≡ true → v < variables
  pub no_read_below : (t v : ℕ) → f.no_read t v ≡ true → v < variables
  pub no_write_below : (t v : ℕ) → f.no_write t v ≡ true → v < variables

-- no task has a transaction
abbrev pub Fresh : Facts → Type 0
Fresh f = (t : ℕ) → f.active t ≡ false

-- an active task other than t has read or written v
pub record Touched (f : Facts) (t v : ℕ) : Type 0 where
  pub by : ℕ
  pub other : by ≢ t
  pub active : f.active by ≡ true
  pub touched : (f.reads by v ≡ true) ⊎ (f.writes by v ≡ true)
