-- The rules: what each call of a policy may change, from the facts f before it to the facts g after it.
use Rattle.std.specs.Prelude.{◌≡◌, ℕ, Bool, true, false, ◌≢◌, ◌⊎◌}
use Rattle.policy.specs.Facts.{Facts, may_read, may_write, may_commit, Touched}

-- a fit call with its outcome: granted, or refused by the policy, which ends the task's transaction
pub data Move : Type 0 where
  begin : ℕ → Move
  read write : ℕ → ℕ → Move
  read_refused write_refused : ℕ → ℕ → Move
  commit commit_refused : ℕ → Move
  abort : ℕ → Move

-- no call opens or closes the transaction of a task other than t
abbrev pub Only : ℕ → Facts → Facts → Type 0
Only t f g = (u : ℕ) → u ≢ t → g.active u ≡ f.active u

-- R holds of every other active task
abbrev pub Others : ℕ → Facts → (ℕ → Type 0) → Type 0
Others t f R = (u : ℕ) → u ≢ t → f.active u ≡ true → R u

-- the read set and the write set stay as they are
pub record SameSets (f g : Facts) (u : ℕ) : Type 0 where
  pub reads : (v : ℕ) → g.reads u v ≡ f.reads u v
  pub writes : (v : ℕ) → g.writes u v ≡ f.writes u v

-- what u may read and write stays as it is
pub record SameBars (f g : Facts) (u : ℕ) : Type 0 where
  pub no_read : (v : ℕ) → g.no_read u v ≡ f.no_read u v
  pub no_write : (v : ℕ) → g.no_write u v ≡ f.no_write u v

-- nothing of u changes
pub record Unchanged (f g : Facts) (u : ℕ) : Type 0 where
  pub sets : SameSets f g u
  pub behind : g.behind u ≡ f.behind u
  pub bars : SameBars f g u

pub record Begun (t : ℕ) (f g : Facts) : Type 0 where
  pub was : f.active t ≡ false
  pub active : g.active t ≡ true
  pub behind : g.behind t ≡ false
  pub reads : (v : ℕ) → g.reads t v ≡ false
  pub writes : (v : ℕ) → g.writes t v ≡ false
  pub no_read : (v : ℕ) → g.no_read t v ≡ true → Touched f t v
  pub no_write : (v : ℕ) → g.no_write t v ≡ true → Touched f t v
  pub only : Only t f g
  pub others : Others t f (Unchanged f g)

-- another task after a granted access to v: what it may not read or write gains at most v and loses nothing
pub record Beside (v : ℕ) (f g : Facts) (u : ℕ) : Type 0 where
  pub sets : SameSets f g u
  pub behind : g.behind u ≡ f.behind u
  pub no_read_kept : (w : ℕ) → f.no_read u w ≡ true → g.no_read u w ≡ true
  pub no_read_gain : (w : ℕ) → w ≢ v → g.no_read u w ≡ f.no_read u w
  pub no_write_kept : (w : ℕ) → f.no_write u w ≡ true → g.no_write u w ≡ true
  pub no_write_gain : (w : ℕ) → w ≢ v → g.no_write u w ≡ f.no_write u w

-- a granted read: v enters the read set unless the task has written it
pub record HasRead (t v : ℕ) (f g : Facts) : Type 0 where
  pub was : f.active t ≡ true
  pub granted : may_read f t v ≡ true
  pub active : g.active t ≡ true
  pub behind : g.behind t ≡ f.behind t
  pub own : f.writes t v ≡ true → g.reads t v ≡ f.reads t v
  pub shared : f.writes t v ≡ false → g.reads t v ≡ true
  pub reads : (w : ℕ) → w ≢ v → g.reads t w ≡ f.reads t w
  pub writes : (w : ℕ) → g.writes t w ≡ f.writes t w
  pub bars : SameBars f g t
  pub only : Only t f g
  pub others : Others t f (Beside v f g)

-- a granted write: v enters the write set
pub record HasWritten (t v : ℕ) (f g : Facts) : Type 0 where
  pub was : f.active t ≡ true
  pub granted : may_write f t v ≡ true
  pub active : g.active t ≡ true
  pub behind : g.behind t ≡ f.behind t
  pub reads : (w : ℕ) → g.reads t w ≡ f.reads t w
  pub written : g.writes t v ≡ true
  pub writes : (w : ℕ) → w ≢ v → g.writes t w ≡ f.writes t w
  pub bars : SameBars f g t
  pub only : Only t f g
  pub others : Others t f (Beside v f g)

-- the promise to a task that is behind after t committed: its no-read set gains what was written and loses nothing
pub record Fenced (t : ℕ) (f g : Facts) (u : ℕ) : Type 0 where
  pub kept : (v : ℕ) → f.no_read u v ≡ true → g.no_read u v ≡ true
  pub gains : (v : ℕ) → f.writes t v ≡ true → g.no_read u v ≡ true

-- the promise to a task that isn't: what it may not read or write gains at most what was written
pub record Near (t : ℕ) (f g : Facts) (u : ℕ) : Type 0 where
  pub no_read : (v : ℕ) → g.no_read u v ≡ true → (f.no_read u v ≡ true) ⊎ (f.writes t v ≡ true)
  pub no_write : (v : ℕ) → g.no_write u v ≡ true → (f.no_write u v ≡ true) ⊎ (f.writes t v ≡ true)

-- another task after a granted commit of t: it falls behind exactly if it had read what was written
pub record Passed (t : ℕ) (f g : Facts) (u : ℕ) : Type 0 where
  pub sets : SameSets f g u
  pub stays_behind : f.behind u ≡ true → g.behind u ≡ true
  pub falls_behind : (v : ℕ) → f.reads u v ≡ true → f.writes t v ≡ true → g.behind u ≡ true
  pub only_so : g.behind u ≡ true → (f.behind u ≡ true) ⊎ ((v : ℕ) × (f.reads u v ≡ true) × (f.writes t v ≡ true))
  pub fenced : g.behind u ≡ true → Fenced t f g u
  pub near : g.behind u ≡ false → Near t f g u

pub record Committed (strict : Bool) (t : ℕ) (f g : Facts) : Type 0 where
  pub was : f.active t ≡ true
  pub granted : may_commit strict f t ≡ true
  pub gone : g.active t ≡ false
  pub only : Only t f g
  pub others : Others t f (Passed t f g)

-- another task after t ended with nothing shared: its bars gain nothing, and if it is behind its no-read set loses nothing
pub record Spared (f g : Facts) (u : ℕ) : Type 0 where
  pub sets : SameSets f g u
  pub behind : g.behind u ≡ f.behind u
  pub no_read : (v : ℕ) → g.no_read u v ≡ true → f.no_read u v ≡ true
  pub no_write : (v : ℕ) → g.no_write u v ≡ true → f.no_write u v ≡ true
  pub fenced : f.behind u ≡ true → (v : ℕ) → f.no_read u v ≡ true → g.no_read u v ≡ true

-- t's transaction ended with nothing shared
pub record Ended (t : ℕ) (f g : Facts) : Type 0 where
  pub was : f.active t ≡ true
  pub gone : g.active t ≡ false
  pub only : Only t f g
  pub others : Others t f (Spared f g)

-- a refused call ends the transaction, and is refused only where the facts say so
pub record Refused (may : Bool) (t : ℕ) (f g : Facts) : Type 0 where
  pub barred : may ≡ false
  pub ended : Ended t f g

-- the rule that each move keeps
abbrev pub Keeps : Bool → Move → Facts → Facts → Type 0
Keeps strict (begin t) f g = Begun t f g
Keeps strict (read t v) f g = HasRead t v f g
Keeps strict (write t v) f g = HasWritten t v f g
Keeps strict (read_refused t v) f g = Refused (may_read f t v) t f g
Keeps strict (write_refused t v) f g = Refused (may_write f t v) t f g
Keeps strict (commit t) f g = Committed strict t f g
Keeps strict (commit_refused t) f g = Refused (may_commit strict f t) t f g
Keeps strict (abort t) f g = Ended t f g
