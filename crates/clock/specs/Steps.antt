-- What a clock policy holds after each call: a function of what it held before.
use Rattle.std.specs.Prelude.{◌≡◌, ℕ, zero, suc, ◌+◌, Bool, cond, List, [], ◌∷◌, Some, None, Option, ◌==◌}
use Rattle.policy.specs.Limits.{tasks, variables}
use Rattle.policy.specs.Facts.{some_below}
use Rattle.policy.specs.Moves.{Move, begin, read, write, read_refused, write_refused, commit, commit_refused, abort}
use Rattle.varset.specs.Members.{nothing, plus}
use Rattle.clock.specs.Different.{different, different_below}
use Rattle.clock.specs.Held.{Held, Running, writes_of, meaning}

-- the highest clock there is
abbrev pub top : ℕ
top = 4294967295

-- task t's transaction is x now, and nothing else changes
abbrev pub with_transaction : ℕ → Option Running → Held → Held
with_transaction t x s =
    record { clock = s.clock; version = s.version; transaction = λ u. cond (u == t) x (s.transaction u) }

-- a transaction that begins now
abbrev pub begun : ℕ → Running
begun clock = record { read_version = clock; reads = nothing; writes = nothing }

-- a read of v enters the read set unless v was written before
abbrev pub and_read : ℕ → Running → Running
and_read v x =
    record {
      read_version = x.read_version;
      reads = cond (x.writes v) x.reads (plus x.reads v);
      writes = x.writes;
    }

-- the same of a task that may have no transaction
abbrev pub with_read : ℕ → Option Running → Option Running
with_read v None = None
with_read v (Some x) = Some (and_read v x)

-- a write of v enters the write set
abbrev pub and_write : ℕ → Running → Running
and_write v x = record { read_version = x.read_version; reads = x.reads; writes = plus x.writes v }

-- the same of a task that may have no transaction
abbrev pub with_write : ℕ → Option Running → Option Running
with_write v None = None
with_write v (Some x) = Some (and_write v x)

-- the read version of a task with the ones before it
abbrev pub and_read_version : Option Running → List ℕ → List ℕ
and_read_version None ns = ns
and_read_version (Some x) ns = x.read_version ∷ ns

-- the read versions of the tasks below n that have a transaction
unfoldable pub read_versions : ℕ → (ℕ → Option Running) → List ℕ
read_versions zero ts = []
read_versions (suc n) ts = and_read_version (ts n) (read_versions n ts)

-- a transaction under another read version
abbrev pub at_version : (ℕ → ℕ) → Option Running → Option Running
at_version number None = None
at_version number (Some x) =
    Some (record { read_version = number x.read_version; reads = x.reads; writes = x.writes })

-- every number replaced by the count of different read versions below it, the clock by the count of all of them
abbrev pub renumbered : Held → Held
renumbered s =
    let versions : List ℕ = read_versions tasks s.transaction in
    record {
      clock = different versions;
      version = λ v. different_below versions (s.version v);
      transaction = λ t. at_version (different_below versions) (s.transaction t);
    }

-- what is held means the same before and after
abbrev pub NoFactChanged : Held → Held → Type 0
NoFactChanged before after = meaning after ≡ meaning before

-- what is held once the clock can rise
abbrev pub with_room : Held → Held
with_room s = cond (s.clock == top) (renumbered s) s

-- the clock is one higher, and is the version of everything in the set
abbrev pub stamped : (ℕ → Bool) → Held → Held
stamped set s =
    record {
      clock = s.clock + 1;
      version = λ v. cond (set v) (s.clock + 1) (s.version v);
      transaction = s.transaction;
    }

-- what was written becomes new, if anything was
abbrev pub published : (ℕ → Bool) → Held → Held
published set s = cond (some_below variables set) (stamped set (with_room s)) s

-- what is held after a call
abbrev pub next : Move → Held → Held
next (begin t) s = with_transaction t (Some (begun s.clock)) s
next (read t v) s = with_transaction t (with_read v (s.transaction t)) s
next (write t v) s = with_transaction t (with_write v (s.transaction t)) s
next (read_refused t v) s = with_transaction t None s
next (write_refused t v) s = with_transaction t None s
next (commit t) s = with_transaction t None (published (writes_of (s.transaction t)) s)
next (commit_refused t) s = with_transaction t None s
next (abort t) s = with_transaction t None s

-- what a new policy holds: its clock, and nothing else
abbrev pub new_policy : ℕ → Held
new_policy clock = record { clock = clock; version = λ v. 0; transaction = λ t. None }
