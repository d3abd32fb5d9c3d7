-- How the fields of a clock policy are read.
use Rattle.std.specs.Prelude.{◌≡◌, ℕ, ◌<◌, Bool, false, cond, List, Some, None, Option, ◌==◌, nat_lt, slice_index}
use Rattle.policy.specs.Limits.{tasks, variables}
use Rattle.varset.specs.Members.{member}
use Rattle.transactions.specs.declared.transaction.Transaction.{Transaction}
use Rattle.transactions.specs.declared.Transactions.{Transactions}
use Rattle.transactions.specs.Rows.{row as row_of}
use Rattle.clock.specs.Different.{different_below}
use Rattle.clock.specs.Held.{Running}
use Rattle.clock.specs.Steps.{read_versions, at_version}

-- a transaction of the program: what is noted of it is its read version
abbrev pub running : Transaction ℕ → Running
running x = record { read_version = x.note; reads = member x.reads; writes = member x.writes }

-- a row of the table: a transaction or none
abbrev pub row : Option (Transaction ℕ) → Option Running
row None = None
row (Some x) = Some (running x)

-- the transaction of each task
abbrev pub rows : Transactions ℕ → ℕ → Option Running
rows x t = row (row_of x.rows t)

-- the version of each variable
abbrev pub numbers : List ℕ → ℕ → ℕ
numbers ns v = cond (nat_lt v variables) (slice_index ns v) 0

-- the read version, if there is one, is above the clock n
abbrev pub begun_after : ℕ → Option ℕ → Bool
begun_after n None = false
begun_after n (Some m) = nat_lt n m

-- the transaction, if there is one, has this read version
abbrev pub has_version : ℕ → Option (Transaction ℕ) → Bool
has_version n None = false
has_version n (Some x) = x.note == n

-- the new number of n: how many different read versions below it the transactions have
abbrev pub new_number : Transactions ℕ → ℕ → ℕ
new_number x = different_below (read_versions tasks (rows x))

-- each transaction has its new read version
abbrev pub RenumberedRows : Transactions ℕ → Transactions ℕ → Type 0
RenumberedRows before after = (t : ℕ) → rows after t ≡ at_version (new_number before) (rows before t)

-- each version has its new number
abbrev pub RenumberedVersions : (ℕ → ℕ) → List ℕ → List ℕ → Type 0
RenumberedVersions number before after = (v : ℕ) → v < variables → slice_index after v ≡ number (slice_index before v)

-- the variables in the set have the version n, and the others the one that they had
abbrev pub StampedVersions : (ℕ → Bool) → ℕ → List ℕ → List ℕ → Type 0
StampedVersions set n before after = (v : ℕ) → v < variables → slice_index after v ≡ cond (set v) n (slice_index before v)
