-- What the rows of a table of transactions mean, whatever is noted of each besides.
use Rattle.std.specs.Prelude.{◌≡◌, ℕ, Bool, false, cond, ◌&&◌, List, is_some, Some, None, Option, ◌==◌, nat_lt, slice_index_or}
use Rattle.policy.specs.Limits.{tasks}
use Rattle.varset.specs.Members.{member, Holds}
use Rattle.transactions.specs.Sets.{Sets}
use Rattle.transactions.specs.declared.transaction.Transaction.{Transaction}
use Rattle.transactions.specs.declared.Transactions.{Transactions}

module _ {N : Type 0} where
  -- its transaction, if any, has read v
  abbrev pub reads_in : Option (Transaction N) → ℕ → Bool
  reads_in None v = false
  reads_in (Some x) v = member x.reads v

  -- its transaction, if any, has written v
  abbrev pub writes_in : Option (Transaction N) → ℕ → Bool
  writes_in None v = false
  writes_in (Some x) v = member x.writes v

  -- what is noted of its transaction, if any
  abbrev pub note_in : Option (Transaction N) → Option N
  note_in None = None
  note_in (Some x) = Some x.note

  -- the row of task t, if there is such a task
  unfoldable pub row : List (Option (Transaction N)) → ℕ → Option (Transaction N)
  row rows t = cond (nat_lt t tasks) (slice_index_or rows t None) None

  -- the row of task t, if there is such a task, is o, and the others are as they were
  abbrev pub Puts : ℕ → Option (Transaction N) → List (Option (Transaction N)) → List (Option (Transaction N)) → Type 0
  Puts t o before after = (u : ℕ) → row after u ≡ cond (u == t && nat_lt t tasks) o (row before u)

  -- what the rows say of each task
  abbrev pub sets_of : List (Option (Transaction N)) → Sets
  sets_of rows = record {
    active = λ t. is_some (row rows t);
    reads = λ t v. reads_in (row rows t) v;
    writes = λ t v. writes_in (row rows t) v;
  }

  -- the open transactions, their read sets and their write sets
  unfoldable pub sets : Transactions N → Sets
  sets x = sets_of x.rows

  -- what is noted of each task's transaction
  abbrev pub notes_of : List (Option (Transaction N)) → ℕ → Option N
  notes_of rows t = note_in (row rows t)

  unfoldable pub notes : Transactions N → ℕ → Option N
  notes x = notes_of x.rows

  -- the notes once that of task t, if there is such a task, is n
  abbrev pub noted : ℕ → Option N → (ℕ → Option N) → ℕ → Option N
  noted t n before u = cond (u == t && nat_lt t tasks) n (before u)

  -- x is the transaction of task t
  pub record IsOf (p : Transactions N) (t : ℕ) (x : Transaction N) : Type 0 where
    pub reads : Holds x.reads ((sets p).reads t)
    pub writes : Holds x.writes ((sets p).writes t)
    pub note : notes p t ≡ Some x.note
