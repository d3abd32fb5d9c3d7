-- DSTM with invisible reads: a task owns what it has written, and a commit makes the readers of what it wrote fall behind.
use Rattle.std.specs.Prelude.{◌≡◌, ℕ, Bool, true, false, cond, not, ◌&&◌, ◌||◌, List, Some, None, Option, ◌==◌, nat_lt}
use Rattle.policy.specs.Limits.{variables}
use Rattle.policy.specs.Facts.{Facts, some_below}
use Rattle.policy.specs.Moves.{Move, begin, read, write, read_refused, write_refused, commit, commit_refused, abort}
use Rattle.transactions.specs.Sets.{Sets, some_other, conflict, no_transactions}
use Rattle.transactions.specs.Moved.{moved}
use Rattle.transactions.specs.Rows.{row}
use Rattle.transactions.specs.declared.transaction.Transaction.{Transaction}
use Rattle.varset.specs.Members.{member, both}
use Rattle.own.specs.declared.Standing.{Standing}
use Rattle.own.specs.declared.Standing.TheVariants.{InTime, Behind}

-- what the policy holds
pub record State : Type 0 where
  -- which tasks are open, and what each has read and written
  pub sets : Sets
  -- the open tasks that are behind
  pub flags : ℕ → Bool

-- the transaction, if there is one, is noted as behind
abbrev pub is_behind : Option Standing → Bool
is_behind None = false
is_behind (Some InTime) = false
is_behind (Some Behind) = true

-- the state that the transactions and their notes stand for
abbrev pub state_of : Sets → (ℕ → Option Standing) → State
state_of s notes = record { sets = s; flags = λ t. is_behind (notes t) }

-- t is open and behind
abbrev pub lags : State → ℕ → Bool
lags x t = x.sets.active t && x.flags t

-- an open task other than t has written v, and so owns it
abbrev pub owned_by_other : Sets → ℕ → ℕ → Bool
owned_by_other s t v = some_other (λ u. s.writes u v) t

-- the six facts: a task that is behind may read nothing, and nobody may write what another owns
abbrev pub facts_of : State → Facts
facts_of x = record {
  active = x.sets.active;
  reads = x.sets.reads;
  writes = x.sets.writes;
  behind = lags x;
  no_read = λ t v. lags x t && nat_lt v variables;
  no_write = λ t v. x.sets.active t && owned_by_other x.sets t v;
}

-- the flags after each move: a begin clears that of its task, an end takes it away, and a commit of t raises those of the tasks that have read what it wrote
abbrev pub flags_after : Move → State → ℕ → Bool
flags_after (begin t) x u = x.flags u && not (u == t)
flags_after (read t v) x u = x.flags u
flags_after (write t v) x u = x.flags u
flags_after (read_refused t v) x u = x.flags u && not (u == t)
flags_after (write_refused t v) x u = x.flags u && not (u == t)
flags_after (commit t) x u = (x.flags u || conflict x.sets u t) && not (u == t)
flags_after (commit_refused t) x u = x.flags u && not (u == t)
flags_after (abort t) x u = x.flags u && not (u == t)

-- a new policy: no task is open, and no flag is raised
abbrev pub idle : State
idle = record { sets = no_transactions; flags = λ t. false }

-- the transaction in a row once what `written` says has been committed: it is behind if it has read some of it
abbrev pub overtaken : (ℕ → Bool) → Option (Transaction Standing) → Option (Transaction Standing)
overtaken written None = None
overtaken written (Some x) =
    Some (record { reads = x.reads; writes = x.writes; note = cond (some_below variables (both (member x.reads) written)) Behind x.note })

-- each row is overtaken by what was written
abbrev pub Overtaken : (ℕ → Bool) → List (Option (Transaction Standing)) → List (Option (Transaction Standing)) → Type 0
Overtaken written before after = (u : ℕ) → row after u ≡ overtaken written (row before u)

-- the state after each move
abbrev pub next : Move → State → State
next m x = record { sets = moved m x.sets; flags = flags_after m x }
