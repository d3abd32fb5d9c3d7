-- What stays true from call to call, and why each part of it must be there.
--
-- A run is lawful because, after every call, the committed transactions already stand in a serial order, and every active
-- transaction knows where it could still stand in that order. A task that isn't behind could commit now: all that it was answered
-- from the shared values still stands there, so it could stand last. A task that is behind can't stand last any more, but it
-- could have stood at the moment before the commit that put it behind; since then nothing was committed that it may still read.
use Rattle.std.proofs.Common.{◌≡◌, ℕ, ◌<◌, ◌≤◌, true, false, cond, List, [], ◌∷◌, ◌++◌, ℤ}
use mathlib.Core.List.{Memᴰ, Permᴰ}
use mathlib.Core.Option.{Option, none, some}
use Rattle.history.specs.Steps.{zeros}
use Rattle.history.specs.Transactions.{unended, policy_refused, Transaction, Ledger, calls}
use Rattle.history.specs.Alone.{nothing_pending, pend, Exact, SharedAnswer}
use Rattle.history.specs.Serial.{all_committed, replay, AllExact, InOrder}
use Rattle.history.specs.Law.{Stood, OneMoment, Rival, HasRival}
use Rattle.history.proofs.Views.{View}
use Rattle.history.proofs.Accesses.{Within}

-- U writes nothing that task u may read
abbrev pub Fences : View → ℕ → Transaction → Type 0
Fences a u U = (v : ℕ) → a.facts.no_read u v ≡ false → pend nothing_pending U.accesses v ≡ none

-- What is known of the transaction T of a task t that is behind.
pub record Behind (a : View) (L : Ledger) (order : List Transaction) (t : ℕ) (T : Transaction) : Type 0 where
  -- T's place: after `pre`, before `post`. A read-only commit of T puts it there, so the place must be kept for as long as T runs.
  pub pre : List Transaction
  pub post : List Transaction
  pub cut : order ≡ pre ++ post
  -- At that place all of T's reads give their answers.
  pub exact : Exact (replay zeros pre) nothing_pending T.accesses
  -- What T may still read was not written since, so that its next reads fit that place too.
  pub fenced : (U : Transaction) → Memᴰ U post → Fences a t U
  -- None that ended before T began stands after the place: T may be put before all of `post`.
  pub recent : (U : Transaction) → Memᴰ U post → U.last < T.first → ⊥
  -- The values at that place were shared after some call since T began: the moment of T's further reads.
  pub moment : ℕ
  pub stood : Stood L.moments moment (replay zeros pre)
  pub since : T.first ≤ moment
  -- Whoever put T behind is the rival for any refusal to come.
  pub variable : ℕ
  pub read : (x : ℤ) × SharedAnswer T variable x
  pub rival : Rival L t T.first (calls L) variable

-- What is known of the transaction T of a task t that isn't behind.
pub record UpToDate (a : View) (L : Ledger) (t : ℕ) (T : Transaction) : Type 0 where
  -- All that T was answered still stands: a commit puts it last.
  pub exact : Exact a.shared nothing_pending T.accesses
  -- Every bar has somebody to blame: the rival of a refused read or write.
  pub no_read : (v : ℕ) → a.facts.no_read t v ≡ true → Rival L t T.first (calls L) v
  pub no_write : (v : ℕ) → a.facts.no_write t v ≡ true → Rival L t T.first (calls L) v

-- One moment of T's life at which all was as T was answered. It is kept apart from the place of a task that is behind, since the
-- moment of that place may lie after T's last call, and then belongs to T's life only once T makes another.
pub record Held (L : Ledger) (T : Transaction) : Type 0 where
  pub moment : ℕ
  pub values : ℕ → ℤ
  pub stood : Stood L.moments moment values
  pub since : T.first ≤ moment
  pub until : moment ≤ T.last
  pub exact : Exact values nothing_pending T.accesses

-- What is known of the transaction T that task t has now.
pub record Standing (a : View) (L : Ledger) (order : List Transaction) (t : ℕ) (T : Transaction) : Type 0 where
  -- What was read off belongs to this task, is unended, and lies within the calls so far.
  pub task : T.task ≡ t
  pub fate : T.fate ≡ unended
  pub begun : T.first < calls L
  pub lasted : T.last < calls L
  pub within : Within (calls L) T.accesses
  -- The table's pending values are T's writes, and exactly those that the policy has in the write set.
  pub pending : (v : ℕ) → pend nothing_pending T.accesses v ≡ cond (a.facts.writes t v) (some (a.pending t v)) none
  -- The policy's read set is what T was answered from the shared values: a commit of another puts T behind exactly if it must.
  pub reads : (v : ℕ) → a.facts.reads t v ≡ true → (x : ℤ) × SharedAnswer T v x
  pub answers : (v : ℕ) (x : ℤ) → SharedAnswer T v x → a.facts.reads t v ≡ true
  pub held : Held L T
  pub up_to_date : a.facts.behind t ≡ false → UpToDate a L t T
  pub behind : a.facts.behind t ≡ true → Behind a L order t T

-- What the law says of a transaction that has ended. Nothing about it changes again, since a ledger only grows.
pub record Settled (L : Ledger) (T : Transaction) : Type 0 where
  pub begun : T.first < calls L
  pub moment : OneMoment L T
  pub rival : (asked : Option ℕ) (passed : List ℕ) → T.fate ≡ policy_refused asked passed → HasRival L T asked

-- The newest moment is the shared values now.
abbrev pub Latest : List (ℕ → ℤ) → (ℕ → ℤ) → Type 0
Latest [] s = Unit {0}
Latest (r ∷ rs) s = r ≡ s

-- Task t has a transaction, and it is known to stand well.
pub record Active (a : View) (L : Ledger) (order : List Transaction) (t : ℕ) : Type 0 where
  pub transaction : Transaction
  pub is : L.current t ≡ some transaction
  pub standing : Standing a L order t transaction

-- The invariant: the order of the committed transactions, what each task has now, and what has ended.
pub record Invariant (a : View) (L : Ledger) (order : List Transaction) : Type 0 where
  -- The committed transactions stand in a serial order.
  pub each_once : Permᴰ order (all_committed L.ended)
  pub exact : AllExact zeros order
  pub ends : replay zeros order ≡ a.shared
  pub in_order : InOrder order
  -- All of them have begun, so that one that ends now may stand after any of them.
  pub bounded : (U : Transaction) → Memᴰ U order → U.first < calls L
  -- A commit that puts a task behind leaves it the moment before: the newest so far.
  pub latest : Latest L.moments a.shared
  -- The policy's tasks are the ledger's.
  pub active : (t : ℕ) → a.facts.active t ≡ true → Active a L order t
  pub idle : (t : ℕ) → a.facts.active t ≡ false → L.current t ≡ none
  pub settled : (T : Transaction) → Memᴰ T L.ended → Settled L T
