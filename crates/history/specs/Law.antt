-- The law: what holds of the transactions of every table after every list of calls.
use Rattle.std.specs.Prelude.{◌≡◌, ℕ, ◌<◌, ◌≤◌, ◌≢◌, ◌⊎◌, List, ◌∷◌, length, ℤ}
use mathlib.Core.List.{Memᴰ, Permᴰ}
use Rattle.std.proofs.Math.Option.{Option, some}
use Rattle.history.specs.Steps.{zeros}
use Rattle.history.specs.Transactions.{Access, Fate, unended, committed, aborted, policy_refused, Transaction, Ledger, History, read_off}
use Rattle.history.specs.Alone.{SharedAnswer, Touches, Unwritten}
use Rattle.history.specs.Serial.{all_committed, replay, AllExact, InOrder}

-- all committed transactions stand in one serial order, each once, that starts from zeros and ends in the values now shared
pub record SerialOrder (L : Ledger) (now : ℕ → ℤ) : Type 0 where
  pub order : List Transaction
  pub each_once : Permᴰ order (all_committed L.ended)
  pub exact : AllExact zeros order
  pub ends : (v : ℕ) → replay zeros order v ≡ now v
  pub in_order : InOrder order

-- s were the shared values after call i
pub data Stood : List (ℕ → ℤ) → ℕ → (ℕ → ℤ) → Type 0 where
  just : {s : ℕ → ℤ} {ss : List (ℕ → ℤ)} → Stood (s ∷ ss) (length ss) s
  earlier : {s newer : ℕ → ℤ} {ss : List (ℕ → ℤ)} {i : ℕ} → Stood ss i s → Stood (newer ∷ ss) i s

-- after some call within T's life, every shared value that T was answered stood in its variable
pub record OneMoment (L : Ledger) (T : Transaction) : Type 0 where
  pub moment : ℕ
  pub values : ℕ → ℤ
  pub stood : Stood L.moments moment values
  pub since : T.first ≤ moment
  pub until : moment ≤ T.last
  pub agree : (v : ℕ) (x : ℤ) → SharedAnswer T v x → values v ≡ x

-- v stands in the list of a refused collect, before the refused place
abbrev pub Listed : Fate → ℕ → Type 0
Listed unended v = ⊥
Listed committed v = ⊥
Listed aborted v = ⊥
Listed (policy_refused asked passed) v = Memᴰ v passed

-- such a variable counts as read, unless the transaction had written it
abbrev pub CountsAsRead : Transaction → ℕ → Type 0
CountsAsRead T v = Listed T.fate v × Unwritten T v

-- T had read or written v before call k
abbrev pub HadTouched : Transaction → ℕ → ℕ → Type 0
HadTouched T v k = ((d : Access) × Memᴰ d T.accesses × Touches k v d) ⊎ (CountsAsRead T v × (T.last < k))

-- U is one that ended in call i or later, or that is unended
abbrev pub Lasts : Ledger → Transaction → ℕ → Type 0
Lasts L U i = (Memᴰ U L.ended × (i ≤ U.last)) ⊎ (L.current U.task ≡ some U)

-- for a transaction of task t that began in call i: another, open during its life, had read or written v before call k
pub record Rival (L : Ledger) (t i k v : ℕ) : Type 0 where
  pub rival : Transaction
  pub other : rival.task ≢ t
  pub began : rival.first < k
  pub lasts : Lasts L rival i
  pub touched : HadTouched rival v k

-- v is what T was asking for, or T had read it
abbrev pub Wanted : Transaction → Option ℕ → ℕ → Type 0
Wanted T asked v = (asked ≡ some v) ⊎ (((x : ℤ) × SharedAnswer T v x) ⊎ CountsAsRead T v)

-- by its refusal, T had a rival for what it wanted or had read
pub record HasRival (L : Ledger) (T : Transaction) (asked : Option ℕ) : Type 0 where
  pub variable : ℕ
  pub wanted : Wanted T asked variable
  pub rival : Rival L T.task T.first T.last variable

-- T is one of the transactions read off
abbrev pub Known : Ledger → Transaction → Type 0
Known L T = Memᴰ T L.ended ⊎ ((t : ℕ) × (L.current t ≡ some T))

-- the law of a history that ends in the shared values `now`
pub record Lawful (h : History) (now : ℕ → ℤ) : Type 0 where
  pub serial_order : SerialOrder (read_off h) now
  pub one_moment : (T : Transaction) → Known (read_off h) T → OneMoment (read_off h) T
  pub rivals : (T : Transaction) (asked : Option ℕ) (passed : List ℕ) → Known (read_off h) T → T.fate ≡ policy_refused asked passed
      → HasRival (read_off h) T asked
